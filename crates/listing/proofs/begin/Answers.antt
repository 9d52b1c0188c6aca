-- `begin` meets its contract: 1 unless the first line is exactly so.
use Rattle.std.proofs.Common.{◌≡◌, ◌∙◌, List, ℕ, ◌≤◌, length, get_or, Err, arith, leb, eqb}
use borrow.Author.Tests.{eq-eqb, le-leb, leb-true, eqb-true}
use Rattle.timecode.proofs.Laws.Tests.{by-test}
use Rattle.timecode.specs.declared.Refusal.TheVariants.{UnknownFormat}
use Rattle.timecode.specs.Stream.{is_setting}
use Rattle.stream.specs.Feeding.{made_of}
use Rattle.timecode.specs.Stream.{two_frames}
use Rattle.listing.specs.Printed.{format_in, is_first_line}
use Rattle.listing.specs.Promises.{made_from_head}
use Rattle.listing.proofs.begin.Goals as goal

made : (bytes : List ℕ) → 3 ≤ length bytes → get_or bytes 2 0 ≡ 10 → 48 ≤ get_or bytes 1 0 → made_of (format_in bytes) two_frames ≡ made_from_head bytes
unfolding made_from_head is_first_line made_of is_setting
made bytes long ends digit = rw (le-leb _ _ long, eq-eqb _ _ ends, le-leb _ _ digit)

refused : (bytes : List ℕ) → (3 ≤ length bytes → get_or bytes 2 0 ≡ 10 → 48 ≤ get_or bytes 1 0 → ⊥) → Err UnknownFormat ≡ made_from_head bytes
unfolding made_from_head is_first_line
refused bytes never =
    by-test (leb 3 (length bytes))
    (λ long.
    by-test (eqb (get_or bytes 2 0) 10)
    (λ ends.
    by-test (leb 48 (get_or bytes 1 0))
    (λ digit. absurd (never (leb-true _ _ long) (eqb-true _ _ ends) (leb-true _ _ digit)))
    (λ other. rw (long, ends, other)))
    (λ other. rw (long, other)))
    (λ short. rw short)

pub returns-in-48-to-255 : goal.returns-in-48-to-255
returns-in-48-to-255 c = c.fresh.ensures ∙ made _ c.in-48-to-255.len_at_least (omega arith) (omega arith)

pub returns-in_default : goal.returns-in_default
returns-in_default c = refused _ (λ long ends digit. omega arith)

pub returns-in_default-2 : goal.returns-in_default-2
returns-in_default-2 c = refused _ (λ long ends digit. omega arith)

pub returns-in_default-3 : goal.returns-in_default-3
returns-in_default-3 c = refused _ (λ long ends digit. omega arith)
