-- Where frames may begin in a list of symbols, by index.
use Rattle.std.specs.Prelude.{◌≡◌, refl, Bool, true, false, ◌&&◌, List, ℕ, ◌+◌, ◌-◌, ◌<◌, ◌≤◌, leb, eqb, get_or}
use Rattle.std.proofs.Common.{◌∙◌, arith, leb-true, leb-false}
use Rattle.timecode.specs.Formats.{is_x}
use Rattle.timecode.proofs.Laws.Tests.{by-test}
use Rattle.timecode.proofs.Laws.Windows.{lead-one, lead-none}
use Rattle.timecode.specs.Stream.{lead}
use Rattle.timecode.specs.declared.Format.{Format}
use Rattle.following.specs.Rows.{leads_frame, opens_frame}

-- a frame may begin with symbol i
abbrev pub opens_at : Format → List ℕ → ℕ → Bool
opens_at f ss i = opens_frame f (get_or ss (i - 1) 0) (get_or ss i 0)

-- a mark stands there, and so many before it
abbrev pub marks_meet : ℕ → List ℕ → ℕ → Bool
marks_meet m ss i = eqb (get_or ss i 0) 2 && eqb (get_or ss (i - m) 0) 2

twice : (b : Bool) → (b && b) ≡ (b && true)
twice true = refl
twice false = refl

-- so many as the format asks for: where it asks for none, that is the same mark
pub meet-opens : (f : Format) (ss : List ℕ) (m i : ℕ) → m ≡ lead f → marks_meet m ss i ≡ opens_at f ss i
unfolding opens_frame leads_frame
meet-opens f ss m i e =
    by-test (is_x f)
    (λ x. let same : i - m ≡ i = omega (arith, lead-none f x) in rw (same, x) (twice (eqb (get_or ss i 0) 2)))
    (λ n. let one : m ≡ 1 = e ∙ lead-one f n in rw (one, n))

pub none-open-joined : (p : ℕ → Bool) (from at more : ℕ) → ((j : ℕ) → from ≤ j → j < at → p j ≡ false) → ((j : ℕ) → j < more → p (at + j) ≡ false) → (j : ℕ) → from ≤ j → j < at + more → p j ≡ false
none-open-joined p from at more before here j a b =
    by-test (leb at j)
    (λ y. let l = leb-true at j y in let there : at + (j - at) ≡ j = omega arith in rw there at (here (j - at) (omega arith)))
    (λ n. before j a (leb-false at j n))

-- Openings after index `from`, each fewer than n symbols after the one before, up to `last`: the frame that one of them begins is not whole before the next.
pub data CloseOpenings (f : Format) (n : ℕ) (ss : List ℕ) (from : ℕ) : ℕ → Type 0 where
  start : CloseOpenings f n ss from from
  later : (before last : ℕ) → CloseOpenings f n ss from before → before < last → last < before + n → opens_at f ss last ≡ true → CloseOpenings f n ss from last

-- it is so at a place, counted from 1, or it is 0
abbrev pub IsHighest : (ℕ → Bool) → ℕ → ℕ → ℕ → Type 0
IsHighest p from count r = (r ≤ count) × (1 ≤ r → p (from + (r - 1)) ≡ true)

-- the next opening that is close enough
pub close-next : (f : Format) (n : ℕ) (ss : List ℕ) (from last count more : ℕ) → CloseOpenings f n ss from last → count < n → IsHighest (opens_at f ss) (last + 1) count more → 1 ≤ more → CloseOpenings f n ss from (last + more)
close-next f n ss from last count more c b h some =
    let there : last + 1 + (more - 1) ≡ last + more = omega arith in
    later last (last + more) c (omega arith) (omega (arith, h.0)) (rw there at (h.1 some))
