-- Readers that pass 13 and 26: what an accepted symbol makes of them and what they answer to it.
use Rattle.std.specs.Prelude.{◌≡◌, refl, true, ◌&&◌, List, ℕ, ◌+◌, ◌%◌, ◌≤◌, ltb, eqb, leb, take}
use Rattle.std.proofs.Common.{sym, mod-lt, lt-ltb, le-leb}
use Rattle.timecode.specs.Formats.{is_symbol, known, size}
use Rattle.timecode.proofs.Laws.Checks.{refused-no-report}
use Rattle.timecode.proofs.Laws.Marks.{size-positive}
use Rattle.timecode.proofs.Laws.Tests.{by-test, and_left}
use Rattle.timecode.specs.Stream.{is_setting}
use Rattle.timecode.specs.declared.Answer.{Answer}
use Rattle.timecode.specs.declared.Refusal.{Refusal}
use Rattle.register.specs.declared.Register.{Register}
use Rattle.stream.proofs.FeedLists.{setting-next, setting-after, valid-next, valid-after, quiet-no-refusal}
use Rattle.stream.specs.Feeding.{is_valid, with_register, with_symbol_of, next_of, answer_after, answer_of}
use Rattle.stream.specs.Refinement.{reader_after}
use Rattle.stream.specs.declared.Reader.{Reader}

-- neither 13 nor 26
abbrev pub Ready : Reader → Type 0
Ready r = (is_valid r ≡ true) × (is_setting r.setting ≡ true)

pub next-with-symbol : (r : Reader) (s : ℕ) → Ready r → s ≤ 3 → next_of r s ≡ with_symbol_of r s
unfolding next_of
next-with-symbol r s v b = let y : is_symbol s ≡ true = le-leb s 3 b in rw (v.0, v.1, y)

pub answer-of-symbol : (r : Reader) (s : ℕ) → Ready r → s ≤ 3 → answer_of r s ≡ answer_after (next_of r s)
unfolding answer_of
answer-of-symbol r s v b = let y : is_symbol s ≡ true = le-leb s 3 b in rw (v.0, v.1, y)

pub ready_with : (r : Reader) (m : ℕ) (h : Register) → Ready r → Ready (with_register r ((r.place + m) % size r.format) h)
unfolding is_valid
ready_with r m h v = (rw (and_left (known r.format) (ltb r.place (size r.format)) v.0) (lt-ltb ((r.place + m) % size r.format) (size r.format) (mod-lt (r.place + m) (size-positive r.format))), v.1)

pub ready-next : (r : Reader) (s : ℕ) → Ready r → Ready (next_of r s)
ready-next r s v = (valid-next r s v.0, rw (setting-next r s) v.1)

pub ready-after : (r : Reader) (ss : List ℕ) → Ready r → Ready (reader_after r ss)
ready-after r ss v = (valid-after r ss v.0, rw (setting-after r ss) v.1)

pub reader-start : (r : Reader) (ss : List ℕ) → r ≡ reader_after r (take 0 ss)
unfolding reader_after
reader-start r ss = refl

-- the answer to an accepted symbol is no refusal
pub never-refused : (r : Reader) (x : Refusal) → answer_after r ≡ Answer.Refused x → ⊥
unfolding answer_after
never-refused r x h =
    by-test (eqb r.received.count (size r.format) && leb r.setting r.received.row)
    (λ y. refused-no-report x r.time r.control (sym (rw y at h)))
    (λ n. quiet-no-refusal x (rw n at h))
