-- A generator's elements by their index: its frames are valid and read as they were sent, and two marks stand side by side only where one frame ends and the next begins; in X a mark stands only where a frame begins.
use Rattle.timecode.specs.Answers.{accepted}
use Rattle.std.specs.Prelude.{◌≡◌, true, false, List, [], ◌∷◌, ◌⊎◌, ℕ, zero, suc, ◌+◌, ◌*◌, ◌/◌, ◌%◌, ◌<◌, ◌≤◌, length, get_or, replicate}
use Rattle.std.proofs.Common.{sym, ap, ◌∙◌, inl, inr, not-suc-le-zero, mod-lt, mul-zero, arith, length-append, get_or-append-add}
use Rattle.std.proofs.Math.Nat.{div-add-mod, lt_of_mul-lt-mul_left}
use Rattle.std.proofs.Math.Decide.{dec_lt}
use Rattle.std.proofs.lemmas.List.{length-replicate}
use Rattle.std.proofs.Math.ListN.{get_or-append, get_or-eq_default}
use Rattle.timecode.specs.Formats.{is_x, size, OnFormat}
use Rattle.timecode.specs.Frames.{read_of, Sent, Generator, elements, sent_at, Valid}
use Rattle.timecode.proofs.Laws.Marks.{size-positive, at-written, mark-only, mark-index, x-mark-index}
use Rattle.timecode.proofs.Laws.Stepping.{step-on-format}
use Rattle.timecode.proofs.Laws.Table.{two-sizes}
use Rattle.timecode.proofs.Laws.Writing.{length-written, symbol-small, written-is-accepted, taken}
use Rattle.timecode.specs.Layout.{filler, fields, runs, numbers, all_digits}
use Rattle.timecode.specs.declared.Format.{Format}
use Rattle.timecode.specs.Laws.Generators.{frame_of, PlaceInFrame, MarkAt, Pair}

pub length-elements : (f : Format) (sent : List Sent) → length (elements f sent) ≡ size f * length sent
unfolding elements
length-elements f [] = sym (mul-zero (size f))
length-elements f (s ∷ ss) = length-append (frame_of f s) (elements f ss) ∙ omega (arith, length-written f s.time s.control, length-elements f ss)

pub element-at : (f : Format) (sent : List Sent) (j i : ℕ) → j < length sent → i < size f → get_or (elements f sent) (size f * j + i) 0 ≡ get_or (frame_of f (sent_at sent j)) i 0
unfolding elements
element-at f [] j i h k = absurd (not-suc-le-zero h)
element-at f (s ∷ ss) zero i h k =
    let a : size f * 0 + i ≡ i = omega arith in
    rw a (get_or-append (frame_of f s) (elements f ss) 0 i (omega (arith, length-written f s.time s.control)))
element-at f (s ∷ ss) (suc j) i h k =
    let a : size f * suc j + i ≡ length (frame_of f s) + (size f * j + i) = omega (arith, length-written f s.time s.control) in
    rw a (get_or-append-add (frame_of f s) (elements f ss) (size f * j + i) 0 ∙ element-at f ss j i (omega arith) k)

pub place-in-frame : (f : Format) (sent : List Sent) (k : ℕ) → k < length (elements f sent) → PlaceInFrame f sent k
place-in-frame f sent k h =
    let d : size f * (k / size f) + k % size f ≡ k = div-add-mod k (size f) in
    let r : k % size f < size f = mod-lt k (size-positive f) in
    let q : k / size f < length sent = lt_of_mul-lt-mul_left (size f) (omega (arith, length-elements f sent)) in
    record { inside = q; index = r; is = ap (λ (x : ℕ). get_or (elements f sent) x 0) (sym d) ∙ element-at f sent (k / size f) (k % size f) q r }

-- ---- each frame is valid, and reads as it was sent

module _ (f : Format) (sent : List Sent) (gen : Generator f sent) where
  pub first-valid : (j : ℕ) → j < length sent → Valid f (sent_at sent 0).time (sent_at sent j).control
  first-valid j h = (taken f (sent_at sent 0).time (sent_at sent j).control (replicate (size f) 0) (gen.takes j h (replicate (size f) 0) (length-replicate (size f) 0))).0

  times-on : (j : ℕ) → j < length sent → OnFormat f (sent_at sent j).time
  times-on zero h = (first-valid 0 h).time
  times-on (suc j) h = step-on-format f (sent_at sent j).time (sent_at sent (suc j)).time (gen.steps j h)

  pub sent-valid : (j : ℕ) → j < length sent → Valid f (sent_at sent j).time (sent_at sent j).control
  sent-valid j h = let v = first-valid j h in record { format = v.format; time = times-on j h; room = v.room }

  pub frame-reads : (j : ℕ) → j < length sent → read_of f (frame_of f (sent_at sent j)) ≡ accepted (sent_at sent j).time (sent_at sent j).control
  frame-reads j h = written-is-accepted f (sent_at sent j).time (sent_at sent j).control (sent-valid j h)

-- each element is a symbol
pub element-small : (f : Format) (sent : List Sent) (k : ℕ) → get_or (elements f sent) k 0 ≤ 3
element-small f sent k = go (dec_lt k (length (elements f sent)))
  where
    go : Dec (k < length (elements f sent)) → get_or (elements f sent) k 0 ≤ 3
    go (no a) = omega (arith, get_or-eq_default (elements f sent) 0 {n = k} (omega arith))
    go (yes a) =
        let p = place-in-frame f sent k a in
        let s = sent_at sent (k / size f) in
        let y = at-written f s.time s.control (k % size f) p.index in
        omega (arith, p.is, y, symbol-small f (runs f) (all_digits (fields f) (numbers f s.time s.control)) (k % size f))

-- ---- marks

tail-nine : (f : Format) (k : ℕ) → is_x f ≡ false → k % size f % 10 ≡ 9 → k % 10 ≡ 9
tail-nine f k n h = two-sizes (λ n. k % n % 10 ≡ 9 → k % 10 ≡ 9) (λ a. omega arith) (λ a. omega arith) f n h

mark-at : (f : Format) (k : ℕ) → is_x f ≡ false → (k % size f ≡ 0) ⊎ (k % size f % 10 ≡ 9) → MarkAt (size f) k
mark-at f k n (inl a) = inl a
mark-at f k n (inr a) = inr (tail-nine f k n a)

module _ (f : Format) (sent : List Sent) (gen : Generator f sent) (k : ℕ) (h : get_or (elements f sent) k 0 ≡ 2) where
  mark-filled : filler f (k % size f) ≡ 2
  mark-filled = go (dec_lt k (length (elements f sent)))
    where
      go : Dec (k < length (elements f sent)) → filler f (k % size f) ≡ 2
      go (no a) = let z : ◌≡◌ {A = ℕ} 0 2 = sym (get_or-eq_default (elements f sent) 0 {n = k} (omega arith)) ∙ h in let n : ⊥ = omega arith in absurd n
      go (yes a) =
          let p = place-in-frame f sent k a in
          let s = sent_at sent (k / size f) in
          mark-only f s.time s.control (sent-valid f sent gen (k / size f) p.inside) (k % size f) p.index (sym p.is ∙ h)

  pub marks : is_x f ≡ false → MarkAt (size f) k
  marks n = mark-at f k n (mark-index f (k % size f) n mark-filled)

  -- in X a mark is a frame's first element
  pub x-marks : is_x f ≡ true → k % size f ≡ 0
  x-marks x = x-mark-index f (k % size f) x mark-filled

pair-60 : Pair 60
pair-60 k a (inl c) = c
pair-60 k (inl a) (inr c) = omega arith
pair-60 k (inr a) (inr c) = omega arith

pair-100 : Pair 100
pair-100 k a (inl c) = c
pair-100 k (inl a) (inr c) = omega arith
pair-100 k (inr a) (inr c) = omega arith

-- two marks side by side are a frame's last and the next frame's first
pub pair : (f : Format) → is_x f ≡ false → Pair (size f)
pair f n = two-sizes Pair pair-60 pair-100 f n
