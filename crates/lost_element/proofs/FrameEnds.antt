-- How the frames of a format end: the last mark, in X the four 3s, alike in all of them, and before these another symbol.
use Rattle.std.specs.Prelude.{◌≡◌, refl, true, false, cond, ◌⊎◌, ℕ, ◌+◌, ◌-◌, ◌%◌, ◌<◌, ◌≤◌, get_or}
use Rattle.std.proofs.Common.{sym, ◌∙◌, inl, inr}
use Rattle.std.proofs.Math.Bool.{not}
use native.Mathlib.Omega.{arith}
use borrow.Author.Tests.{ne_eqb, not-true}
use Rattle.timecode.specs.Formats.{is_x, table, look_up, row_of, size, carries_control, carries_seconds, carries_year, control_places}
use Rattle.timecode.specs.Frames.{covered, written, Valid}
use Rattle.timecode.proofs.Laws.Marks.{size-large, at-written, mark-only, mark-index, last-element, ends-marked}
use Rattle.timecode.proofs.Laws.Runs.{small-length, symbol-free, symbol-covered}
use Rattle.timecode.specs.Laws.Table.{every_format}
use Rattle.timecode.proofs.Laws.Table.{two-sizes, x-size, of-every}
use Rattle.timecode.specs.Laws.Tests.{every_below}
use Rattle.timecode.proofs.Laws.Tests.{by-test, and_left, and_right, below-every}
use Rattle.timecode.proofs.Laws.Windows.{lead-one, lead-none}
use Rattle.timecode.proofs.Laws.Writing.{written_small}
use Rattle.timecode.specs.Layout.{seconds, minutes, hours, days, tenths, hundredths_digit, has_seconds, straight_seconds, control, years, time_fields, fields, runs, numbers, all_digits, filler}
use Rattle.timecode.specs.Stream.{lead}
use Rattle.timecode.specs.declared.Format.{Format}
use Rattle.timecode.specs.declared.Time.{Time}
use Rattle.lost_element.specs.LostElement.{alike_at_end}
use Rattle.lost_element.specs.FrameEnds.{four_free}

alike-one : (f : Format) → is_x f ≡ false → alike_at_end f ≡ 1
unfolding alike_at_end
alike-one f n = rw n

alike-four : (f : Format) → is_x f ≡ true → alike_at_end f ≡ 4
unfolding alike_at_end
alike-four f x = rw x

pub alike-range : (f : Format) → (1 ≤ alike_at_end f) × (alike_at_end f ≤ 4) × (lead f ≤ alike_at_end f)
alike-range f =
    by-test (is_x f)
    (λ x. let a = alike-four f x in let l = lead-none f x in (omega arith, omega arith, omega arith))
    (λ n. let a = alike-one f n in let l = lead-one f n in (omega arith, omega arith, omega arith))

x-four-free : every_format (λ f. cond (is_x f) (four_free f) true) ≡ true
unfolding every_format table is_x size row_of look_up runs fields time_fields seconds minutes hours days tenths hundredths_digit straight_seconds has_seconds carries_seconds control carries_control carries_year control_places years
x-four-free = refl

module _ (f : Format) (t : Time) (w : ℕ) (v : Valid f t w) where
  x-free : is_x f ≡ true → four_free f ≡ true
  x-free x = rw x at (of-every (λ f. cond (is_x f) (four_free f) true) x-four-free f v.format)

  x-three : is_x f ≡ true → (i : ℕ) → 21 ≤ i → i < 25 → get_or (written f t w) i 0 ≡ 3
  unfolding filler
  x-three x i a b =
      let n : 21 + (i - 21) ≡ i = omega arith in
      let free = not-true (covered (runs f) (21 + (i - 21))) (below-every 4 (λ i. not (covered (runs f) (21 + i))) (and_right (covered (runs f) 20) (every_below 4 (λ i. not (covered (runs f) (21 + i)))) (x-free x)) (i - 21) (omega arith)) in
      let three : filler f i ≡ 3 = rw (x, ne_eqb i 0 (λ q. omega arith)) in
      at-written f t w i (omega (arith, x-size f x)) ∙ symbol-free (size f) (filler f) (runs f) (all_digits (fields f) (numbers f t w)) i (rw n at free) ∙ three

  x-bit : is_x f ≡ true → get_or (written f t w) 20 0 < 2
  x-bit x =
      let xs = all_digits (fields f) (numbers f t w) in
      let bit = and_left (covered (runs f) 20) (every_below 4 (λ i. not (covered (runs f) (21 + i)))) (x-free x) in
      rw (at-written f t w 20 (omega (arith, x-size f x))) (symbol-covered (size f) (filler f) (runs f) xs (small-length (runs f) xs (written_small f t w v)) 20 bit)

  last-mark : is_x f ≡ false → get_or (written f t w) (size f - 1) 0 ≡ 2
  last-mark n = last-element f t w v ∙ ends-marked f n

  -- the last but one is, except in X, no mark
  next-to-last : is_x f ≡ false → get_or (written f t w) (size f - 2) 0 ≡ 2 → ⊥
  next-to-last n h = out (mark-index f (size f - 2) n (mark-only f t w v (size f - 2) (omega (arith, size-large f)) h))
    where
      out : (size f - 2 ≡ 0) ⊎ ((size f - 2) % 10 ≡ 9) → ⊥
      out = two-sizes (λ n. (n - 2 ≡ 0) ⊎ ((n - 2) % 10 ≡ 9) → ⊥) sixty hundred f n
        where
          sixty : (◌≡◌ {A = ℕ} 58 0) ⊎ (◌≡◌ {A = ℕ} (58 % 10) 9) → ⊥
          sixty (inl a) = omega arith
          sixty (inr a) = omega arith

          hundred : (◌≡◌ {A = ℕ} 98 0) ⊎ (◌≡◌ {A = ℕ} (98 % 10) 9) → ⊥
          hundred (inl a) = omega arith
          hundred (inr a) = omega arith

  -- no mark stands where the mark before the next frame would, one element early
  pub no-mark-early : get_or (written f t w) (size f - 1 - lead f) 0 ≡ 2 → ⊥
  no-mark-early h =
      by-test (is_x f)
      (λ x. let u : size f - 1 - lead f ≡ 24 = omega (arith, x-size f x, lead-none f x) in let z : ◌≡◌ {A = ℕ} 3 2 = sym (x-three x 24 (omega arith) (omega arith)) ∙ rw u at h in omega arith)
      (λ n. let u : size f - 1 - lead f ≡ size f - 2 = omega (arith, lead-one f n) in next-to-last n (rw u at h))

-- all frames end alike
pub ends-alike : (f : Format) (t : Time) (w : ℕ) (u : Time) (v : ℕ) → Valid f t w → Valid f u v → (i : ℕ) → i < size f → size f ≤ i + alike_at_end f → get_or (written f t w) i 0 ≡ get_or (written f u v) i 0
ends-alike f t w u v a b i h l =
    by-test (is_x f)
    (λ x.
    let n = x-size f x in
    let s = alike-four f x in
    x-three f t w a x i (omega arith) (omega arith) ∙ sym (x-three f u v b x i (omega arith) (omega arith)))
    (λ n.
    let s = alike-one f n in
    let p : i ≡ size f - 1 = omega arith in
    rw p (last-mark f t w a n ∙ sym (last-mark f u v b n)))

-- and the symbol before that end is another than the first of it
pub end-begins : (f : Format) (t : Time) (w : ℕ) (u : Time) (v : ℕ) → Valid f t w → Valid f u v → get_or (written f t w) (size f - alike_at_end f) 0 ≡ get_or (written f u v) (size f - alike_at_end f - 1) 0 → ⊥
end-begins f t w u v a b h =
    by-test (is_x f)
    (λ x.
    let p : size f - alike_at_end f ≡ 21 = omega (arith, x-size f x, alike-four f x) in
    let z : 3 ≡ get_or (written f u v) 20 0 = sym (x-three f t w a x 21 (omega arith) (omega arith)) ∙ rw p at h in
    omega (arith, x-bit f u v b x))
    (λ n.
    let p : size f - alike_at_end f ≡ size f - 1 = omega (arith, alike-one f n) in
    let q : size f - 1 - 1 ≡ size f - 2 = omega arith in
    next-to-last f u v b n (sym (rw (p, q) at h) ∙ last-mark f t w a n))
