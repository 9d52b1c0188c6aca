-- Ten elements of a frame at a time: nine bits and a mark, in the first ten two. After all tens the frame is what its bits are.
use Rattle.std.specs.Prelude.{◌≡◌, refl, Bool, true, cond, ◌&&◌, ◌⊎◌, ℕ, ◌+◌, ◌*◌, ◌-◌, ◌/◌, ◌%◌, ◌^◌, ◌<◌, ◌≤◌, leb, ltb, eqb, get_or}
use Rattle.std.proofs.Math.Path.{sym, ap}
use Rattle.std.proofs.Common.{◌∙◌, inl, inr, zero-add, shr-shr}
use mathlib.Core.List.{List, [], ◌∷◌}
use native.Mathlib.Omega.{arith}
use borrow.Author.Tests.{ltb-true, ltb-false, leb-true, leb-false, eqb-true, eqb-false, lt-ltb, le-ltb, le-leb, lt-leb, eq-eqb, ne_eqb}
use Rattle.std.proofs.Math.ListN.{length, set}
use Rattle.timecode.proofs.Laws.Runs.{length-tabulate, get_d_tabulate, tabulate-same, tabulate-self}
use Rattle.timecode.specs.Laws.Tests.{every_below}
use Rattle.timecode.proofs.Laws.Tests.{by-test, below-every}
use Rattle.timecode.specs.Layout.{is_mark, tabulate}
use Rattle.layout.specs.Tables.{mark_places}
use Rattle.elements.specs.RunBits.{element_at, low_bit}
use Rattle.elements.specs.Stores.{bits_stored, stored_at, bits-stored-step, set-tabulate}

-- a frame's length
abbrev pub IsFrame : ℕ → Type 0
IsFrame n = (n ≡ 60) ⊎ (n ≡ 100)

pub frame-range : (n : ℕ) → IsFrame n → (60 ≤ n) × (n ≤ 100)
frame-range n (inl e) = (omega arith, omega arith)
frame-range n (inr e) = (omega arith, omega arith)

pub not-100 : (n : ℕ) → IsFrame n → (n ≡ 100 → ⊥) → n ≡ 60
not-100 n (inl e) o = e
not-100 n (inr e) o = absurd (o e)

-- ---- four elements as the bytes of one number

abbrev pub four_elements : List ℕ
four_elements = 0 ∷ 1 ∷ 256 ∷ 257 ∷ 65536 ∷ 65537 ∷ 65792 ∷ 65793 ∷ 16777216 ∷ 16777217 ∷ 16777472 ∷ 16777473 ∷ 16842752 ∷ 16842753 ∷ 16843008 ∷ 16843009 ∷ []

four-bits : every_below 16 (λ d. every_below 4 (λ j. eqb (get_or four_elements d 0 / 2 ^ (j * 8) % 256) (d / 2 ^ j % 2))) ≡ true
four-bits = refl

pub element-bit : (x k : ℕ) → get_or four_elements (x / 2 ^ (k / 4 * 4) % 16) 0 / 2 ^ (k % 4 * 8) % 256 ≡ x / 2 ^ k % 2
element-bit x k =
    let q = x / 2 ^ (k / 4 * 4) in
    let one = below-every 16 (λ d. every_below 4 (λ j. eqb (get_or four_elements d 0 / 2 ^ (j * 8) % 256) (d / 2 ^ j % 2))) four-bits (q % 16) (omega arith) in
    let bit = below-every 4 (λ j. eqb (get_or four_elements (q % 16) 0 / 2 ^ (j * 8) % 256) (q % 16 / 2 ^ j % 2)) one (k % 4) (omega arith) in
    let place : k / 4 * 4 + k % 4 ≡ k = omega arith in
    eqb-true (get_or four_elements (q % 16) 0 / 2 ^ (k % 4 * 8) % 256) (q % 16 / 2 ^ (k % 4) % 2) bit
    ∙ sym (low_bit q 4 (k % 4) (omega arith))
    ∙ ap (λ (n : ℕ). n % 2) (shr-shr x (k / 4 * 4) (k % 4) ∙ ap (λ (n : ℕ). x / 2 ^ n) place)

-- ---- ten elements

-- what stands at an index: a mark, or the bit of x
abbrev marked : ℕ → ℕ → ℕ
marked x i = cond (is_mark i) 2 x

abbrev ten_at : List ℕ → ℕ → ℕ → ℕ → ℕ
ten_at frame k x i = cond (eqb (i / 10) k) (marked (x / 2 ^ (i % 10) % 2) i) (get_or frame i 0)

-- the frame with the low nine bits of x, and marks, as its ten elements from 10 k on
unfoldable pub ten : List ℕ → ℕ → ℕ → List ℕ
ten frame k x = tabulate (length frame) 0 (ten_at frame k x)

pub length-ten : (frame : List ℕ) (k x : ℕ) → length (ten frame k x) ≡ length frame
unfolding ten
length-ten frame k x = length-tabulate (length frame) 0 (ten_at frame k x)

marks-end-tens : every_below 10 (λ k. eqb (get_or mark_places (k + 1) 0) (10 * k + 9)) ≡ true
marks-end-tens = refl

-- behind each nine elements stands a mark
pub mark-place : (k : ℕ) → k < 10 → get_or mark_places (k + 1) 0 ≡ 10 * k + 9
mark-place k h = eqb-true (get_or mark_places (k + 1) 0) (10 * k + 9) (below-every 10 (λ k. eqb (get_or mark_places (k + 1) 0) (10 * k + 9)) marks-end-tens k h)

module _ (frame : List ℕ) (k x : ℕ) where
  abbrev nine_at : ℕ → ℕ
  nine_at i = cond (eqb (i / 10) k) (cond (eqb (i % 10) 9) 2 (x / 2 ^ (i % 10) % 2)) (get_or frame i 0)

  -- nine bits, and a mark behind them
  nine-put : set (set (bits_stored frame (10 * k) 8 x) (10 * k + 8) (x / 256 % 2)) (10 * k + 9) 2 ≡ tabulate (length frame) 0 nine_at
  unfolding bits_stored
  nine-put =
      ap (λ (ss : List ℕ). set ss (10 * k + 9) 2) (bits-stored-step frame (10 * k) 8 x)
      ∙ set-tabulate (length frame) (10 * k + 9) 2 (stored_at frame (10 * k) 9 x) nine_at
      (λ h. rw (eq-eqb ((10 * k + 9) / 10) k (omega arith), eq-eqb ((10 * k + 9) % 10) 9 (omega arith)))
      (λ i h o.
      by-test (leb (10 * k) i)
      (λ y.
      let from = leb-true (10 * k) i y in
      by-test (ltb i (10 * k + 9))
      (λ z.
      let below = ltb-true i (10 * k + 9) z in
      let bit : i % 10 ≡ i - 10 * k = omega arith in
      rw (y, z, eq-eqb (i / 10) k (omega arith), ne_eqb (i % 10) 9 (λ q. omega arith), bit))
      (λ z. let behind = ltb-false i (10 * k + 9) z in rw (y, z, ne_eqb (i / 10) k (λ q. omega arith))))
      (λ y. let before = leb-false (10 * k) i y in rw (y, ne_eqb (i / 10) k (λ q. omega arith))))

  -- behind the first index a mark stands at the end of ten
  later-nine : (i : ℕ) → (i ≡ 0 → ⊥) → ten_at frame k x i ≡ nine_at i
  unfolding is_mark
  later-nine i o = rw (ne_eqb i 0 o)

  pub first-ten : k ≡ 0 → set (set (set (bits_stored frame (10 * k) 8 x) (10 * k + 8) (x / 256 % 2)) (10 * k + 9) 2) 0 2 ≡ ten frame k x
  unfolding ten is_mark
  first-ten z =
      ap (λ (ss : List ℕ). set ss 0 2) nine-put
      ∙ set-tabulate (length frame) 0 2 nine_at (ten_at frame k x) (λ h. rw (eq-eqb 0 k (sym z))) (λ i h o. later-nine i o)

  pub later-ten : (k ≡ 0 → ⊥) → set (set (bits_stored frame (10 * k) 8 x) (10 * k + 8) (x / 256 % 2)) (10 * k + 9) 2 ≡ ten frame k x
  unfolding ten
  later-ten o =
      nine-put
      ∙ tabulate-same (length frame) nine_at (ten_at frame k x)
      (λ i h.
      by-test (eqb (i / 10) k)
      (λ y. let here = eqb-true (i / 10) k y in sym (later-nine i (λ z. o (omega arith))))
      (λ m. rw m))

-- ---- tens in a row

abbrev tens_at : List ℕ → ℕ → ℕ → ℕ → ℕ → ℕ
tens_at frame from to x i = cond (leb from (i / 10) && ltb (i / 10) to) (marked (x / 2 ^ (i - 10 * from) % 2) i) (get_or frame i 0)

-- the frame with the bits of x, nine to ten elements, as its tens from one on and before the other
unfoldable pub tens : List ℕ → ℕ → ℕ → ℕ → List ℕ
tens frame from to x = tabulate (length frame) 0 (tens_at frame from to x)

pub length-tens : (frame : List ℕ) (from to x : ℕ) → length (tens frame from to x) ≡ length frame
unfolding tens
length-tens frame from to x = length-tabulate (length frame) 0 (tens_at frame from to x)

pub tens-start : (frame : List ℕ) (from x : ℕ) → frame ≡ tens frame from from x
unfolding tens
tens-start frame from x =
    sym (tabulate-self frame)
    ∙ tabulate-same (length frame) (λ i. get_or frame i 0) (tens_at frame from from x)
    (λ i h. by-test (leb from (i / 10)) (λ y. let p = leb-true from (i / 10) y in rw (y, le-ltb (i / 10) from p)) (λ y. rw y))

pub tens-turn : (frame : List ℕ) (from k x : ℕ) → from ≤ k → ten (tens frame from k x) k (x / 2 ^ (10 * (k - from))) ≡ tens frame from (k + 1) x
unfolding ten tens
tens-turn frame from k x l =
    let n = length frame in
    let before = tabulate n 0 (tens_at frame from k x) in
    ap (λ (m : ℕ). tabulate m 0 (ten_at before k (x / 2 ^ (10 * (k - from))))) (length-tabulate n 0 (tens_at frame from k x))
    ∙ tabulate-same n (ten_at before k (x / 2 ^ (10 * (k - from)))) (tens_at frame from (k + 1) x)
    (λ i h.
    by-test (eqb (i / 10) k)
    (λ y.
    let here = eqb-true (i / 10) k y in
    let place : 10 * (k - from) + i % 10 ≡ i - 10 * from = omega arith in
    rw (y, le-leb from (i / 10) (omega arith), lt-ltb (i / 10) (k + 1) (omega arith))
    (ap (λ (m : ℕ). marked (m % 2) i) (shr-shr x (10 * (k - from)) (i % 10) ∙ ap (λ (m : ℕ). x / 2 ^ m) place)))
    (λ y.
    let other = eqb-false (i / 10) k y in
    let earlier : get_or before i 0 ≡ tens_at frame from k x i = get_d_tabulate n 0 (tens_at frame from k x) 0 i h ∙ ap (tens_at frame from k x) (zero-add i) in
    rw y
    (earlier
    ∙ ap (λ (t : Bool). cond (leb from (i / 10) && t) (marked (x / 2 ^ (i - 10 * from) % 2) i) (get_or frame i 0))
    (by-test (ltb (i / 10) k)
    (λ z. let below = ltb-true (i / 10) k z in rw (z, lt-ltb (i / 10) (k + 1) (omega arith)))
    (λ z. let above = ltb-false (i / 10) k z in rw (z, le-ltb (i / 10) (k + 1) (omega arith)))))))

-- ---- the whole frame

module _ (frame : List ℕ) (head tail : ℕ) where
  -- the elements below 60 are those of the head's tens, the others those of the tail's
  head-element : (i : ℕ) → i < 60 → tens_at frame 0 6 head i ≡ element_at head tail i
  unfolding element_at
  head-element i h =
      let place : i - 10 * 0 ≡ i = omega arith in
      rw (le-leb 0 (i / 10) (omega arith), lt-ltb (i / 10) 6 (omega arith), place, lt-ltb i 60 h)

  tail-element : (i : ℕ) → 60 ≤ i → i < 100 → tens_at frame 6 10 tail i ≡ element_at head tail i
  unfolding element_at
  tail-element i h l = rw (le-leb 6 (i / 10) (omega arith), lt-ltb (i / 10) 10 (omega arith), le-ltb i 60 h)

module _ (frame : List ℕ) (head tail : ℕ) where
  pub frame-of-60 : length frame ≡ 60 → tens frame 0 6 head ≡ tabulate (length frame) 0 (element_at head tail)
  unfolding tens
  frame-of-60 n = tabulate-same (length frame) (tens_at frame 0 6 head) (element_at head tail) (λ i h. head-element frame head tail i (omega arith))

  pub frame-of-100 : length frame ≡ 100 → tens (tens frame 0 6 head) 6 10 tail ≡ tabulate (length frame) 0 (element_at head tail)
  unfolding tens
  frame-of-100 n =
      let m = length frame in
      let before = tabulate m 0 (tens_at frame 0 6 head) in
      ap (λ (k : ℕ). tabulate k 0 (tens_at before 6 10 tail)) (length-tabulate m 0 (tens_at frame 0 6 head))
      ∙ tabulate-same m (tens_at before 6 10 tail) (element_at head tail)
      (λ i h.
      by-test (ltb i 60)
      (λ y.
      let below = ltb-true i 60 y in
      rw (lt-leb 6 (i / 10) (omega arith)) (get_d_tabulate m 0 (tens_at frame 0 6 head) 0 i h ∙ ap (tens_at frame 0 6 head) (zero-add i) ∙ head-element frame head tail i below))
      (λ y. tail-element before head tail i (ltb-false i 60 y) (omega arith)))
