-- Elements below an index come from elements below it: a 2 or a 3 among the elements of a digit carries to higher indices only.
use Rattle.std.specs.Prelude.{◌≡◌, true, false, ℕ, zero, suc, ◌+◌, ◌*◌, ◌-◌, ◌/◌, ◌%◌, ◌^◌, ◌<◌, ◌≤◌, leb, ltb, get_or}
use Rattle.std.proofs.Math.Path.{refl, sym, ap₂}
use Rattle.std.proofs.Common.{ap, ◌∙◌, add-zero, mul_assoc, mul-div_cancel, add-one, arith, ltb-false, leb-true, leb-false, pow-add, pow_pos}
use mathlib.Core.List.{List, [], ◌∷◌, map}
use Rattle.std.proofs.Math.Nat.{add-mod, add-mod-mod, mod-one, mul-mod_left}
use Rattle.std.proofs.Math.Pow.{mod-mod-pow}
use Rattle.std.proofs.lemmas.Nat.{mod-pow-add}
use Rattle.timecode.specs.Formats.{is_x}
use Rattle.timecode.specs.Frames.{covered}
use Rattle.timecode.proofs.Laws.Runs.{place_in}
use Rattle.timecode.proofs.Laws.Tests.{by-test}
use Rattle.timecode.specs.Layout.{Run, in_run, place_of, is_mark, value, digit_in, decode}
use Rattle.timecode.specs.declared.Format.{Format}
use Rattle.layout.specs.Letters.{same-starts}
use Rattle.layout.specs.Runs.{code_runs}
use Rattle.layout.specs.Tables.{run_starts, starts_of}
use Rattle.elements.specs.RunBits.{placed_at, packed, element_at, put_in, put-at, low_bit}
use Rattle.elements.specs.RunLoops.{room_at, Narrow, runs-narrow}

-- ---- one digit

half : (a v d : ℕ) → (a + 2 * v) % 2 ^ suc d ≡ (a / 2 + v % 2 ^ d) % 2 ^ d * 2 + a % 2
half a v d =
    let above : (a + 2 * v) / 2 ≡ a / 2 + v = omega arith in
    let last : (a + 2 * v) % 2 ≡ a % 2 = omega arith in
    ap (λ (n : ℕ). (a + 2 * v) % 2 ^ n) (sym (add-one d))
    ∙ mod-pow-add (a + 2 * v) d 1
    ∙ ap₂ (λ (x y : ℕ). x * 2 + y) (ap (λ (n : ℕ). n % 2 ^ d) above ∙ sym (add-mod-mod (a / 2) v (2 ^ d))) last

-- the low d bits of a number come from its first d elements
value_low : (w d : ℕ) (g h : ℕ → ℕ) → ((b : ℕ) → b < d → g b ≡ h b) → value w g % 2 ^ d ≡ value w h % 2 ^ d
unfolding value
value_low zero d g h e = refl
value_low (suc w) zero g h e = mod-one (g 0 + 2 * value w (λ b. g (suc b))) ∙ sym (mod-one (h 0 + 2 * value w (λ b. h (suc b))))
value_low (suc w) (suc d) g h e =
    let later = value_low w d (λ b. g (suc b)) (λ b. h (suc b)) (λ b l. e (suc b) (omega arith)) in
    half (g 0) (value w (λ b. g (suc b))) d
    ∙ ap₂ (λ (a v : ℕ). (a / 2 + v) % 2 ^ d * 2 + a % 2) (e 0 (omega arith)) later
    ∙ sym (half (h 0) (value w (λ b. h (suc b))) d)

value-below : (w : ℕ) (g h : ℕ → ℕ) → ((b : ℕ) → b < w → g b ≡ h b) → value w g ≡ value w h
unfolding value
value-below zero g h e = refl
value-below (suc w) g h e = ap₂ (λ (x y : ℕ). x + 2 * y) (e 0 (omega arith)) (value-below w (λ b. g (suc b)) (λ b. h (suc b)) (λ b l. e (suc b) (omega arith)))

-- ---- a digit that is moved

moved-mod : (z d t : ℕ) → z * 2 ^ t % 2 ^ (d + t) ≡ z % 2 ^ d * 2 ^ t
moved-mod z d t =
    mod-pow-add (z * 2 ^ t) d t
    ∙ ap₂ (λ (x y : ℕ). x % 2 ^ d * 2 ^ t + y) (mul-div_cancel z (pow_pos t)) (mul-mod_left z (2 ^ t))
    ∙ add-zero (z % 2 ^ d * 2 ^ t)

moved_none : (z e t : ℕ) → z * 2 ^ (e + t) % 2 ^ t ≡ 0
moved_none z e t = ap (λ (n : ℕ). n % 2 ^ t) (ap (λ (n : ℕ). z * n) (pow-add 2 e t) ∙ sym (mul_assoc z (2 ^ e) (2 ^ t))) ∙ mul-mod_left (z * 2 ^ e) (2 ^ t)

-- two digits with the same low bits, as far as index m goes
module _ (from m : ℕ) (f : from ≤ m) (s : ℕ) (l : from ≤ s) where
  later-low : m ≤ s → (x y : ℕ) → x * 2 ^ (s - from) % 2 ^ (m - from) ≡ y * 2 ^ (s - from) % 2 ^ (m - from)
  later-low h x y =
      let t : s - from ≡ s - m + (m - from) = omega arith in
      rw t (moved_none x (s - m) (m - from) ∙ sym (moved_none y (s - m) (m - from)))

  earlier-low : s < m → (x y : ℕ) → x % 2 ^ (m - s) ≡ y % 2 ^ (m - s) → x * 2 ^ (s - from) % 2 ^ (m - from) ≡ y * 2 ^ (s - from) % 2 ^ (m - from)
  earlier-low h x y e =
      let t : m - from ≡ m - s + (s - from) = omega arith in
      rw t (moved-mod x (m - s) (s - from) ∙ ap (λ (n : ℕ). n * 2 ^ (s - from)) e ∙ sym (moved-mod y (m - s) (s - from)))

room-low : (x room d : ℕ) → d ≤ room → x % 2 ^ room % 2 ^ d ≡ x % 2 ^ d
room-low x room d h =
    let n : room - d + d ≡ room = omega arith in
    ap (λ (k : ℕ). x % 2 ^ k % 2 ^ d) (sym n) ∙ mod-mod-pow x (room - d) d

-- ---- all digits

-- two frames that agree below an index, as far as runs cover them
abbrev pub AgreeBelow : ℕ → List Run → List ℕ → List ℕ → Type 0
AgreeBelow m rs xs ys = (k : ℕ) → k < m → covered rs k ≡ true → get_or xs k 0 ≡ get_or ys k 0

module _ (from to m : ℕ) (f : from ≤ m) (xs ys : List ℕ) where
  run-low : (r : Run) → r.width ≤ room_at r.start → r.falls ≡ false → ((k : ℕ) → k < m → in_run r k ≡ true → get_or xs k 0 ≡ get_or ys k 0) → from ≤ r.start
      → digit_in xs r % 2 ^ room_at r.start * 2 ^ (r.start - from) % 2 ^ (m - from) ≡ digit_in ys r % 2 ^ room_at r.start * 2 ^ (r.start - from) % 2 ^ (m - from)
  run-low r w rises e l =
      let x = digit_in xs r in
      let y = digit_in ys r in
      let room = room_at r.start in
      by-test (leb m r.start)
      (λ a. later-low from m f r.start l (leb-true m r.start a) (x % 2 ^ room) (y % 2 ^ room))
      (λ a.
      let s : r.start < m = leb-false m r.start a in
      earlier-low from m f r.start l s (x % 2 ^ room) (y % 2 ^ room)
      (by-test (leb r.width (m - r.start))
      (λ b.
      let h = leb-true r.width (m - r.start) b in
      ap (λ (n : ℕ). n % 2 ^ room % 2 ^ (m - r.start)) (value-below r.width (λ b. get_or xs (place_of r b) 0) (λ b. get_or ys (place_of r b) 0) (λ b k. e (place_of r b) (rw rises (omega arith)) (place_in r b k))))
      (λ b.
      let h = leb-false r.width (m - r.start) b in
      room-low x room (m - r.start) (omega arith)
      ∙ value_low r.width (m - r.start) (λ b. get_or xs (place_of r b) 0) (λ b. get_or ys (place_of r b) 0) (λ b k. e (place_of r b) (rw rises (omega arith)) (place_in r b (omega arith)))
      ∙ sym (room-low y room (m - r.start) (omega arith)))))

  placed-low : (r : Run) → r.width ≤ room_at r.start → r.falls ≡ false → ((k : ℕ) → k < m → in_run r k ≡ true → get_or xs k 0 ≡ get_or ys k 0)
      → placed_at from to r.start (digit_in xs r) % 2 ^ (m - from) ≡ placed_at from to r.start (digit_in ys r) % 2 ^ (m - from)
  placed-low r w rises e =
      by-test (ltb r.start from)
      (λ y. rw y)
      (λ y. by-test (leb to r.start) (λ z. rw (y, z)) (λ z. rw (y, z) (run-low r w rises e (ltb-false r.start from y))))

  packed-low : (rs : List Run) → Narrow rs → AgreeBelow m rs xs ys
      → packed from to (map (λ (r : Run). r.start) rs) (decode rs xs) % 2 ^ (m - from) ≡ packed from to (map (λ (r : Run). r.start) rs) (decode rs ys) % 2 ^ (m - from)
  unfolding packed
  packed-low [] n e = refl
  packed-low (r ∷ rs) n e =
      let here = placed-low r n.0.0 n.0.1 (λ k l h. e k l (rw h)) in
      let later = packed-low rs n.1 (λ k l h. e k l (by-test (in_run r k) (λ y. rw y) (λ z. rw (z, h)))) in
      let starts = map (λ (r : Run). r.start) rs in
      add-mod (placed_at from to r.start (digit_in xs r)) (packed from to starts (decode rs xs)) (2 ^ (m - from))
      ∙ ap₂ (λ (a b : ℕ). (a + b) % 2 ^ (m - from)) here later
      ∙ sym (add-mod (placed_at from to r.start (digit_in ys r)) (packed from to starts (decode rs ys)) (2 ^ (m - from)))

  bit-low : (rs : List Run) → Narrow rs → AgreeBelow m rs xs ys → (b : ℕ) → from + b < m
      → packed from to (map (λ (r : Run). r.start) rs) (decode rs xs) / 2 ^ b % 2 ≡ packed from to (map (λ (r : Run). r.start) rs) (decode rs ys) / 2 ^ b % 2
  bit-low rs n e b h =
      let starts = map (λ (r : Run). r.start) rs in
      low_bit (packed from to starts (decode rs xs)) (m - from) b (omega arith)
      ∙ ap (λ (k : ℕ). k / 2 ^ b % 2) (packed-low rs n e)
      ∙ sym (low_bit (packed from to starts (decode rs ys)) (m - from) b (omega arith))

-- the digits of both, written again, are the same elements below the index
pub put_low : (f : Format) → is_x f ≡ false → (n m : ℕ) (xs ys : List ℕ) → AgreeBelow m (code_runs f) xs ys → (k : ℕ) → k < m → k < n → get_or (put_in n (decode (code_runs f) xs)) k 0 ≡ get_or (put_in n (decode (code_runs f) ys)) k 0
unfolding element_at starts_of
put_low f x n m xs ys e k h l =
    let rs = code_runs f in
    let starts : map (λ (r : Run). r.start) rs ≡ run_starts = same-starts f x in
    put-at n (decode rs xs) k l
    ∙ rw (← starts)
    (by-test (is_mark k)
    (λ y. rw y)
    (λ z.
    rw z
    (by-test (ltb k 60)
    (λ y. rw y (bit-low 0 60 m (omega arith) xs ys rs (runs-narrow f x) e k (omega arith)))
    (λ y.
    let from = ltb-false k 60 y in
    rw y (bit-low 60 100 m (omega arith) xs ys rs (runs-narrow f x) e (k - 60) (omega arith))))))
    ∙ sym (put-at n (decode rs ys) k l)
