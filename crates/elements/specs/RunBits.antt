-- Digits as the bits of a frame: each digit's lowest bit at the index where its run begins. Digits that fit their runs do not meet.
use Rattle.std.specs.Prelude.{◌≡◌, refl, Bool, cond, ◌&&◌, ℕ, zero, suc, ◌+◌, ◌*◌, ◌-◌, ◌/◌, ◌%◌, ◌^◌, ◌<◌, ◌≤◌, leb, ltb, get_or, length}
use Rattle.std.proofs.Math.Path.{sym, ap}
use Rattle.std.proofs.Common.{◌∙◌, add-zero, add_comm, pow_pos, shr-shr}
use Rattle.std.proofs.Math.Bool.{true, false}
use mathlib.Core.List.{List, [], ◌∷◌, map}
use Rattle.std.proofs.Math.Nat.{div-eq_of_lt, mod-eq_of_lt, zero-add, add-mul-div_right, mul-add-mod_self_right}
use native.Mathlib.Omega.{arith}
use borrow.Author.Tests.{ltb-true, ltb-false, leb-true, leb-false}
use Rattle.std.proofs.Math.Pow.{field, high, low, mod-mod-pow, pow_mono, split}
use Rattle.timecode.specs.Formats.{is_x, table, look_up, row_of, known, size, carries_control, carries_seconds, carries_year, control_places}
use Rattle.timecode.specs.Frames.{covered}
use Rattle.timecode.proofs.Laws.Bits.{value-of-bits}
use Rattle.timecode.specs.Laws.Runs.{proper}
use Rattle.timecode.proofs.Laws.Runs.{in-run, covered-once, later-proper, covered-inside, symbol-free, place_in, length-tabulate, get_d_tabulate, tabulate-same, tabulate-self}
use Rattle.timecode.specs.Laws.Table.{every_format}
use Rattle.timecode.proofs.Laws.Table.{of-every}
use Rattle.timecode.proofs.Laws.Tests.{by-test, clash, and_left, and_right}
use Rattle.timecode.specs.Layout.{Run, seconds, minutes, hours, days, tenths, hundredths_digit, has_seconds, straight_seconds, years, time_fields, in_run, bit_of, place_of, is_mark, filler, symbol_at, tabulate, encode, value, Small}
use Rattle.timecode.specs.declared.Format.{Format}
use Rattle.layout.specs.Letters.{same-starts}
use Rattle.layout.specs.Tables.{run_starts, starts_of}
use Rattle.layout.specs.Runs.{code_range, code_control, code_fields, code_runs, code-proper}
use Rattle.elements.specs.RunLoops.{room_at, Narrow, runs-narrow}

-- the filler where a mark counts as 0
abbrev zeros : ℕ → ℕ
zeros i = 0

-- the low bits of the digit x, as many as there is room for, where its run begins at s, from one index on and before the other
abbrev pub placed_at : ℕ → ℕ → ℕ → ℕ → ℕ
placed_at from to s x = cond (ltb s from) 0 (cond (leb to s) 0 (x % 2 ^ room_at s * 2 ^ (s - from)))

-- the bits of all digits whose runs begin there
unfoldable pub packed : ℕ → ℕ → List ℕ → List ℕ → ℕ
packed from to [] xs = 0
packed from to (s ∷ ss) [] = 0
packed from to (s ∷ ss) (x ∷ xs) = placed_at from to s x + packed from to ss xs

-- the same by the number of a run: n runs of nine from j on, each counted from an index; and the year's two
unfoldable pub packed_runs : ℕ → List ℕ → ℕ → ℕ → ℕ
packed_runs from xs j zero = 0
packed_runs from xs j (suc n) = get_or xs j 0 % 512 * 2 ^ (get_or run_starts j 0 - from) + packed_runs from xs (suc j) n

unfoldable pub packed_year : List ℕ → ℕ
packed_year xs = get_or xs 18 0 % 512 * 2 ^ 50 + get_or xs 19 0 % 16 * 2 ^ 55

-- element i of a frame: bit i of the head, or from 60 on bit i - 60 of the tail; a mark counts as 0 there
unfoldable pub element_at : ℕ → ℕ → ℕ → ℕ
element_at head tail i = cond (is_mark i) 2 (cond (ltb i 60) (head / 2 ^ i % 2) (tail / 2 ^ (i - 60) % 2))

-- any digits as the elements of a frame
unfoldable pub put_in : ℕ → List ℕ → List ℕ
put_in n xs = tabulate n 0 (element_at (packed 0 60 run_starts xs) (packed 60 100 run_starts xs))

-- ---- turns of the loop over the runs

pub packed_start : (from : ℕ) (xs : List ℕ) (j : ℕ) → 0 ≡ packed_runs from xs j (j - j)
unfolding packed_runs
packed_start from xs j = let z : j - j ≡ 0 = omega arith in rw z

pub packed-turn : (from : ℕ) (xs : List ℕ) (first j last : ℕ) → first < j → j ≤ last
    → packed_runs from xs j (last - j) + get_or xs (j - 1) 0 % 512 * 2 ^ (get_or run_starts (j - 1) 0 - from) ≡ packed_runs from xs (j - 1) (last - (j - 1))
unfolding packed_runs
packed-turn from xs first j last a b =
    let n : last - (j - 1) ≡ suc (last - j) = omega arith in
    let h : suc (j - 1) ≡ j = omega arith in
    rw (n, h) (add_comm (packed_runs from xs j (last - j)) (get_or xs (j - 1) 0 % 512 * 2 ^ (get_or run_starts (j - 1) 0 - from)))

-- the digits of the time, the first control range and the year stand below 60, straight binary seconds and the other ranges from 60 on
module _ (xs : List ℕ) (l : length xs ≡ 20) where
  same_digits : xs ≡ tabulate 20 0 (λ j. get_or xs j 0)
  same_digits = sym (tabulate-self xs) ∙ ap (λ (n : ℕ). tabulate n 0 (λ j. get_or xs j 0)) l

  pub head-packed : packed_runs 0 xs 0 11 + packed_runs 0 xs 13 1 + packed_year xs ≡ packed 0 60 run_starts xs
  unfolding packed packed_runs packed_year room_at
  head-packed = omega arith ∙ ap (packed 0 60 run_starts) (sym same_digits)

  pub tail-packed : packed_runs 60 xs 11 2 + packed_runs 60 xs 14 4 ≡ packed 60 100 run_starts xs
  unfolding packed packed_runs room_at
  tail-packed = omega arith ∙ ap (packed 60 100 run_starts) (sym same_digits)

-- ---- bits of a sum

-- a bit below the width is one of the low bits
pub low_bit : (x w b : ℕ) → b < w → x / 2 ^ b % 2 ≡ x % 2 ^ w / 2 ^ b % 2
low_bit x w b h =
    let above : w - b - 1 + 1 + b ≡ w = omega arith in
    let a : x % 2 ^ (w - b - 1 + 1 + b) / 2 ^ b ≡ x / 2 ^ b % 2 ^ (w - b - 1 + 1) = field x (w - b - 1 + 1) b in
    let one : x / 2 ^ b % 2 ^ (w - b - 1 + 1) % 2 ^ 1 ≡ x / 2 ^ b % 2 ^ 1 = mod-mod-pow (x / 2 ^ b) (w - b - 1) 1 in
    sym (ap (λ (n : ℕ). x % 2 ^ n / 2 ^ b % 2) (sym above) ∙ ap (λ (n : ℕ). n % 2) a ∙ one)

no_bits : (w : ℕ) (g : ℕ → ℕ) → ((b : ℕ) → b < w → g b ≡ 0) → value w g ≡ 0
unfolding value
no_bits zero g h = refl
no_bits (suc w) g h = omega (arith, h 0 (omega arith), no_bits w (λ b. g (suc b)) (λ b l. h (suc b) (omega arith)))

-- x of w bits, added from bit t on to a number that has zeros there
module _ (n x t w : ℕ) (s : x < 2 ^ w) (free : n / 2 ^ t % 2 ^ w ≡ 0) where
  below-sum : (b : ℕ) → b < t → (x * 2 ^ t + n) / 2 ^ b % 2 ≡ n / 2 ^ b % 2
  below-sum b h = low_bit (x * 2 ^ t + n) t b h ∙ ap (λ (m : ℕ). m / 2 ^ b % 2) (mul-add-mod_self_right x (2 ^ t) n) ∙ sym (low_bit n t b h)

  -- what stands above bit t: x, and the higher bits of n
  shifted : (b : ℕ) → t ≤ b → (x * 2 ^ t + n) / 2 ^ b ≡ (n / 2 ^ t / 2 ^ w * 2 ^ w + x) / 2 ^ (b - t)
  shifted b h =
      let whole : n / 2 ^ t / 2 ^ w * 2 ^ w + 0 ≡ n / 2 ^ t = ap (λ (m : ℕ). n / 2 ^ t / 2 ^ w * 2 ^ w + m) (sym free) ∙ split (n / 2 ^ t) w in
      let above : t + (b - t) ≡ b = omega arith in
      ap (λ (m : ℕ). (x * 2 ^ t + n) / 2 ^ m) (sym above)
      ∙ sym (shr-shr (x * 2 ^ t + n) t (b - t))
      ∙ ap (λ (m : ℕ). m / 2 ^ t / 2 ^ (b - t)) (add_comm (x * 2 ^ t) n)
      ∙ ap (λ (m : ℕ). m / 2 ^ (b - t)) (add-mul-div_right n x (pow_pos t) ∙ ap (λ (m : ℕ). m + x) (sym whole ∙ add-zero (n / 2 ^ t / 2 ^ w * 2 ^ w)))

  within-sum : (b : ℕ) → t ≤ b → b < t + w → (x * 2 ^ t + n) / 2 ^ b % 2 ≡ x / 2 ^ (b - t) % 2
  within-sum b h k =
      ap (λ (m : ℕ). m % 2) (shifted b h)
      ∙ low_bit (n / 2 ^ t / 2 ^ w * 2 ^ w + x) w (b - t) (omega arith)
      ∙ ap (λ (m : ℕ). m / 2 ^ (b - t) % 2) (low (n / 2 ^ t / 2 ^ w) w s)

  above-sum : (b : ℕ) → t + w ≤ b → (x * 2 ^ t + n) / 2 ^ b % 2 ≡ n / 2 ^ b % 2
  above-sum b h =
      let filler : w + (b - t - w) ≡ b - t = omega arith in
      let all : t + (b - t) ≡ b = omega arith in
      ap (λ (m : ℕ). m % 2)
      (shifted b (omega arith)
      ∙ ap (λ (m : ℕ). (n / 2 ^ t / 2 ^ w * 2 ^ w + x) / 2 ^ m) (sym filler)
      ∙ sym (shr-shr (n / 2 ^ t / 2 ^ w * 2 ^ w + x) w (b - t - w))
      ∙ ap (λ (m : ℕ). m / 2 ^ (b - t - w)) (high (n / 2 ^ t / 2 ^ w) w s)
      ∙ shr-shr (n / 2 ^ t) w (b - t - w)
      ∙ ap (λ (m : ℕ). n / 2 ^ t / 2 ^ m) filler
      ∙ shr-shr n t (b - t)
      ∙ ap (λ (m : ℕ). n / 2 ^ m) all)

-- ---- the bits of digits that fit their runs are the symbols there

-- a run ends before the part, or lies in it, or begins behind it
abbrev apart : ℕ → ℕ → Run → Bool
apart from to r = cond (ltb r.start from) (leb (r.start + r.width) from) (cond (leb to r.start) true (leb (r.start + r.width) to))

abbrev all_apart : ℕ → ℕ → List Run → Bool
all_apart from to [] = true
all_apart from to (r ∷ rs) = apart from to r && all_apart from to rs

not_in : (r : Run) (i : ℕ) → (r.start ≤ i → i < r.start + r.width → ⊥) → in_run r i ≡ false
not_in r i h = by-test (in_run r i) (λ y. let p = in-run r i y in absurd (h p.0 p.1)) (λ m. m)

-- a number whose bits from t on are zeros, as far as x is wide, and x there
sum-bit : (r : Run) → r.falls ≡ false → (from m x b symbol : ℕ) → from ≤ r.start → x < 2 ^ r.width → m / 2 ^ (r.start - from) % 2 ^ r.width ≡ 0 → m / 2 ^ b % 2 ≡ symbol
    → (x * 2 ^ (r.start - from) + m) / 2 ^ b % 2 ≡ cond (in_run r (from + b)) (x / 2 ^ bit_of r (from + b) % 2) symbol
sum-bit r rises from m x b symbol l s free q =
    let t = r.start - from in
    by-test (leb r.start (from + b))
    (λ y.
    let begins = leb-true r.start (from + b) y in
    by-test (ltb (from + b) (r.start + r.width))
    (λ z.
    let ends = ltb-true (from + b) (r.start + r.width) z in
    let bit : b - t ≡ from + b - r.start = omega arith in
    rw (y, z, rises) (within-sum m x t r.width s free b (omega arith) (omega arith) ∙ ap (λ (k : ℕ). x / 2 ^ k % 2) bit))
    (λ z. let behind = ltb-false (from + b) (r.start + r.width) z in rw (y, z) (above-sum m x t r.width s free b (omega arith) ∙ q)))
    (λ y. let before = leb-false r.start (from + b) y in rw y (below-sum m x t r.width s free b (omega arith) ∙ q))

module _ (n : ℕ) (fillers : ℕ → ℕ) (from to : ℕ) where
  pub packed-bit : (rs : List Run) (xs : List ℕ) → proper n fillers rs ≡ true → Narrow rs → Small rs xs → all_apart from to rs ≡ true → (b : ℕ) → from + b < to
      → packed from to (map (λ (r : Run). r.start) rs) xs / 2 ^ b % 2 ≡ symbol_at zeros rs xs (from + b)
  unfolding packed symbol_at
  packed-bit [] xs p w s a b h = rw (div-eq_of_lt (pow_pos b))
  packed-bit (r ∷ rs) [] p w s a b h = absurd s
  packed-bit (r ∷ rs) (x ∷ xs) p w s a b h =
      let m = packed from to (map (λ (r : Run). r.start) rs) xs in
      let here = and_left (apart from to r) (all_apart from to rs) a in
      let later = packed-bit rs xs (later-proper n fillers rs r p) w.1 s.1 (and_right (apart from to r) (all_apart from to rs) a) in
      by-test (ltb r.start from)
      (λ y.
      let ends : r.start + r.width ≤ from = leb-true (r.start + r.width) from (rw y at here) in
      rw (y, zero-add m, not_in r (from + b) (λ u v. omega arith)) (later b h))
      (λ y.
      let begins = ltb-false r.start from y in
      by-test (leb to r.start)
      (λ z.
      let behind = leb-true to r.start z in
      rw (y, z, zero-add m, not_in r (from + b) (λ u v. omega arith)) (later b h))
      (λ z.
      let ends : r.start + r.width ≤ to = leb-true (r.start + r.width) to (rw (y, z) at here) in
      let fits : x < 2 ^ room_at r.start = omega (arith, s.0, pow_mono {i = r.width} {j = room_at r.start} w.0.0) in
      rw (y, z, mod-eq_of_lt fits) (sum-bit r w.0.1 from m x b (symbol_at zeros rs xs (from + b)) begins s.0 (free r w.0.1 rs xs p m begins ends later) (later b h))))
    where
      free : (r : Run) → r.falls ≡ false → (rs : List Run) (xs : List ℕ) → proper n fillers (r ∷ rs) ≡ true → (m : ℕ) → from ≤ r.start → r.start + r.width ≤ to
          → ((b : ℕ) → from + b < to → m / 2 ^ b % 2 ≡ symbol_at zeros rs xs (from + b)) → m / 2 ^ (r.start - from) % 2 ^ r.width ≡ 0
      free r rises rs xs p m begins ends later =
          let t = r.start - from in
          sym (value-of-bits r.width (λ c. m / 2 ^ t / 2 ^ c % 2) (m / 2 ^ t) (λ c l. refl))
          ∙ no_bits r.width (λ c. m / 2 ^ t / 2 ^ c % 2)
          (λ c l.
          let place : from + (t + c) ≡ place_of r c = rw rises (omega arith) in
          ap (λ (k : ℕ). k % 2) (shr-shr m t c) ∙ later (t + c) (omega arith) ∙ ap (symbol_at zeros rs xs) place
          ∙ symbol-free n zeros rs xs (place_of r c) (covered-once n fillers rs r p (place_of r c) (place_in r c l)))

-- ---- the elements of the frame

symbol-fillers : (fillers others : ℕ → ℕ) (rs : List Run) (xs : List ℕ) (i : ℕ) → fillers i ≡ others i → symbol_at fillers rs xs i ≡ symbol_at others rs xs i
unfolding symbol_at
symbol-fillers fillers others [] xs i h = h
symbol-fillers fillers others (r ∷ rs) [] i h = h
symbol-fillers fillers others (r ∷ rs) (x ∷ xs) i h = ap (cond (in_run r i) (x / 2 ^ bit_of r i % 2)) (symbol-fillers fillers others rs xs i h)

-- a mark is in no run
mark-free : (f : Format) → known f ≡ true → is_x f ≡ false → (i : ℕ) → is_mark i ≡ true → covered (code_runs f) i ≡ false
unfolding filler
mark-free f k x i y = by-test (covered (code_runs f) i) (λ h. clash {b = true} refl (rw (x, y) at (covered-inside (size f) (filler f) (code_runs f) (code-proper f k) i h).1)) (λ m. m)

symbol-marks : (f : Format) → known f ≡ true → is_x f ≡ false → (xs : List ℕ) (i : ℕ) → symbol_at (filler f) (code_runs f) xs i ≡ cond (is_mark i) 2 (symbol_at zeros (code_runs f) xs i)
unfolding filler
symbol-marks f k x xs i =
    by-test (is_mark i)
    (λ y. symbol-free (size f) (filler f) (code_runs f) xs i (mark-free f k x i y) ∙ rw (x, y))
    (λ m. rw m (symbol-fillers (filler f) zeros (code_runs f) xs i (rw (x, m))))

parts-apart : every_format (λ f. all_apart 0 60 (code_runs f) && all_apart 60 100 (code_runs f)) ≡ true
unfolding every_format table code_runs code_fields time_fields seconds minutes hours days tenths hundredths_digit straight_seconds has_seconds carries_seconds code_control code_range carries_control carries_year control_places years row_of look_up is_x
parts-apart = refl

module _ (f : Format) (k : known f ≡ true) (x : is_x f ≡ false) (xs : List ℕ) where
  -- the elements of the digits' bits
  abbrev put : ℕ → ℕ
  put = element_at (packed 0 60 (starts_of f) xs) (packed 60 100 (starts_of f) xs)

  put_is : (n : ℕ) → put_in n xs ≡ tabulate n 0 put
  unfolding put_in
  put_is n = rw (same-starts f x)

  -- where the digits fit their runs, these are the symbols in which they stand
  pub put_right : Small (code_runs f) xs → (n : ℕ) → n ≤ 100 → put_in n xs ≡ encode n (filler f) (code_runs f) xs
  unfolding element_at encode starts_of
  put_right s n l =
      let both = of-every (λ f. all_apart 0 60 (code_runs f) && all_apart 60 100 (code_runs f)) parts-apart f k in
      let first = and_left (all_apart 0 60 (code_runs f)) (all_apart 60 100 (code_runs f)) both in
      let last = and_right (all_apart 0 60 (code_runs f)) (all_apart 60 100 (code_runs f)) both in
      put_is n
      ∙ tabulate-same n put (symbol_at (filler f) (code_runs f) xs)
      (λ i h.
      ap (cond (is_mark i) 2)
      (by-test (ltb i 60)
      (λ y.
      let below = ltb-true i 60 y in
      rw y (packed-bit (size f) (filler f) 0 60 (code_runs f) xs (code-proper f k) (runs-narrow f x) s first i (omega arith) ∙ ap (symbol_at zeros (code_runs f) xs) (zero-add i)))
      (λ y.
      let from = ltb-false i 60 y in
      let at : 60 + (i - 60) ≡ i = omega arith in
      rw y (packed-bit (size f) (filler f) 60 100 (code_runs f) xs (code-proper f k) (runs-narrow f x) s last (i - 60) (omega arith) ∙ ap (symbol_at zeros (code_runs f) xs) at)))
      ∙ sym (symbol-marks f k x xs i))

pub length-put : (n : ℕ) (xs : List ℕ) → length (put_in n xs) ≡ n
unfolding put_in
length-put n xs = length-tabulate n 0 _

-- the elements of the digits' bits, of which those below 60 come in two parts
pub put-parts : (n : ℕ) (xs : List ℕ) (time middle : ℕ) → length xs ≡ 20 → time ≡ packed_runs 0 xs 0 11 → middle ≡ packed_runs 0 xs 13 1 + packed_year xs
    → tabulate n 0 (element_at (time + middle) (packed 60 100 run_starts xs)) ≡ put_in n xs
unfolding put_in
put-parts n xs time middle l p q =
    let head : time + middle ≡ packed 0 60 run_starts xs = omega (arith, p, q, head-packed xs l) in
    rw head

-- any digits give zeros, ones and marks
module _ (n : ℕ) (xs : List ℕ) (i : ℕ) (h : i < n) where
  pub put-at : get_or (put_in n xs) i 0 ≡ element_at (packed 0 60 run_starts xs) (packed 60 100 run_starts xs) i
  unfolding put_in
  put-at = get_d_tabulate n 0 _ 0 i h ∙ ap (element_at (packed 0 60 run_starts xs) (packed 60 100 run_starts xs)) (zero-add i)

  pub put-mark : is_mark i ≡ true → get_or (put_in n xs) i 0 ≡ 2
  unfolding element_at
  put-mark m = put-at ∙ rw m

  pub put-binary : is_mark i ≡ false → get_or (put_in n xs) i 0 < 2
  unfolding element_at
  put-binary m = rw (put-at, m) (by-test (ltb i 60) (λ y. rw y (omega arith)) (λ y. rw y (omega arith)))
