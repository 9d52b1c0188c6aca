-- A value that a format holds is rounded to itself; a zero that is added changes nothing but the sign of a zero; and 1 can be taken from every finite value.
use Rattle.std.specs.Prelude.{◌≡◌, refl, Bool, true, false, cond, ◌&&◌, T, leb, ltb, eqb, ℤ, pos, negsuc, Float}
use Rattle.std.proofs.Common.{sym, ap, ap₂, subst, ◌∙◌, zero-mul, mul-one, one-mul, add-zero, mul_assoc, mul_right_comm, mul-pos, mul-le-mul, mul-le-mul_right, zero-lt-suc, le_trans, lt_of_lt_of_le, lt_irrefl, add_comm, le_of_eq, lt_of_mul-lt-mul_right, add-mul, arith, lt-ltb, le-ltb, leb-true, leb-false, ltb→lt, leb→le, pow-add, pow_pos, pow_mono, shl_lt}
use Prim.Native.Nat.{ℕ, zero, suc, ◌+◌, ◌*◌, ◌-◌, ◌/◌, ◌%◌, ◌^◌, ◌<◌, ◌≤◌, zero-le, compare}
use Rattle.std.specs.Int.Count.{count_trailing_zeros}
use Rattle.std.proofs.Math.Pow.{pow-lt}
use Rattle.std.specs.Float.{nan, inf, fin, Format, binary64}
use Rattle.std.specs.Float.Ieee.{prec, emax, low, up, down, top, hid, nearest, le, lt, eq, round, sum, sub, neg, units, odd, span, climb, add, fits, to_bits, of_bits, size}
use Rattle.std.specs.Float.Ieee.Back.{round_whole, whole_unique}
use Rattle.std.specs.Float.Ieee.Bits.{of_bits-to_bits}
use Rattle.std.specs.Float.Ieee.Exact.{HasValue, round_exact}
use Rattle.std.specs.Float.Ieee.Fits.{up_pos, down_pos, and_l, and_r, reach, round_is, round-fits}
use Rattle.std.specs.Float.Ieee.Nearest.{div_same}
use Rattle.std.specs.Float.Ieee.Order.{round_mono}
use Rattle.std.specs.Float.Ieee.Scale.{round_same}
use Rattle.timecode.proofs.Laws.Tests.{by-test}
use Rattle.forecasts.specs.Forecasting.{is_finite, one}

-- ---- a value that the format holds

-- its parts, where it is no zero
held : (f : Format) (s : Bool) (m : ℕ) (e : ℤ) → T (fits f (fin s (suc m) e)) → (suc m < 2 ^ prec f) × (down e ≤ 2 ^ low f) × (suc m * up e < 2 ^ suc (emax f) * down e)
unfolding fits
held f s m e h =
    let odd-one = eqb (suc m % 2) 1 in
    let small = ltb (suc m) (2 ^ prec f) in
    let fine = leb (down e) (2 ^ low f) in
    let below = ltb (suc m * up e) (2 ^ suc (emax f) * down e) in
    let front : T (odd-one && small && fine) = and_l (odd-one && small && fine) below h in (
      ltb→lt (suc m) (2 ^ prec f) (and_r odd-one small (and_l (odd-one && small) fine front)),
      leb→le (down e) (2 ^ low f) (and_r (odd-one && small) fine front),
      ltb→lt (suc m * up e) (2 ^ suc (emax f) * down e) (and_r (odd-one && small && fine) below h),
    )

-- two values with one sign and one size have the same bits
same_units : (n l m : ℕ) (g e : ℤ) → n * up g * down e ≡ m * up e * down g → n * up g * l / down g ≡ m * up e * l / down e
same_units n l m g e h =
    div_same (n * up g * l) (down g) (m * up e * l) (down e) (down_pos g) (down_pos e)
    (mul_right_comm (n * up g) l (down e) ∙ ap (λ (x : ℕ). x * l) h ∙ mul_right_comm (m * up e) (down g) l)

abbrev pattern : Format → Bool → ℕ → ℕ
pattern f s n = cond s (top f) 0 + (size n - prec f) * hid f + n / 2 ^ (size n - prec f)

same_bits : (f : Format) (t s : Bool) (n m : ℕ) (g e : ℤ) → t ≡ s → n * up g * down e ≡ m * up e * down g → to_bits f (fin t n g) ≡ to_bits f (fin s m e)
unfolding to_bits
same_bits f t s n m g e p h =
    ap (λ (b : Bool). pattern f b (n * up g * 2 ^ low f / down g)) p
    ∙ ap (λ (x : ℕ). pattern f s x) (same_units n (2 ^ low f) m g e h)

one_value : (f : Format) (x : Float) (s : Bool) (m : ℕ) (e : ℤ) → T (fits f x) → T (fits f (fin s m e)) → HasValue x s (m * up e) (down e) → x ≡ fin s m e
one_value f nan s m e p q v = absurd v
one_value f (inf t) s m e p q v = absurd v
one_value f (fin t n g) s m e p q v =
    sym (of_bits-to_bits f (fin t n g) p) ∙ ap (of_bits f) (same_bits f t s n m g e v.0 v.1) ∙ of_bits-to_bits f (fin s m e) q

-- a power of two that is no greater has no greater exponent
pow-back : (a b : ℕ) → 2 ^ a ≤ 2 ^ b → a ≤ b
pow-back a b h = by-test (leb a b) (leb-true a b) (λ n. let more : b < a = leb-false a b n in absurd (lt_irrefl (2 ^ b) (lt_of_lt_of_le (pow-lt more) h)))

-- its size is exact
exact-up : (f : Format) (s : Bool) (m k : ℕ) → m < 2 ^ prec f → m * 2 ^ k < 2 ^ suc (emax f) → HasValue (round f s (m * 2 ^ k) 1) s (m * 2 ^ k) 1
exact-up f s m k small below =
    let whole : m * 2 ^ (k + low f) ≡ m * 2 ^ k * 2 ^ low f = ap (λ (x : ℕ). m * x) (pow-add 2 k (low f)) ∙ sym (mul_assoc m (2 ^ k) (2 ^ low f)) in
    let sums : suc (emax f) + low f ≡ low f + suc (emax f) = add_comm (suc (emax f)) (low f) in
    round_exact f s (m * 2 ^ k) 1 m (k + low f) (zero-lt-suc 0) small
    (subst (λ (x : ℕ). x < 2 ^ (low f + suc (emax f))) (sym whole) (subst (λ (y : ℕ). m * 2 ^ k * 2 ^ low f < 2 ^ y) sums (shl_lt (suc (emax f)) (low f) below)))
    (sym whole ∙ sym (mul-one (m * 2 ^ (k + low f))))

exact-down : (f : Format) (s : Bool) (m k : ℕ) → m < 2 ^ prec f → suc k ≤ low f → HasValue (round f s (m * 1) (2 ^ suc k)) s (m * 1) (2 ^ suc k)
exact-down f s m k small fine =
    let j = low f - suc k in
    let back : j + suc k ≡ low f = omega arith in
    let r = reach f in
    let room : prec f + j ≤ low f + suc (emax f) = omega arith in
    round_exact f s (m * 1) (2 ^ suc k) m j (pow_pos (suc k)) small
    (lt_of_lt_of_le (shl_lt (prec f) j small) (pow_mono room))
    (ap (λ (x : ℕ). x * 2 ^ low f) (mul-one m) ∙ ap (λ (x : ℕ). m * 2 ^ x) (sym back) ∙ ap (λ (x : ℕ). m * x) (pow-add 2 j (suc k)) ∙ sym (mul_assoc m (2 ^ j) (2 ^ suc k)))

-- and it is rounded to itself
pub round-held : (f : Format) (s : Bool) (m : ℕ) (e : ℤ) → T (fits f (fin s m e)) → round f s (m * up e) (down e) ≡ fin s m e
round-held f s zero e h =
    round_same f s (zero * up e) (down e) 0 1 (down_pos e) (zero-lt-suc 0) (mul-one (zero * up e) ∙ zero-mul (up e) ∙ sym (zero-mul (down e)))
    ∙ whole_unique f (round f s 0 1) (fin s zero e) s 0 (round-fits f s 0 1) h (round_whole f s 0 zero-le) (refl, mul-one (zero * up e) ∙ zero-mul (up e) ∙ sym (zero-mul (down e)))
round-held f s (suc m) (pos k) h =
    one_value f (round f s (suc m * 2 ^ k) 1) s (suc m) (pos k) (round-fits f s (suc m * 2 ^ k) 1) h
    (exact-up f s (suc m) k (held f s m (pos k) h).0 (subst (λ (x : ℕ). suc m * 2 ^ k < x) (mul-one (2 ^ suc (emax f))) (held f s m (pos k) h).2))
round-held f s (suc m) (negsuc k) h =
    one_value f (round f s (suc m * 1) (2 ^ suc k)) s (suc m) (negsuc k) (round-fits f s (suc m * 1) (2 ^ suc k)) h
    (exact-down f s (suc m) k (held f s m (negsuc k) h).0 (pow-back (suc k) (low f) (held f s m (negsuc k) h).1))

-- ---- a zero added

-- x plus a zero, which is negative where b says so: x, but of zeros the sum is negative only where both are
abbrev pub plus_zero : Float → Bool → Float
plus_zero nan b = nan
plus_zero (inf s) b = inf s
plus_zero (fin s zero e) b = fin (s && b) 0 (pos 0)
plus_zero (fin s (suc m) e) b = fin s (suc m) e

less_zero : (a : ℕ) → a - 0 ≡ a
less_zero a = omega arith

sum_with_zero : (f : Format) (s : Bool) (a : ℕ) (t : Bool) (c : ℕ) → 0 < a → sum f s a t 0 c ≡ round f s a c
unfolding sum
sum_with_zero f true a true c h = rw (add-zero a)
sum_with_zero f true a false c h = rw (le-ltb a 0 zero-le, lt-ltb 0 a h, less_zero a)
sum_with_zero f false a true c h = rw (le-ltb a 0 zero-le, less_zero a)
sum_with_zero f false a false c h = rw (add-zero a)

sum-of-zeros : (f : Format) (s t : Bool) (c : ℕ) → sum f s 0 t 0 c ≡ round f (s && t) 0 c
unfolding sum
sum-of-zeros f true true c = refl
sum-of-zeros f true false c = refl
sum-of-zeros f false true c = refl
sum-of-zeros f false false c = refl

-- a zero of any denominator
pub round-zero : (s : Bool) (c : ℕ) → 0 < c → round binary64 s 0 c ≡ fin s 0 (pos 0)
unfolding round units odd size span climb
round-zero true c h = round_same binary64 true 0 c 0 1 h (zero-lt-suc 0) (sym (zero-mul c)) ∙ refl
round-zero false c h = round_same binary64 false 0 c 0 1 h (zero-lt-suc 0) (sym (zero-mul c)) ∙ refl

add-zero-is : (s : Bool) (m : ℕ) (e : ℤ) (b : Bool) → add binary64 (fin s m e) (fin b 0 (pos 0)) ≡ sum binary64 s (m * up e) b 0 (down e)
unfolding add
add-zero-is s m e b =
    ap (λ (x : ℕ). sum binary64 s x b (0 * 1 * down e) (down e * 1)) (mul-one (m * up e))
    ∙ ap (λ (x : ℕ). sum binary64 s (m * up e) b x (down e * 1)) (zero-mul (down e))
    ∙ ap (λ (x : ℕ). sum binary64 s (m * up e) b 0 x) (mul-one (down e))

pub zero-added : (x : Float) (b : Bool) → T (fits binary64 x) → add binary64 x (fin b 0 (pos 0)) ≡ plus_zero x b
unfolding add
zero-added nan b h = refl
zero-added (inf s) b h = refl
zero-added (fin s zero e) b h =
    add-zero-is s zero e b
    ∙ ap (λ (x : ℕ). sum binary64 s x b 0 (down e)) (zero-mul (up e))
    ∙ sum-of-zeros binary64 s b (down e)
    ∙ round-zero (s && b) (down e) (down_pos e)
zero-added (fin s (suc m) e) b h =
    add-zero-is s (suc m) e b
    ∙ sum_with_zero binary64 s (suc m * up e) b (down e) (mul-pos (zero-lt-suc m) (up_pos e))
    ∙ round-held binary64 s (suc m) e h

-- ---- 1 taken from a finite value

units-signs : (f : Format) (s : Bool) (q k : ℕ) → is_finite (units f s q k) ≡ ltb (q * 2 ^ k) (2 ^ (low f + suc (emax f)))
unfolding units odd is_finite
units-signs f s zero k = by-test (ltb (zero * 2 ^ k) (2 ^ (low f + suc (emax f)))) (λ y. rw y) (λ n. rw n)
units-signs f s (suc q) k = by-test (ltb (suc q * 2 ^ k) (2 ^ (low f + suc (emax f)))) (λ y. rw y) (λ n. rw n)

units-infinite : (f : Format) (s : Bool) (q k : ℕ) → ltb (q * 2 ^ k) (2 ^ (low f + suc (emax f))) ≡ false → units f s q k ≡ inf s
unfolding units
units-infinite f s q k n = rw n

-- whether a value is rounded to an infinity does not turn on its sign
round-signs : (f : Format) (s t : Bool) (a c : ℕ) → is_finite (round f s a c) ≡ is_finite (round f t a c)
round-signs f s t a c =
    let n = a * 2 ^ low f in
    let k = size (n / c) - prec f in
    let q = nearest (n / (c * 2 ^ k)) (compare (n % (c * 2 ^ k) * 2) (c * 2 ^ k)) in
    ap is_finite (round_is f s a c) ∙ units-signs f s q k ∙ sym (units-signs f t q k) ∙ ap is_finite (sym (round_is f t a c))

round-infinite : (f : Format) (s : Bool) (a c : ℕ) → is_finite (round f s a c) ≡ false → round f s a c ≡ inf s
round-infinite f s a c h =
    let n = a * 2 ^ low f in
    let k = size (n / c) - prec f in
    let q = nearest (n / (c * 2 ^ k)) (compare (n % (c * 2 ^ k) * 2) (c * 2 ^ k)) in
    round_is f s a c ∙ units-infinite f s q k (sym (units-signs f s q k) ∙ ap is_finite (sym (round_is f s a c)) ∙ h)

-- the largest value, (2^53 - 1) 2^971, and that 1 more is rounded to it
abbrev largest : ℕ
largest = (2 ^ 53 - 1) * 2 ^ 971

one-above : round binary64 false (largest + 1) 1 ≡ fin false (2 ^ 53 - 1) (pos 971)
unfolding round units odd size span climb count_trailing_zeros
one-above = refl

no-infinity-below : (m : ℕ) (e : ℤ) → T (le (inf false) (fin false m e)) → ⊥
unfolding le lt eq
no-infinity-below m e h = h

pub finite-round : (s : Bool) (a c : ℕ) → 0 < c → a ≤ (largest + 1) * c → is_finite (round binary64 s a c) ≡ true
finite-round s a c p h =
    by-test (is_finite (round binary64 false a c))
    (λ y. round-signs binary64 s false a c ∙ y)
    (λ n.
    let order : T (le (round binary64 false a c) (round binary64 false (largest + 1) 1)) = round_mono binary64 a c (largest + 1) 1 p (zero-lt-suc 0) (le_trans (le_of_eq (mul-one a)) h) in
    absurd (no-infinity-below (2 ^ 53 - 1) (pos 971) (subst (λ (x : Float). T (le (inf false) x)) one-above (subst (λ (x : Float). T (le x (round binary64 false (largest + 1) 1))) (round-infinite binary64 false a c n) order))))

pred-le : (a b : ℕ) → a < b → a ≤ b - 1
pred-le a b h = omega arith

-- an m of p digits, times a power of two that keeps it below 2^(p + q)
digits-below : (m k p q : ℕ) → m < 2 ^ p → m * 2 ^ k < 2 ^ (p + q) → m * 2 ^ k ≤ (2 ^ p - 1) * 2 ^ q
digits-below m k p q small below =
    by-test (leb k q)
    (λ y. mul-le-mul (pred-le m (2 ^ p) small) (pow_mono (leb-true k q y)))
    (λ n.
    let more : q < k = leb-false k q n in
    let split : k ≡ k - q + q = omega arith in
    let whole : m * 2 ^ k ≡ m * 2 ^ (k - q) * 2 ^ q = ap (λ (x : ℕ). m * 2 ^ x) split ∙ ap (λ (x : ℕ). m * x) (pow-add 2 (k - q) q) ∙ sym (mul_assoc m (2 ^ (k - q)) (2 ^ q)) in
    let under : m * 2 ^ (k - q) * 2 ^ q < 2 ^ p * 2 ^ q = subst (λ (x : ℕ). x < 2 ^ p * 2 ^ q) whole (subst (λ (x : ℕ). m * 2 ^ k < x) (pow-add 2 p q) below) in
    le_trans (le_of_eq whole) (mul-le-mul_right (2 ^ q) (pred-le (m * 2 ^ (k - q)) (2 ^ p) (lt_of_mul-lt-mul_right (2 ^ q) under))))

times_more : (m a b c : ℕ) → m ≤ a → 1 ≤ b → 1 ≤ c → m * 1 ≤ a * b * c
times_more m a b c h k l = le_trans (le_of_eq (sym (mul-one (m * 1)))) (mul-le-mul (mul-le-mul h k) l)

held-largest : (s : Bool) (m : ℕ) (e : ℤ) → T (fits binary64 (fin s m e)) → m * up e ≤ largest * down e
held-largest s zero e h = le_trans (le_of_eq (zero-mul (up e))) zero-le
held-largest s (suc m) (pos k) h =
    let parts = held binary64 s m (pos k) h in
    le_trans (digits-below (suc m) k 53 971 parts.0 (subst (λ (x : ℕ). suc m * 2 ^ k < x) (mul-one (2 ^ 1024)) parts.2)) (le_of_eq (sym (mul-one largest)))
held-largest s (suc m) (negsuc k) h =
    let parts = held binary64 s m (negsuc k) h in
    times_more (suc m) (2 ^ 53 - 1) (2 ^ 971) (2 ^ suc k) (pred-le (suc m) (2 ^ 53) parts.0) (pow_pos 971) (pow_pos (suc k))

sum-finite : (s : Bool) (a b c : ℕ) → 0 < c → a + b ≤ (largest + 1) * c → is_finite (sum binary64 s a true b c) ≡ true
unfolding sum
sum-finite true a b c p h = finite-round true (a + b) c p h
sum-finite false a b c p h =
    by-test (ltb a b)
    (λ y. rw y (finite-round true (b - a) c p (le_trans (less b a) h)))
    (λ n. rw n (finite-round false (a - b) c p (le_trans (less-too a b) h)))
  where
    less : (b a : ℕ) → b - a ≤ a + b
    less b a = omega arith

    less-too : (a b : ℕ) → a - b ≤ a + b
    less-too a b = omega arith

pub one-taken : (x : Float) → T (fits binary64 x) → is_finite x ≡ true → is_finite (sub binary64 x one) ≡ true
unfolding sub add neg is_finite
one-taken nan h k = k
one-taken (inf s) h k = k
one-taken (fin s m e) h k =
    let a : m * up e * 1 ≡ m * up e = mul-one (m * up e) in
    let b : 1 * 1 * down e ≡ down e = one-mul (down e) in
    let c : down e * 1 ≡ down e = mul-one (down e) in
    let room : m * up e * 1 + 1 * 1 * down e ≤ (largest + 1) * (down e * 1) = le_trans (le_of_eq (ap₂ ◌+◌ a b)) (le_trans (more (m * up e) (largest * down e) (down e) (held-largest s m e h)) (le_of_eq (sym (ap (λ (x : ℕ). (largest + 1) * x) c ∙ add-mul largest 1 (down e) ∙ ap (λ (x : ℕ). largest * down e + x) (one-mul (down e)))))) in
    sum-finite s (m * up e * 1) (1 * 1 * down e) (down e * 1) (mul-pos (down_pos e) (zero-lt-suc 0)) room
  where
    more : (a b c : ℕ) → a ≤ b → a + c ≤ b + c
    more a b c h = omega arith
