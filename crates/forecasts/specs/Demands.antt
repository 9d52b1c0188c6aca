-- What the formula gives where nothing drifts, at the cut itself, and where f0/fr overflows.
use Rattle.std.specs.Prelude.{◌≡◌, refl, Bool, true, false, not, ◌&&◌, ◌||◌, ℕ, zero, suc, ◌*◌, ◌≤◌, T, leb, eqb, ℤ, pos, Float, Ok}
use Rattle.std.proofs.Common.{sym, ap, ap₂, ◌∙◌, zero-mul, mul-zero, mul-one, one-mul, mul-pos, zero-lt-suc, arith, leb-true, ne_eqb}
use Rattle.std.specs.Bool.{beq}
use Rattle.std.specs.Float.{nan, inf, fin, binary64}
use Rattle.std.specs.Float.Ieee.{up, down, unlike, add, sub, mul, div, neg, eq, of_int, fits, round, sum, units, odd, size, span, climb}
use Rattle.std.specs.Float.Ieee.Exact.{HasValue}
use Rattle.std.specs.Float.Ieee.Fits.{up_pos, down_pos, div-fits}
use Rattle.std.specs.Float.Ieee.Scale.{round_same}
use Rattle.timecode.proofs.Laws.Tests.{by-test, clash, and_left, and_right}
use Rattle.forecasts.specs.declared.Oscillator.{Oscillator}
use Rattle.forecasts.specs.Exact.{seconds-exact, square-exact}
use Rattle.forecasts.specs.Forecasting.{is_finite, figures_finite, forecastable, expected_error, forecast_of, zero_float, one, two, most_seconds}
use Rattle.forecasts.specs.Rounding.{plus_zero, round-zero, zero-added, one-taken}

-- ---- what number 23 leaves

record Figures (o : Oscillator) (t : ℕ) : Type 0 where
  error_finite : is_finite o.error ≡ true
  frequency_finite : is_finite o.frequency ≡ true
  reference_finite : is_finite o.reference ≡ true
  ageing_finite : is_finite o.ageing ≡ true
  reference_no_zero : not (eq o.reference zero_float) ≡ true
  within : t ≤ most_seconds

figures : (o : Oscillator) (t : ℕ) → forecastable o t ≡ true → Figures o t
unfolding forecastable figures_finite
figures o t h =
    let rest = not (eq o.reference zero_float) && leb t most_seconds in
    let all = and_left (is_finite o.error && (is_finite o.frequency && (is_finite o.reference && is_finite o.ageing))) rest h in
    let later = and_right (is_finite o.error && (is_finite o.frequency && (is_finite o.reference && is_finite o.ageing))) rest h in
    let three = and_right (is_finite o.error) (is_finite o.frequency && (is_finite o.reference && is_finite o.ageing)) all in
    let pair = and_right (is_finite o.frequency) (is_finite o.reference && is_finite o.ageing) three in
    record {
      error_finite = and_left (is_finite o.error) (is_finite o.frequency && (is_finite o.reference && is_finite o.ageing)) all;
      frequency_finite = and_left (is_finite o.frequency) (is_finite o.reference && is_finite o.ageing) three;
      reference_finite = and_left (is_finite o.reference) (is_finite o.ageing) pair;
      ageing_finite = and_right (is_finite o.reference) (is_finite o.ageing) pair;
      reference_no_zero = and_left (not (eq o.reference zero_float)) (leb t most_seconds) later;
      within = leb-true t most_seconds (and_right (not (eq o.reference zero_float)) (leb t most_seconds) later);
    }

forecast-taken : (o : Oscillator) (t : ℕ) (x : Float) → forecastable o t ≡ true → expected_error o (of_int binary64 (pos t)) ≡ x → forecast_of o t ≡ Ok x
unfolding forecast_of
forecast-taken o t x h e = rw (h, e)

-- ---- operations with a zero

-- the sign is minus, that of -0 too
abbrev pub negative : Float → Bool
negative nan = false
negative (inf s) = s
negative (fin s m e) = s

unlike-false : (s : Bool) → unlike s false ≡ s
unlike-false true = refl
unlike-false false = refl

false-unlike : (s : Bool) → unlike false s ≡ s
false-unlike true = refl
false-unlike false = refl

times_zero : (x : Float) → is_finite x ≡ true → mul binary64 x zero_float ≡ fin (negative x) 0 (pos 0)
unfolding mul is_finite
times_zero nan h = clash refl (sym h)
times_zero (inf s) h = clash refl (sym h)
times_zero (fin s m e) h = rw (unlike-false s, mul-zero (m * up e), mul-one (down e)) (round-zero s (down e) (down_pos e))

zero-times : (x : Float) → is_finite x ≡ true → mul binary64 zero_float x ≡ fin (negative x) 0 (pos 0)
unfolding mul is_finite
zero-times nan h = clash refl (sym h)
zero-times (inf s) h = clash refl (sym h)
zero-times (fin s m e) h = rw (false-unlike s, zero-mul (m * up e), one-mul (down e)) (round-zero s (down e) (down_pos e))

times-signed-zero : (x : Float) (a : ℕ) (z : Bool) → HasValue x false a 1 → mul binary64 x (fin z 0 (pos 0)) ≡ fin z 0 (pos 0)
unfolding mul
times-signed-zero nan a z v = absurd v
times-signed-zero (inf s) a z v = absurd v
times-signed-zero (fin s m e) a z v = rw (v.0, false-unlike z, mul-zero (m * up e), mul-one (down e)) (round-zero z (down e) (down_pos e))

half-of-zero : (z : Bool) → div binary64 (fin z 0 (pos 0)) two ≡ fin z 0 (pos 0)
unfolding div round units odd size span climb
half-of-zero true = refl
half-of-zero false = refl

-- ---- nothing drifts: f0 = fr and a = 0

zero-equal : (s : Bool) (e : ℤ) → eq (fin s zero e) zero_float ≡ true
unfolding eq
zero-equal s e = rw (zero-mul (up e), zero-mul (down e)) (either s)
  where
    either : (s : Bool) → (beq s false || true) ≡ true
    either true = refl
    either false = refl

same_sign : (s : Bool) → unlike s s ≡ false
same_sign true = refl
same_sign false = refl

no-ratio : (n : ℕ) → eqb (suc n) 0 ≡ false
no-ratio n = ne_eqb (suc n) 0 (λ e. omega arith)

ratio-one : (x : Float) → is_finite x ≡ true → not (eq x zero_float) ≡ true → div binary64 x x ≡ one
unfolding is_finite div
ratio-one nan h k = clash refl (sym h)
ratio-one (inf s) h k = clash refl (sym h)
ratio-one (fin s zero e) h k = clash k (ap not (zero-equal s e))
ratio-one (fin s (suc m) e) h k =
    let n = suc m * up e * down e in
    rw (no-ratio m, same_sign s)
    (round_same binary64 false n n 1 1 (mul-pos (mul-pos (zero-lt-suc m) (up_pos e)) (down_pos e)) (zero-lt-suc 0) (mul-one n ∙ sym (one-mul n)) ∙ unity)
  where
    unity : round binary64 false 1 1 ≡ one
    unity = refl

less_one : sub binary64 one one ≡ zero_float
unfolding sub add neg sum round units odd size span climb
less_one = refl

value-finite : (x : Float) (a : ℕ) → HasValue x false a 1 → (is_finite x ≡ true) × (negative x ≡ false)
unfolding is_finite
value-finite nan a v = absurd v
value-finite (inf s) a v = absurd v
value-finite (fin s m e) a v = (refl, v.0)

plus-zero-fits : (x : Float) (b : Bool) → T (fits binary64 x) → T (fits binary64 (plus_zero x b))
unfolding fits
plus-zero-fits nan b h = h
plus-zero-fits (inf s) b h = h
plus-zero-fits (fin s zero e) b h = tt
plus-zero-fits (fin s (suc m) e) b h = h

-- two zeros added one after the other
zeros-added : (x : Float) (b d : Bool) → T (fits binary64 x) → add binary64 (add binary64 x (fin b 0 (pos 0))) (fin d 0 (pos 0)) ≡ plus_zero (plus_zero x b) d
zeros-added x b d h = ap (λ (y : Float). add binary64 y (fin d 0 (pos 0))) (zero-added x b h) ∙ zero-added (plus_zero x b) d (plus-zero-fits x b h)

plus-zero-once : (x : Float) (d : Bool) → plus_zero (plus_zero x false) d ≡ plus_zero x false
plus-zero-once nan d = refl
plus-zero-once (inf s) d = refl
plus-zero-once (fin true zero e) d = refl
plus-zero-once (fin false zero e) d = refl
plus-zero-once (fin s (suc m) e) d = refl

-- With f0 = fr and a = 0, of either sign, the forecast is E0 after every t; where E0 is -0 it is +0.
pub nothing-drifts : (o : Oscillator) (t : ℕ) (z : Bool) → T (fits binary64 o.error) → forecastable o t ≡ true → o.frequency ≡ o.reference → o.ageing ≡ fin z 0 (pos 0) → forecast_of o t ≡ Ok (plus_zero o.error false)
unfolding expected_error
nothing-drifts o t z h k same none =
    let p = figures o t k in
    let x = of_int binary64 (pos t) in
    let value = value-finite x t (seconds-exact t p.within) in
    let square = square-exact t p.within in
    let ratio : div binary64 o.frequency o.reference ≡ one = ap (λ (y : Float). div binary64 y o.reference) same ∙ ratio-one o.reference p.reference_finite p.reference_no_zero in
    let drift : mul binary64 (sub binary64 (div binary64 o.frequency o.reference) one) x ≡ zero_float = ap (λ (y : Float). mul binary64 (sub binary64 y one) x) ratio ∙ ap (λ (y : Float). mul binary64 y x) less_one ∙ zero-times x value.0 ∙ ap (λ (b : Bool). fin b 0 (pos 0)) value.1 in
    let aged : div binary64 (mul binary64 (mul binary64 x x) o.ageing) two ≡ fin z 0 (pos 0) = ap₂ (λ (y w : Float). div binary64 (mul binary64 y w) two) square.0 none ∙ ap (λ (y : Float). div binary64 y two) (times-signed-zero (of_int binary64 (pos (t * t))) (t * t) z square.1) ∙ half-of-zero z in
    forecast-taken o t (plus_zero o.error false) k
    (ap₂ (λ (y w : Float). add binary64 (add binary64 o.error y) w) drift aged ∙ zeros-added o.error false z h ∙ plus-zero-once o.error z)

-- ---- at the cut: t = 0

no-time : of_int binary64 (pos 0) ≡ zero_float
unfolding of_int round units odd size span climb
no-time = refl

no-square : mul binary64 zero_float zero_float ≡ zero_float
unfolding mul round units odd size span climb
no-square = refl

abbrev offset : Oscillator → Float
offset o = sub binary64 (div binary64 o.frequency o.reference) one

-- With t = 0 the forecast is E0 wherever f0/fr is finite; where E0 is -0 it stays so only if f0/fr - 1 and a have the sign minus too.
pub at-the-cut : (o : Oscillator) → T (fits binary64 o.error) → forecastable o 0 ≡ true → is_finite (div binary64 o.frequency o.reference) ≡ true
    → forecast_of o 0 ≡ Ok (plus_zero (plus_zero o.error (negative (offset o))) (negative o.ageing))
unfolding expected_error
at-the-cut o h k finite =
    let p = figures o 0 k in
    let drift : mul binary64 (offset o) (of_int binary64 (pos 0)) ≡ fin (negative (offset o)) 0 (pos 0) = ap (mul binary64 (offset o)) no-time ∙ times_zero (offset o) (one-taken (div binary64 o.frequency o.reference) (div-fits binary64 o.frequency o.reference) finite) in
    let aged : div binary64 (mul binary64 (mul binary64 (of_int binary64 (pos 0)) (of_int binary64 (pos 0))) o.ageing) two ≡ fin (negative o.ageing) 0 (pos 0) = ap (λ (y : Float). div binary64 (mul binary64 (mul binary64 y y) o.ageing) two) no-time ∙ ap (λ (y : Float). div binary64 (mul binary64 y o.ageing) two) no-square ∙ ap (λ (y : Float). div binary64 y two) (zero-times o.ageing p.ageing_finite) ∙ half-of-zero (negative o.ageing) in
    forecast-taken o 0 (plus_zero (plus_zero o.error (negative (offset o))) (negative o.ageing)) k
    (ap₂ (λ (y w : Float). add binary64 (add binary64 o.error y) w) drift aged ∙ zeros-added o.error (negative (offset o)) (negative o.ageing) h)

-- ---- f0/fr overflows: no forecast is finite, and at the cut it is no number

added-left : (x y : Float) → is_finite x ≡ false → is_finite (add binary64 x y) ≡ false
unfolding is_finite add
added-left nan y h = refl
added-left (inf s) nan h = refl
added-left (inf true) (inf true) h = refl
added-left (inf true) (inf false) h = refl
added-left (inf false) (inf true) h = refl
added-left (inf false) (inf false) h = refl
added-left (inf s) (fin t n d) h = refl
added-left (fin s m e) y h = clash refl h

added-right : (x y : Float) → is_finite y ≡ false → is_finite (add binary64 x y) ≡ false
unfolding is_finite add
added-right nan y h = refl
added-right (inf s) nan h = refl
added-right (inf true) (inf true) h = refl
added-right (inf true) (inf false) h = refl
added-right (inf false) (inf true) h = refl
added-right (inf false) (inf false) h = refl
added-right (inf s) (fin t n d) h = refl
added-right (fin s m e) nan h = refl
added-right (fin s m e) (inf t) h = refl
added-right (fin s m e) (fin t n d) h = clash refl h

multiplied : (x y : Float) → is_finite x ≡ false → is_finite (mul binary64 x y) ≡ false
unfolding is_finite mul
multiplied nan y h = refl
multiplied (inf s) nan h = refl
multiplied (inf s) (inf t) h = refl
multiplied (inf s) (fin t n d) h = by-test (eqb n 0) (λ y. rw y) (λ k. rw k)
multiplied (fin s m e) y h = clash refl h

pub overflowed : (o : Oscillator) (t : ℕ) → forecastable o t ≡ true → is_finite (div binary64 o.frequency o.reference) ≡ false
    → (forecast_of o t ≡ Ok (expected_error o (of_int binary64 (pos t)))) × (is_finite (expected_error o (of_int binary64 (pos t))) ≡ false)
unfolding expected_error sub
overflowed o t k infinite = (
  forecast-taken o t (expected_error o (of_int binary64 (pos t))) k refl,
  added-left _ _ (added-right o.error _ (multiplied (offset o) (of_int binary64 (pos t)) (added-left (div binary64 o.frequency o.reference) (neg one) infinite))),
)

no_number : (x : Float) → is_finite x ≡ false → mul binary64 x zero_float ≡ nan
unfolding is_finite mul
no_number nan h = refl
no_number (inf s) h = refl
no_number (fin s m e) h = clash refl h

added-no-number : (x : Float) → add binary64 x nan ≡ nan
unfolding add
added-no-number nan = refl
added-no-number (inf s) = refl
added-no-number (fin s m e) = refl

from-no-number : (x : Float) → add binary64 nan x ≡ nan
unfolding add
from-no-number x = refl

pub overflowed-at-the-cut : (o : Oscillator) → forecastable o 0 ≡ true → is_finite (div binary64 o.frequency o.reference) ≡ false → forecast_of o 0 ≡ Ok nan
unfolding expected_error sub
overflowed-at-the-cut o k infinite =
    let drift : mul binary64 (offset o) (of_int binary64 (pos 0)) ≡ nan = ap (mul binary64 (offset o)) no-time ∙ no_number (offset o) (added-left (div binary64 o.frequency o.reference) (neg one) infinite) in
    let last = div binary64 (mul binary64 (mul binary64 (of_int binary64 (pos 0)) (of_int binary64 (pos 0))) o.ageing) two in
    forecast-taken o 0 nan k
    (ap (λ (y : Float). add binary64 (add binary64 o.error y) last) drift ∙ ap (λ (y : Float). add binary64 y last) (added-no-number o.error) ∙ from-no-number last)
