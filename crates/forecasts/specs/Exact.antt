-- t and t times t are exact for every t that is taken, so that only the operations which the formula names round; and how a program tells a finite number.
use Rattle.std.specs.Prelude.{◌≡◌, refl, Bool, true, false, ◌&&◌, ℕ, ◌*◌, ◌≤◌, pos, Float}
use Rattle.std.proofs.Common.{sym, ap₂, ◌∙◌, mul-one, mul-pos, mul-le-mul, le_trans, arith}
use Rattle.std.proofs.Math.Nat.{mul-mul-mul_comm}
use Rattle.std.specs.Float.{nan, inf, fin, binary64}
use Rattle.std.specs.Float.Ieee.{up, down, lt, eq, mul, round, of_int}
use Rattle.std.specs.Float.Ieee.Back.{round_whole}
use Rattle.std.specs.Float.Ieee.Exact.{HasValue}
use Rattle.std.specs.Float.Ieee.Fits.{down_pos}
use Rattle.std.specs.Float.Ieee.Scale.{round_same}
use Rattle.forecasts.specs.Forecasting.{is_finite, zero_float, most_seconds}

-- a finite number lies between the infinities
pub finite-between : (x : Float) → is_finite x ≡ (lt (inf true) x && lt x (inf false))
unfolding is_finite lt
finite-between nan = refl
finite-between (inf true) = refl
finite-between (inf false) = refl
finite-between (fin s m e) = refl

-- 0.0 and -0.0 are refused as a reference
pub zeros_equal : (s : Bool) → eq (fin s 0 (pos 0)) zero_float ≡ true
unfolding eq
zeros_equal true = refl
zeros_equal false = refl

-- t as a float is t
pub seconds-exact : (t : ℕ) → t ≤ most_seconds → HasValue (of_int binary64 (pos t)) false t 1
unfolding of_int
seconds-exact t h = round_whole binary64 false t (le_trans h (omega arith))

square-cross : (u v t : ℕ) → u * 1 ≡ t * v → u * u * 1 ≡ t * t * (v * v)
square-cross u v t h =
    let k : u ≡ t * v = sym (mul-one u) ∙ h in
    mul-one (u * u) ∙ ap₂ ◌*◌ k k ∙ mul-mul-mul_comm t v t v

squared : (x : Float) (t : ℕ) → HasValue x false t 1 → mul binary64 x x ≡ round binary64 false (t * t) 1
unfolding mul
squared nan t v = absurd v
squared (inf s) t v = absurd v
squared (fin true m e) t v = round_same binary64 false (m * up e * (m * up e)) (down e * down e) (t * t) 1 (mul-pos (down_pos e) (down_pos e)) (omega arith) (square-cross (m * up e) (down e) t v.1)
squared (fin false m e) t v = round_same binary64 false (m * up e * (m * up e)) (down e * down e) (t * t) 1 (mul-pos (down_pos e) (down_pos e)) (omega arith) (square-cross (m * up e) (down e) t v.1)

-- and t times t is t²
pub square-exact : (t : ℕ) → t ≤ most_seconds → (mul binary64 (of_int binary64 (pos t)) (of_int binary64 (pos t)) ≡ of_int binary64 (pos (t * t))) × HasValue (of_int binary64 (pos (t * t))) false (t * t) 1
unfolding of_int
square-exact t h = (
  squared (of_int binary64 (pos t)) t (seconds-exact t h),
  round_whole binary64 false (t * t) (le_trans (mul-le-mul h h) (omega arith)),
)
