-- Document 02, "Hold-over forecast": E = E0 + (f0/fr - 1)t + a t²/2, each operation rounded to 64 bits.
use Rattle.timecode.specs.declared.Refusal.{Refusal}
use Rattle.std.specs.Prelude.{Bool, true, false, not, ◌&&◌, ℕ, leb, pos, Float, Result, Ok, Err}
use Rattle.std.specs.Float.{nan, inf, fin, binary64}
use Rattle.std.specs.Float.Ieee.{add, sub, mul, div, eq, of_int}
use Rattle.timecode.specs.Answers.{check}
use Rattle.timecode.specs.declared.Refusal.TheVariants.{InvalidForecast}
use Rattle.forecasts.specs.declared.Oscillator.{Oscillator}

-- a number, and no infinity
unfoldable pub is_finite : Float → Bool
is_finite nan = false
is_finite (inf s) = false
is_finite (fin s m e) = true

-- 0, 1 and 2: m * 2 ^ e
abbrev pub zero_float : Float
zero_float = fin false 0 (pos 0)

abbrev pub one : Float
one = fin false 1 (pos 0)

abbrev pub two : Float
two = fin false 1 (pos 1)

-- the most whole seconds
abbrev pub most_seconds : ℕ
most_seconds = 16777216

unfoldable pub figures_finite : Oscillator → Bool
figures_finite o = is_finite o.error && (is_finite o.frequency && (is_finite o.reference && is_finite o.ageing))

-- 23: every figure is finite, fr is a zero of neither sign, and t is within its limit
unfoldable pub forecastable : Oscillator → ℕ → Bool
forecastable o t = figures_finite o && (not (eq o.reference zero_float) && leb t most_seconds)

-- f0/fr, less 1, times t, added to E0; then t times t, times a, divided by 2, added last
unfoldable pub expected_error : Oscillator → Float → Float
expected_error o t =
    add binary64
    (add binary64 o.error (mul binary64 (sub binary64 (div binary64 o.frequency o.reference) one) t))
    (div binary64 (mul binary64 (mul binary64 t t) o.ageing) two)

unfoldable pub forecast_of : Oscillator → ℕ → Result Float Refusal
forecast_of o t = check Err InvalidForecast (forecastable o t) (Ok (expected_error o (of_int binary64 (pos t))))
