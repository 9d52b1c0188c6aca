-- Worked rows: a forecast by hand, one that is infinite, one that is no number, and refusals.
use Rattle.std.specs.Prelude.{◌≡◌, refl, true, false, pos, negsuc, Float, Ok, Err}
use Rattle.std.specs.Int.Count.{count_trailing_zeros}
use Rattle.std.specs.Float.{nan, inf, fin}
use Rattle.std.specs.Float.Ieee.{add, sub, mul, div, eq, neg, of_int, round, sum, units, odd, size, span, climb}
use Rattle.timecode.specs.declared.Refusal.TheVariants.{InvalidForecast}
use Rattle.forecasts.specs.declared.Oscillator.{Oscillator}
use Rattle.forecasts.specs.Forecasting.{is_finite, figures_finite, forecastable, expected_error, forecast_of, zero_float, one, two}

abbrev figures : Float → Float → Float → Float → Oscillator
figures error frequency reference ageing = record { error = error; frequency = frequency; reference = reference; ageing = ageing }

-- 0.5 + (2 / 1 - 1) 3 + 9 * 2 / 2 = 12.5
pub by_hand : forecast_of (figures (fin false 1 (negsuc 0)) two one two) 3 ≡ Ok (fin false 25 (negsuc 0))
unfolding forecast_of forecastable figures_finite is_finite expected_error add sub mul div eq neg of_int round sum units odd size span climb count_trailing_zeros
by_hand = refl

-- 2^1000 / 2^-1000 overflows; infinity times 0 is no number
pub no_number : forecast_of (figures zero_float (fin false 1 (pos 1000)) (fin false 1 (negsuc 999)) zero_float) 0 ≡ Ok nan
unfolding forecast_of forecastable figures_finite is_finite expected_error add sub mul div eq neg of_int round sum units odd size span climb count_trailing_zeros
no_number = refl

pub infinite : forecast_of (figures zero_float (fin false 1 (pos 1000)) (fin false 1 (negsuc 999)) zero_float) 1 ≡ Ok (inf false)
unfolding forecast_of forecastable figures_finite is_finite expected_error add sub mul div eq neg of_int round sum units odd size span climb count_trailing_zeros
infinite = refl

pub reference-minus-zero : forecast_of (figures one one (fin true 0 (pos 0)) one) 1 ≡ Err InvalidForecast
unfolding forecast_of forecastable figures_finite is_finite eq
reference-minus-zero = refl

pub last-second : forecast_of (figures zero_float one one zero_float) 16777216 ≡ Ok zero_float
unfolding forecast_of forecastable figures_finite is_finite expected_error add sub mul div eq neg of_int round sum units odd size span climb count_trailing_zeros
last-second = refl

pub second-too-far : forecast_of (figures zero_float one one zero_float) 16777217 ≡ Err InvalidForecast
unfolding forecast_of forecastable figures_finite is_finite eq
second-too-far = refl
