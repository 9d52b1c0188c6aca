-- `expected_error` meets its contract, operation by operation.
use mathlib.Core.Path.{refl}
use lib.Ieee.{of_bits}
use Rattle.forecasts.specs.Forecasting.{expected_error}
use Rattle.holdover.proofs.expected_error.Goals as goal

pub returns : goal.returns
unfolding expected_error of_bits
returns c = refl
