-- `forecast` meets its contract: by the test.
use Rattle.forecasts.specs.Forecasting.{forecast_of}
use Rattle.holdover.proofs.forecast.Goals as goal

pub returns-then-is_forecastable : goal.returns-then-is_forecastable
unfolding forecast_of
returns-then-is_forecastable c = rw (← c.is_forecastable.ensures, c.if-is_forecastable.true, ← c.expected_error.ensures)

pub returns : goal.returns
unfolding forecast_of
returns c = rw (← c.is_forecastable.ensures, c.if-is_forecastable.false)
