-- `is_forecastable` meets its contract: test by test.
use mathlib.Core.Path.{◌≡◌, sym, ◌∙◌}
use mathlib.Core.Bool.{true, false, not}
use lib.Ieee.{eq, ne, of_bits}
use Rattle.forecasts.specs.Forecasting.{forecastable, zero_float}
use Rattle.holdover.proofs.is_forecastable.Goals as goal
use Rattle.holdover.proofs.is_forecastable.Goals.{then-are_figures_finite, else-are_figures_finite}

pub returns-then-oscillator : goal.returns-then-oscillator
unfolding forecastable ne of_bits
returns-then-oscillator c =
    elim c.if-are_figures_finite.branch [
      | then-are_figures_finite w ↦
          let no_zero : not (eq c.args.oscillator.reference zero_float) ≡ true = sym w.value-is ∙ c.if-oscillator.true in
          rw (← c.are_figures_finite.ensures, w.if-are_figures_finite.true, no_zero)
      | else-are_figures_finite w ↦ cc
    ]

pub returns-else-oscillator : goal.returns-else-oscillator
unfolding forecastable ne of_bits
returns-else-oscillator c =
    elim c.if-are_figures_finite.branch [
      | then-are_figures_finite w ↦
          let a-zero : not (eq c.args.oscillator.reference zero_float) ≡ false = sym w.value-is ∙ c.if-oscillator.false in
          c.if-oscillator.false ∙ rw (← c.are_figures_finite.ensures, w.if-are_figures_finite.true, a-zero)
      | else-are_figures_finite w ↦ c.if-oscillator.false ∙ rw (← c.are_figures_finite.ensures, w.if-are_figures_finite.false)
    ]
