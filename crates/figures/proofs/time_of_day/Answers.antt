-- `time_of_day` meets its contract: the clock of the hundredths, or number 2.
use mathlib.Core.Path.{sym, ◌∙◌}
use Rattle.figures.specs.Figures.{time_of_day_of}
use Rattle.figures.specs.Ranges.{range-hundredths}
use Rattle.figures.proofs.time_of_day.Goals as goal

pub clock_of-requires : goal.clock_of-requires
clock_of-requires c = range-hundredths c.args.time (sym c.in_range.ensures ∙ c.if-in_range.true)

pub returns-then-in_range : goal.returns-then-in_range
unfolding time_of_day_of
returns-then-in_range c = rw (sym c.in_range.ensures ∙ c.if-in_range.true) c.clock_of.ensures

pub returns-else-in_range : goal.returns-else-in_range
unfolding time_of_day_of
returns-else-in_range c = rw (sym c.in_range.ensures ∙ c.if-in_range.false, c.number_of.ensures)
