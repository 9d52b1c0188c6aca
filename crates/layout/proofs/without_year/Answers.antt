-- `without_year` meets its contract: four less, where the year is carried.
use mathlib.Core.Path.{sym, ◌∙◌}
use Rattle.layout.specs.Tables.{without_year}
use Rattle.layout.specs.Letters.{year-from-4}
use Rattle.layout.proofs.without_year.Goals as goal

pub overflow_sub-result : goal.overflow_sub-result
overflow_sub-result c = year-from-4 c.args.expression (sym c.has_year.ensures ∙ c.if-has_year.true)

pub returns-then-has_year : goal.returns-then-has_year
unfolding without_year
returns-then-has_year c = rw (sym c.has_year.ensures ∙ c.if-has_year.true)

pub returns-else-has_year : goal.returns-else-has_year
unfolding without_year
returns-else-has_year c = rw (sym c.has_year.ensures ∙ c.if-has_year.false)
