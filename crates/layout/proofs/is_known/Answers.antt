-- `is_known` meets its contract: a format that carries the year is known, and of any other the letter's row takes the expression.
use mathlib.Core.Path.{sym, ◌∙◌}
use Rattle.layout.specs.Letters.{year-known}
use Rattle.layout.proofs.is_known.Goals as goal

pub returns-then-carries_year : goal.returns-then-carries_year
returns-then-carries_year c = c.if-carries_year.true ∙ sym (year-known c.args.format (sym c.carries_year.ensures ∙ c.if-carries_year.true))
