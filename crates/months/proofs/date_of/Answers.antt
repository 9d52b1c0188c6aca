-- `date_of` meets its contract: 17, 22, then the date.
use native.Mathlib.Omega.{arith}
use mathlib.Core.Path.{sym, ◌∙◌}
use borrow.Author.Tests.{le-leb, lt-leb}
use Rattle.calendar.specs.Dates.{date_of}
use Rattle.months.specs.Counting.{place-small}
use Rattle.months.proofs.date_of.Goals as goal

pub overflow_add-month : goal.overflow_add-month
overflow_add-month c = omega (arith, place-small _ _ _ (sym c.has_day.ensures ∙ c.if-has_day.true) c.place_in-place.ensures)

pub overflow_cast-result : goal.overflow_cast-result
overflow_cast-result c = omega (arith, place-small _ _ _ (sym c.has_day.ensures ∙ c.if-has_day.true) c.place_in-place.ensures)

pub overflow_cast-result-then-has_day : goal.overflow_cast-result-then-has_day
overflow_cast-result-then-has_day c = omega (arith, place-small _ _ _ (sym c.has_day.ensures ∙ c.if-has_day.true) c.place_in-place.ensures)

pub returns-then-has_day : goal.returns-then-has_day
unfolding date_of
returns-then-has_day c = rw (le-leb _ _ c.if-year-le-LAST_YEAR.true, ← c.has_day.ensures, c.if-has_day.true, ← c.place_in-place.ensures)

pub returns-then-year-le-LAST_YEAR : goal.returns-then-year-le-LAST_YEAR
unfolding date_of
returns-then-year-le-LAST_YEAR c = rw (le-leb _ _ c.if-year-le-LAST_YEAR.true, ← c.has_day.ensures, c.if-has_day.false)

pub returns : goal.returns
unfolding date_of
returns c = rw (lt-leb _ _ c.if-year-le-LAST_YEAR.false)
