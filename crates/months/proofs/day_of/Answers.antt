-- `day_of` meets its contract: 17, 22, then the day.
use native.Mathlib.Omega.{arith}
use mathlib.Core.Path.{sym, ◌∙◌}
use borrow.Author.Tests.{le-leb, lt-leb}
use Rattle.calendar.specs.Dates.{day_of}
use Rattle.calendar.proofs.Inverse.{has}
use Rattle.months.proofs.day_of.Goals as goal

pub overflow_sub-month : goal.overflow_sub-month
overflow_sub-month c = omega (arith, (has _ (sym c.has_date.ensures ∙ c.if-has_date.true)).month)

pub day_in-requires : goal.day_in-requires
day_in-requires c = (omega (arith, (has _ (sym c.has_date.ensures ∙ c.if-has_date.true)).month, (has _ (sym c.has_date.ensures ∙ c.if-has_date.true)).last_month), omega (arith, c.struct_known-then-has_date-2-1.given))

pub returns-then-has_date : goal.returns-then-has_date
unfolding day_of
returns-then-has_date c = rw (le-leb _ _ c.if-date-le-LAST_YEAR.true, ← c.has_date.ensures, c.if-has_date.true, ← c.day_in.ensures)

pub returns-then-date-le-LAST_YEAR : goal.returns-then-date-le-LAST_YEAR
unfolding day_of
returns-then-date-le-LAST_YEAR c = rw (le-leb _ _ c.if-date-le-LAST_YEAR.true, ← c.has_date.ensures, c.if-has_date.false)

pub returns : goal.returns
unfolding day_of
returns c = rw (lt-leb _ _ c.if-date-le-LAST_YEAR.false)
