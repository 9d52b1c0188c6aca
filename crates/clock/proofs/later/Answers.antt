-- `later` meets its contract. That the sums fit follows from the limits of a time on the format.
use native.Mathlib.Omega.{arith}
use borrow.Author.Tests.{eq-eqb, ne_eqb}
use Rattle.timecode.specs.Frames.{turn_day, following}
use Rattle.timecode.proofs.Laws.Times.{on-format, year-below}
use Rattle.clock.proofs.later.Goals as goal

pub overflow_add-hundredths : goal.overflow_add-hundredths
overflow_add-hundredths c = let o = on-format c.args.format c.args.time c.requires.2 c.requires.0 c.requires.1 in omega (arith, o.below, c.frame_interval.ensures.2)

pub returns-then-hundredths-day_end : goal.returns-then-hundredths-day_end
unfolding following
returns-then-hundredths-day_end c = rw (← c.frame_interval.ensures.0, ← c.day_end.ensures, ne_eqb _ _ c.if-hundredths-day_end.true)

pub year_of_day_after-requires : goal.year_of_day_after-requires
year_of_day_after-requires c = year-below c.args.format c.args.time.year c.requires.2

pub day_after-requires : goal.day_after-requires
day_after-requires c = (on-format c.args.format c.args.time c.requires.2 c.requires.0 c.requires.1).last

pub returns : goal.returns
unfolding following turn_day
returns c = rw (← c.frame_interval.ensures.0, ← c.day_end.ensures, eq-eqb _ _ c.if-hundredths-day_end.false, ← c.year_of_day_after.ensures c.args.format c.carries_year.ensures, ← c.is_x.ensures, ← c.turn_day.ensures, ← c.day_after.ensures)
