use Rattle.calendar.specs.Dates.{month_lengths}
use Rattle.months.specs.Counting.{Summed}
use Rattle.months.proofs.day_in.Given as goal

abbrev pub invariant-loop-length : goal.invariant-loop-length
invariant-loop-length l = Summed (month_lengths l.year) l.months l.day l.total l.length-index
