use Rattle.months.specs.Counting.{Passed}
use Rattle.months.proofs.place_in.Given as goal

abbrev pub invariant-loop-months : goal.invariant-loop-months
invariant-loop-months l = Passed l.length-items l.day l.months l.rest
