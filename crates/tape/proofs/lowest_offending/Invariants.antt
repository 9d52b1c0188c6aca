use Rattle.tape.specs.Offences.{LowestBelow}
use Rattle.tape.proofs.lowest_offending.Given as goal

abbrev pub invariant-loop-index : goal.invariant-loop-index
invariant-loop-index l = LowestBelow l.frame l.index l.lowest
