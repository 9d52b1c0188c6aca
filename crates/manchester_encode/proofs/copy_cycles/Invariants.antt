use Rattle.manchester_encode.specs.Encoding.{Copied}
use Rattle.manchester_encode.proofs.copy_cycles.Given as goal

abbrev pub invariant-loop-i : goal.invariant-loop-i
invariant-loop-i l = Copied l.levels l.from l.initial.cycles l.cycles l.at l.i
