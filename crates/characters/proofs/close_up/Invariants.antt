use Rattle.characters.specs.Decoding.{ClosedTo}
use Rattle.characters.proofs.close_up.Given as goal

abbrev pub invariant-loop-i : goal.invariant-loop-i
invariant-loop-i l = ClosedTo l.initial.symbols l.i l.count l.symbols
