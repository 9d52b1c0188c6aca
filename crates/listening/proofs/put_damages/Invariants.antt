use Rattle.listening.specs.FrameDamages.{PutUpTo}
use Rattle.listening.proofs.put_damages.Given as goal

abbrev pub invariant-loop-at : goal.invariant-loop-at
invariant-loop-at l = PutUpTo l.past l.n l.numbers l.symbols l.from l.to l.initial.frame l.at l.frame
