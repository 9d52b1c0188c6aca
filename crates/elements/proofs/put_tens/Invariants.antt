use mathlib.Core.Path.{◌≡◌}
use Rattle.elements.specs.Tens.{tens}
use Rattle.elements.proofs.put_tens.Given as goal

abbrev pub invariant-loop-k : goal.invariant-loop-k
invariant-loop-k l = l.frame ≡ tens l.initial.frame l.from l.k l.bits
