use mathlib.Core.Path.{◌≡◌}
use Rattle.elements.specs.Stores.{bits_stored}
use Rattle.elements.proofs.put_ten.Given as goal

abbrev pub invariant-loop-j : goal.invariant-loop-j
invariant-loop-j l = l.frame ≡ bits_stored l.initial.frame l.at l.j l.x
