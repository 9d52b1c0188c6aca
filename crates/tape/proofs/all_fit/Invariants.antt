use mathlib.Core.Path.{◌≡◌}
use Rattle.tape.specs.Offences.{all_fit}
use Rattle.tape.proofs.all_fit.Given as goal

abbrev pub invariant-loop-index : goal.invariant-loop-index
invariant-loop-index l = l.all ≡ all_fit l.frame l.index
