use Rattle.simulation.specs.Lent.{ends_fit}
use lib.ListN.{drop}
use mathlib.Core.Path.{◌≡◌}
use Rattle.listeners.proofs.ends_fit.Given as goal

abbrev pub invariant-loop-end : goal.invariant-loop-end
invariant-loop-end l = (ends_fit 0 l.ends l.total ≡ ends_fit l.from (drop l.end-index l.ends) l.total)
