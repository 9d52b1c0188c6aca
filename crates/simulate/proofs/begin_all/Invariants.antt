use Rattle.simulate.specs.Hearing.{AllBegin}
use Rattle.simulation.specs.Lent.{start_of}
use mathlib.Core.Path.{◌≡◌}
use Rattle.simulate.proofs.begin_all.Given as goal

abbrev pub invariant-loop-j : goal.invariant-loop-j
invariant-loop-j l = (l.from ≡ start_of l.ends l.j) × AllBegin l.reader l.settings l.ends l.j l.all
