use Rattle.simulate.specs.Hearing.{CountsOf}
use Prim.Native.Nat.{◌≤◌}
use Rattle.simulate.proofs.counts_of.Given as goal

abbrev pub invariant-loop-j : goal.invariant-loop-j
invariant-loop-j l = (l.j ≤ l.count) × CountsOf l.listeners l.j l.counts
