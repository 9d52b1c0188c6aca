use Rattle.receive_many.specs.ManySymbols.{slice, join_all}
use Prim.Native.Nat.{◌+◌, ◌-◌, ◌≤◌}
use mathlib.Core.Path.{◌≡◌}
use Rattle.receive_many.proofs.receive_inside.Given as goal

abbrev pub invariant-loop-i : goal.invariant-loop-i
invariant-loop-i l = (l.from ≤ l.i) × (l.i ≤ l.to) × (l.current.count + (l.to - l.i) ≤ 100) × (join_all l.initial.current (slice l.symbols l.from l.to) ≡ join_all l.current (slice l.symbols l.i l.to))

abbrev pub decreases-loop-i : goal.decreases-loop-i
decreases-loop-i l = l.to - l.i
