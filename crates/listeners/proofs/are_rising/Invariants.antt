use Rattle.listeners.specs.Indexes.{every_index, rises_at}
use Prim.Native.Nat.{◌-◌}
use mathlib.Core.Path.{◌≡◌}
use Rattle.listeners.proofs.are_rising.Given as goal

abbrev pub invariant-loop-i : goal.invariant-loop-i
invariant-loop-i l = (every_index (rises_at l.numbers l.to) (l.to - l.from) l.from ≡ every_index (rises_at l.numbers l.to) (l.to - l.i) l.i)
