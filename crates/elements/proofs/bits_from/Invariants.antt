use mathlib.Core.Path.{◌≡◌}
use Prim.Native.Nat.{◌*◌, ◌-◌, ◌≤◌}
use Rattle.elements.specs.RunBits.{packed_runs}
use Rattle.elements.proofs.bits_from.Given as goal

abbrev pub invariant-loop-j : goal.invariant-loop-j
invariant-loop-j l = (l.first ≤ l.j) × (l.j ≤ l.last) × (l.bits ≡ packed_runs l.from l.digits l.j (l.last - l.j)) × (l.bits ≤ (l.last - l.j) * 576460752303423488)
