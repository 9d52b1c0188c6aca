use mathlib.Core.Path.{◌≡◌}
use Prim.Native.Nat.{◌+◌, ◌*◌, ◌-◌, ◌≤◌}
use lib.ListN.{length, take}
use Rattle.hearing.specs.Hearing.{HeardTo}
use Rattle.hearing.proofs.hear_symbols.Given as goal

abbrev pub invariant-loop-taken : goal.invariant-loop-taken
invariant-loop-taken l = HeardTo l.initial.current l.symbols (take l.at l.initial.out) l.taken l.current (take l.filled l.out) × (l.filled ≤ l.at + 64 * l.taken) × (length l.out ≡ 65536)

abbrev pub decreases-loop-taken : goal.decreases-loop-taken
decreases-loop-taken l = length l.symbols - l.taken
