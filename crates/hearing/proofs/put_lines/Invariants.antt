use mathlib.Core.Path.{◌≡◌}
use mathlib.Core.List.{◌++◌}
use Prim.Native.Nat.{◌+◌, ◌*◌, ◌≤◌}
use lib.ListN.{length, take}
use Rattle.block.specs.Blocks.{lists}
use Rattle.hearing.specs.Hearing.{first_lines}
use Rattle.hearing.proofs.put_lines.Given as goal

abbrev pub invariant-loop-k : goal.invariant-loop-k
invariant-loop-k l =
    (take l.filled l.out ≡ take l.start l.initial.out ++ first_lines l.elements (lists l.indexes l.years l.days l.hundredths l.controls) l.k) × (l.filled ≤ l.start + 64 * l.k) × (length l.out ≡ 65536)
