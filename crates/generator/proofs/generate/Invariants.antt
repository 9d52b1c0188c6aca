use mathlib.Core.Path.{◌≡◌}
use Prim.Native.Nat.{◌≤◌}
use Rattle.generator.specs.Lines.{PutSoFar}
use Rattle.generator.proofs.generate.Given as goal

abbrev pub invariant-loop-left : goal.invariant-loop-left
invariant-loop-left l = (l.left ≤ l.frames) × (l.filled ≤ 65536) × PutSoFar l.format l.initial.next l.control l.given l.frames l.left l.next l.filled l.out × (l.left ≡ l.frames → l.filled ≡ 0)

abbrev pub decreases-loop-left : goal.decreases-loop-left
decreases-loop-left l = l.left
