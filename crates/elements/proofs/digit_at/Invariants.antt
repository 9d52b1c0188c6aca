use mathlib.Core.Path.{◌≡◌}
use Prim.Native.Nat.{◌+◌, ◌*◌, ◌-◌, ◌^◌, ◌≤◌}
use lib.ListN.{get_or}
use Rattle.timecode.specs.Layout.{value}
use Rattle.elements.proofs.digit_at.Given as goal

abbrev pub invariant-loop-k : goal.invariant-loop-k
invariant-loop-k l = (l.k ≤ l.width) × (l.digit ≡ value (l.width - l.k) (λ b. get_or l.frame (l.start + (l.k + b)) 0)) × (l.digit + 255 ≤ 255 * 2 ^ (l.width - l.k))
