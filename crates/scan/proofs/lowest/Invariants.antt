use mathlib.Core.Path.{◌≡◌}
use Prim.Native.Nat.{◌+◌, ◌-◌, ◌≤◌}
use Rattle.scan.specs.Places.{lowest_from}
use Rattle.scan.proofs.lowest.Given as goal

abbrev pub invariant-loop-place : goal.invariant-loop-place
invariant-loop-place l = (l.marks ≤ l.place) × (lowest_from l.format l.recording l.first ≡ lowest_from l.format l.recording l.place)

abbrev pub decreases-loop-place : goal.decreases-loop-place
decreases-loop-place l = l.last + 1 - l.place
