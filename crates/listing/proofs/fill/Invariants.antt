use mathlib.Core.Path.{◌≡◌}
use Prim.Native.Nat.{◌-◌, ◌≤◌}
use lib.ListN.{length}
use Rattle.listing.specs.Parts.{ListedTo}
use Rattle.listing.proofs.fill.Given as goal

abbrev pub invariant-loop-taken : goal.invariant-loop-taken
invariant-loop-taken l = (l.taken ≤ length l.bytes) × (l.filled ≤ 65536) × (length l.out ≡ 65536) × ListedTo l.initial.current l.current l.bytes l.out l.taken l.filled × (l.taken ≡ 0 → l.filled ≡ 0)

abbrev pub decreases-loop-taken : goal.decreases-loop-taken
decreases-loop-taken l = length l.bytes - l.taken
