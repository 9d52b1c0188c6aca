use Rattle.openings.specs.Openings.{CloseOpenings}
use Prim.Native.Nat.{◌-◌, ◌≤◌, ◌<◌}
use Rattle.openings.proofs.last_opening.Given as goal

abbrev pub invariant-loop-last : goal.invariant-loop-last
invariant-loop-last l = (l.from ≤ l.last) × (l.last < l.to) × CloseOpenings l.format l.n l.symbols l.from l.last

abbrev pub decreases-loop-last : goal.decreases-loop-last
decreases-loop-last l = l.to - l.last
