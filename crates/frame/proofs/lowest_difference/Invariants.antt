use mathlib.Core.Path.{◌≡◌}
use Prim.Native.Nat.{◌-◌, ◌≤◌, ◌<◌}
use lib.ListN.{drop}
use Rattle.frame.specs.Offences.{lowest_from, lowest_of, lowest_or}
use Rattle.frame.proofs.lowest_difference.Given as goal

abbrev pub invariant-loop-index : goal.invariant-loop-index
invariant-loop-index l = (lowest_of l.again l.frame ≡ lowest_or l.lowest (lowest_from l.index (drop l.index l.again) (drop l.index l.frame))) × (l.lowest < 255 → l.lowest < l.index) × (l.lowest ≤ 255)
