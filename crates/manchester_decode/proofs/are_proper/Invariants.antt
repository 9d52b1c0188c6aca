use Rattle.std.proofs.Common.{◌≡◌, ◌&&◌, drop}
use Rattle.cycles.specs.Elements.{all_proper}
use Rattle.manchester_decode.proofs.are_proper.Given as goal

abbrev pub invariant-loop-cycle : goal.invariant-loop-cycle
invariant-loop-cycle l = all_proper l.cycles ≡ (l.proper && all_proper (drop l.cycle-index l.cycles))
