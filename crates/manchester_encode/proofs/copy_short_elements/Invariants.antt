use Rattle.std.proofs.Common.{◌≡◌, ◌*◌, length, take}
use Rattle.cycles.specs.Cycles.{cycles_of}
use Rattle.manchester_encode.proofs.copy_short_elements.Given as goal

abbrev pub invariant-loop-i : goal.invariant-loop-i
invariant-loop-i l = record { long : length l.cycles ≡ length l.initial.cycles; put : take (l.i * 10) l.cycles ≡ cycles_of 10 (take l.i l.frame) }
