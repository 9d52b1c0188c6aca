use Rattle.std.proofs.Common.{◌*◌}
use Rattle.manchester_encode.specs.Encoding.{Copied}
use Rattle.manchester_encode.proofs.copy_blocks.Given as goal

abbrev pub invariant-loop-i : goal.invariant-loop-i
invariant-loop-i g l = Copied l.levels l.from l.initial.cycles l.cycles l.at (16 * l.i)
