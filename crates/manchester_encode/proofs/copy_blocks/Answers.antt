-- `copy_blocks` meets its contract: the blocks below i are copied.
use native.Mathlib.Omega.{arith}
use mathlib.Core.Path.{◌≡◌}
use Prim.Native.Nat.{◌+◌, ◌*◌}
use Rattle.manchester_encode.specs.Encoding.{block-copied}
use Rattle.manchester_encode.proofs.copy_blocks.Goals as goal

pub loop-i-preserved : goal.loop-i-preserved
loop-i-preserved g c =
    let given = c.args in
    let l = c.loop-i in
    let more : 16 * l.i + 16 ≡ 16 * (l.i + 1) = omega arith in
    rw more at (block-copied given.levels.now given.from given.cycles.now l.cycles _ given.at (16 * l.i) 16 l.invariant c.copy_block.ensures)
