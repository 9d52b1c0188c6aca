-- `are_low` meets its contract, cycle by cycle.
use Rattle.std.proofs.Common.{arith}
use Rattle.manchester_decode.specs.Decoding.{low-all, low-not}
use Rattle.manchester_decode.proofs.are_low.Goals as goal

pub returns-then-cycle-ne-LOW : goal.returns-then-cycle-ne-LOW
returns-then-cycle-ne-LOW c = low-not c.args.cycles.now _ (omega arith) c.if-cycle-ne-LOW.true

pub returns : goal.returns
returns c = low-all c.args.cycles.now (λ k h. c.loop-cycle.invariant k (omega arith))
