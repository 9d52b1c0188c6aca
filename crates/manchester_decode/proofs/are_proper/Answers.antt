-- `are_proper` meets its contract: what is left decides.
use Rattle.std.proofs.Common.{sym, ◌∙◌, arith}
use Rattle.manchester_decode.specs.Decoding.{proper-on, proper-end}
use Rattle.manchester_decode.proofs.are_proper.Goals as goal

pub loop-cycle-preserved : goal.loop-cycle-preserved
loop-cycle-preserved c = rw c.is_proper-proper.ensures (c.loop-cycle.invariant ∙ proper-on c.args.cycles.now c.loop-cycle.cycle-index c.loop-cycle.proper c.loop-cycle-test.true)

pub returns : goal.returns
returns c = sym (c.loop-cycle.invariant ∙ proper-end c.args.cycles.now c.loop-cycle.cycle-index c.loop-cycle.proper (omega arith))
