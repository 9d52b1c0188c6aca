-- `put_number` meets its contract: the rest of the number is still to be put.
use native.Mathlib.Omega.{arith}
use Rattle.log_write.specs.Parts.{put-turn, put-end}
use Rattle.log_write.proofs.put_number.Goals as goal

pub loop-i-preserved : goal.loop-i-preserved
loop-i-preserved c = put-turn _ _ _ _ _ _ _ c.loop-i-test.true c.loop-i.invariant

pub returns : goal.returns
returns c = put-end _ _ _ _ _ _ _ (omega arith) c.loop-i.invariant
