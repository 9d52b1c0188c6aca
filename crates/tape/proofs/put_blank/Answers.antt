-- One element more is put.
use Rattle.std.proofs.Common.{arith}
use Rattle.timecode.proofs.Laws.Runs.{fill_step}
use Rattle.tape.specs.Tape.{blank_at}
use Rattle.tape.proofs.put_blank.Goals as goal

pub loop-i-preserved : goal.loop-i-preserved
loop-i-preserved c = rw c.blank_at.ensures (fill_step c.loop-i.frame blank_at c.loop-i.i (omega arith) c.loop-i.invariant)
