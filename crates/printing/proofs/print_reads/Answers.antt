use Rattle.std.proofs.Common.{[], ap}
use Rattle.progress.specs.declared.Progress.{Progress}
use Rattle.printing.specs.Printing.{reads_nothing, reads_more}
use Rattle.printing.proofs.print_reads.Goals as goal

pub loop-init : goal.loop-init
loop-init g c = (([], reads_nothing _), ap (λ (p : Progress). p.ended) c.start-progress.ensures)

pub loop-preserved : goal.loop-preserved
loop-preserved g c = (reads_more _ _ c.loop.invariant.1 _ c.loop.invariant.0 c.in-Continue.ensures.0, c.in-Continue.ensures.1)

pub returns-in-Break : goal.returns-in-Break
returns-in-Break g c = rw c.start-progress.ensures at (reads_more _ _ c.loop.invariant.1 _ c.loop.invariant.0 c.in-Break.ensures)
