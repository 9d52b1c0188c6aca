-- `print_reads` meets its contract: each read goes on from the progress after those before.
use Rattle.std.proofs.Common.{◌≡◌, false}
use Rattle.printing.specs.Printing.{ReadsAll}
use Rattle.printing.proofs.print_reads.Given as goal

abbrev pub invariant-loop : goal.invariant-loop
invariant-loop g l = ReadsAll l.initial.progress l.progress × (l.progress.ended ≡ false)
