-- `print_read` meets its contract: whatever the read gives, the progress is that after some bytes, or stopped.
use Rattle.printing.specs.Printing.{after_read}
use Rattle.printing.proofs.print_read.Goals as goal

pub returns : goal.returns
returns g c = after_read _ _ _ _ c.print_result.ensures
