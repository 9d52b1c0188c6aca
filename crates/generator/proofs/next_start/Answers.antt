-- `next_start` meets its contract.
use Rattle.generator.specs.Sending.{next_start}
use Rattle.generator.proofs.next_start.Goals as goal

pub returns-in-Ok : goal.returns-in-Ok
unfolding next_start
returns-in-Ok c = rw (← c.in-Ok.ensures, c.kind_after.ensures)

pub returns-in-Err : goal.returns-in-Err
unfolding next_start
returns-in-Err c = rw (← c.in-Err.ensures)
