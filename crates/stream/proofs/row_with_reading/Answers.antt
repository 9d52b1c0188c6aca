-- `row_with_reading` meets its contract.
use Rattle.stream.specs.Feeding.{row_with}
use Rattle.stream.proofs.row_with_reading.Goals as goal

pub returns-in-Ok : goal.returns-in-Ok
unfolding row_with
returns-in-Ok c = rw (c.in-Ok.is, ← c.row_after-count.ensures) c.frame_row.ensures

pub returns-in-Err : goal.returns-in-Err
unfolding row_with
returns-in-Err c = rw c.in-Err.is c.frame_row-in-Err.ensures
