-- `with_reading` meets its contract.
use mathlib.Core.Path.{◌∙◌}
use Rattle.stream.proofs.Feeding.{with-row-reading}
use Rattle.stream.proofs.with_reading.Goals as goal

pub returns : goal.returns
returns c = rw (c.row_with_frame-row.ensures, c.row_in.ensures) at c.with_row.ensures ∙ with-row-reading _ _
