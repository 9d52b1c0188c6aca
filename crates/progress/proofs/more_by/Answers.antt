-- `more_by` meets its contract: the count and so many more, or the end of its 64 bits.
use Rattle.std.proofs.Common.{arith}
use Rattle.progress.specs.Steps.{more_is}
use Rattle.progress.proofs.more_by.Goals as goal

pub returns : goal.returns
returns c = more_is _ _ _ (omega arith) c.saturating_add.ensures
