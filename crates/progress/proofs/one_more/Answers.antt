-- `one_more` meets its contract.
use Rattle.std.proofs.Common.{arith}
use Rattle.progress.specs.Steps.{one_more_is}
use Rattle.progress.proofs.one_more.Goals as goal

pub returns : goal.returns
returns c = one_more_is _ _ (omega arith) c.saturating_add.ensures
