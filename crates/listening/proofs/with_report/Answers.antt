-- `with_report` meets its contract.
use Rattle.listening.specs.Counted.{with_report}
use Rattle.listening.proofs.with_report.Goals as goal

pub returns : goal.returns
unfolding with_report
returns c = rw (← c.first_after.ensures, ← c.wrong_after.ensures)
