-- `reports_in` meets its contract: those of a fresh reader.
use Rattle.report_counts.specs.Reports.{reports_in}
use Rattle.report_counts.proofs.reports_in.Goals as goal

pub returns-in-Ok : goal.returns-in-Ok
unfolding reports_in
returns-in-Ok c = rw (← c.in-Ok.ensures, ← c.count_reports.ensures)

pub returns-in-Err : goal.returns-in-Err
unfolding reports_in
returns-in-Err c = rw (← c.in-Err.ensures)
