use mathlib.Core.Path.{◌≡◌}
use lib.ListN.{drop}
use Rattle.report_counts.specs.Reports.{first_report}
use Rattle.report_counts.proofs.next_report.Given as goal

abbrev pub invariant-loop-i : goal.invariant-loop-i
invariant-loop-i l = first_report l.initial.current l.from (drop l.from l.recording) ≡ first_report l.current l.i (drop l.i l.recording)
