use mathlib.Core.Path.{◌≡◌}
use Prim.Native.Nat.{◌+◌, ◌≤◌}
use lib.ListN.{length, drop}
use Rattle.report_counts.specs.Reports.{directed, reports_of}
use Rattle.report_counts.proofs.count_reports.Given as goal

abbrev pub invariant-loop-i : goal.invariant-loop-i
invariant-loop-i l = (l.i ≤ length l.recording) × (l.count ≤ l.i) × (reports_of l.initial.current (directed l.backwards l.recording) ≡ l.count + reports_of l.current (drop l.i (directed l.backwards l.recording)))
