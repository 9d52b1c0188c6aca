-- `count_reports` meets its contract: what was counted and what the rest brings is the whole.
use native.Mathlib.Omega.{arith}
use Rattle.report_counts.specs.Reports.{directed}
use Rattle.report_counts.proofs.Counting.{count-fed, count-end, length-directed}
use Rattle.report_counts.proofs.count_reports.Goals as goal

pub loop-i-preserved : goal.loop-i-preserved
loop-i-preserved c = (omega arith, omega (arith, c.is_report-count.ensures.1), count-fed (directed c.args.backwards c.args.recording.now) c.loop-i.i _ c.loop-i.count c.loop-i.current (omega (arith, length-directed c.args.backwards c.args.recording.now)) c.loop-i.invariant.2 _ c.symbol_at-symbol.ensures _ c.answer_to.ensures _ c.next_reader-next.ensures _ c.is_report-count.ensures.0)

pub returns : goal.returns
returns c = count-end (directed c.args.backwards c.args.recording.now) c.loop-i.i _ _ _ (omega (arith, length-directed c.args.backwards c.args.recording.now)) c.loop-i.invariant.2
