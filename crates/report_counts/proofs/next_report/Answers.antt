-- `next_report` meets its contract: the rest of the Feeds decides.
use native.Mathlib.Omega.{arith}
use mathlib.Core.Path.{sym, ◌∙◌}
use Rattle.report_counts.proofs.Counting.{report-turn, report-here, report-end}
use Rattle.report_counts.proofs.next_report.Goals as goal

pub returns-then-is_some : goal.returns-then-is_some
returns-then-is_some c = report-here c.args.recording.now c.loop-i.i c.loop-i-test.true _ _ c.answer_to.ensures _ c.next_reader-next.ensures _ c.reported_at-reported.ensures (sym c.is_some.ensures ∙ c.if-is_some.true) ∙ sym c.loop-i.invariant

pub loop-i-preserved : goal.loop-i-preserved
loop-i-preserved c = c.loop-i.invariant ∙ report-turn c.args.recording.now c.loop-i.i c.loop-i-test.true _ _ c.answer_to.ensures _ c.next_reader-next.ensures _ c.reported_at-reported.ensures (sym c.is_some.ensures ∙ c.if-is_some.false)

pub returns : goal.returns
returns c = sym (c.loop-i.invariant ∙ report-end c.args.recording.now c.loop-i.i _ (omega arith))
