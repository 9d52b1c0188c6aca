-- `count_answer` meets its contract.
use Rattle.listening.specs.Counted.{count_answer}
use borrow.Author.Tests.{eq-eqb, ne_eqb}
use Rattle.listening.proofs.count_answer.Goals as goal

pub returns-then-number-end : goal.returns-then-number-end
unfolding count_answer
returns-then-number-end c = rw (c.in-Report.is, eq-eqb _ _ c.if-number-end.true, ← c.same_time.ensures) c.with_report.ensures

pub returns-in-Quiet : goal.returns-in-Quiet
unfolding count_answer
returns-in-Quiet c = rw c.in-Quiet.is

pub returns-else-number-end : goal.returns-else-number-end
unfolding count_answer
returns-else-number-end c = rw (c.in-Report.is, ne_eqb _ _ c.if-number-end.false) c.with_report-in-Report.ensures

pub returns-in-Refused : goal.returns-in-Refused
unfolding count_answer
returns-in-Refused c = rw c.in-Refused.is
