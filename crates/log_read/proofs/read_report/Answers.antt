-- `read_report` meets its contract: 12, none at the end, then the record.
use Rattle.log_read.specs.Parsing.{read_past, read-end, read-inside}
use Rattle.log_read.proofs.read_report.Goals as goal

pub returns-then-log-at : goal.returns-then-log-at
returns-then-log-at c = read_past _ _ _ c.if-log-at.true

pub returns-then-at-log : goal.returns-then-at-log
returns-then-at-log c = read-end _ _ _ c.if-at-log.true

pub returns : goal.returns
returns c = read-inside c.args.log.now _ _ _ c.if-log-at.false c.if-at-log.false c.read_record.ensures
