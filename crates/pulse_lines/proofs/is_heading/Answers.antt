-- `is_heading` meets its contract: its first character that is no blank decides.
use borrow.Author.Tests.{lt-ltb, le-ltb}
use Rattle.pulse_lines.specs.PulseLines.{is_heading, width_start}
use Rattle.pulse_lines.proofs.is_heading.Goals as goal

pub returns-then-first-line : goal.returns-then-first-line
unfolding is_heading width_start
returns-then-first-line c = rw (← c.blanks_end-first.ensures.0, lt-ltb _ _ c.if-first-line.true, ← c.opens_heading.ensures)

pub returns-else-first-line : goal.returns-else-first-line
unfolding is_heading width_start
returns-else-first-line c = rw (← c.blanks_end-first.ensures.0, le-ltb _ _ c.if-first-line.false)
