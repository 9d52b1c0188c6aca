-- `pulse_line` meets its contract: the numbers stand where the definition has them.
use borrow.Author.Tests.{eq-eqb, ne_eqb}
use Rattle.pulse_lines.specs.PulseLines.{width_start, width_end, period_start, period_end, pulse_line_of}
use Rattle.pulse_lines.proofs.pulse_line.Goals as goal

pub returns-then-width-line : goal.returns-then-width-line
unfolding pulse_line_of width_start
returns-then-width-line c = rw (← c.blanks_end-width.ensures.0, eq-eqb _ _ c.if-width-line.true)

pub returns-then-blanks_end-line : goal.returns-then-blanks_end-line
unfolding pulse_line_of width_start width_end period_start period_end
returns-then-blanks_end-line c = rw (← c.blanks_end-width.ensures.0, ne_eqb _ _ c.if-width-line.false, ← c.digits_end-width_end.ensures.0, ← c.separator_end-period.ensures.0, ← c.digits_end-period_end.ensures.0, ← c.blanks_end.ensures.0, eq-eqb _ _ c.if-blanks_end-line.true, ← c.decimal_in.ensures, ← c.decimal_in-then-blanks_end-line.ensures, ← c.pulse_with.ensures)

pub returns-else-blanks_end-line : goal.returns-else-blanks_end-line
unfolding pulse_line_of width_start width_end period_start period_end
returns-else-blanks_end-line c = rw (← c.blanks_end-width.ensures.0, ne_eqb _ _ c.if-width-line.false, ← c.digits_end-width_end.ensures.0, ← c.separator_end-period.ensures.0, ← c.digits_end-period_end.ensures.0, ← c.blanks_end.ensures.0, ne_eqb _ _ c.if-blanks_end-line.false)
