-- `separator_end` meets its contract: blanks, a comma, blanks.
use native.Mathlib.Omega.{arith}
use mathlib.Core.Path.{◌∙◌}
use Rattle.pulse_lines.specs.PulseLines.{separator_end}
use Rattle.pulse_lines.proofs.separator_end.Goals as goal

pub returns : goal.returns
unfolding separator_end
returns c = (c.blanks_end.ensures.0 ∙ rw (c.comma_end-behind.ensures.0, c.blanks_end-comma.ensures.0), omega (arith, c.blanks_end.ensures.1, c.comma_end-behind.ensures.1, c.blanks_end-comma.ensures.1), c.blanks_end.ensures.2)
