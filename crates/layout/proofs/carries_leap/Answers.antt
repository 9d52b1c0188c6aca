-- `carries_leap` meets its contract: the letter's own figure, whatever the expression.
use mathlib.Core.Path.{refl, sym}
use Rattle.timecode.specs.Formats.{carries_leap, carries_year}
use Rattle.layout.proofs.carries_leap.Goals as goal

pub returns : goal.returns
unfolding carries_leap carries_year
returns c = sym (c.row_in.ensures 0 refl).leap_is
