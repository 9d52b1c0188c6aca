-- `report_line` meets its contract: its texts, one behind another.
use native.Mathlib.Omega.{arith}
use Rattle.std.proofs.Common.{rules}
use mathlib.Core.List.{[], ◌∷◌}
use Rattle.lines.specs.Filling.{onto-together}
use Rattle.lines.specs.Text.{digits_of, decimal, clock_of, report_line}
use Rattle.lines.proofs.report_line.Goals as goal

pub returns : goal.returns
unfolding report_line
returns c =
    (omega (arith, c.put_decimal.ensures.0, c.put.ensures.0, c.put_numeral.ensures.0, c.put-2.ensures.0, c.put_clock.ensures.0, c.put_numeral-2.ensures.0, c.put-3.ensures.0, c.new-text.ensures), search rules, rw (c.put-3.ensures.1, c.put_numeral-2.ensures.1, c.put_clock.ensures.1, c.put-2.ensures.1, c.put_numeral.ensures.1, c.put.ensures.1, c.put_decimal.ensures.1, c.new-text.ensures) (onto-together [] (decimal c.args.element ∷ (32 ∷ []) ∷ digits_of 10 3 c.args.time.day ∷ (32 ∷ []) ∷ clock_of c.args.time.hundredths ∷ digits_of 16 12 c.args.control ∷ (10 ∷ []) ∷ [])))
