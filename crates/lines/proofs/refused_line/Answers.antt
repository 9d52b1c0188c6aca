-- `refused_line` meets its contract: its texts, one behind another.
use native.Mathlib.Omega.{arith}
use Rattle.std.proofs.Common.{rules}
use mathlib.Core.List.{[], ◌∷◌}
use Rattle.lines.specs.Filling.{onto-together}
use Rattle.lines.specs.Text.{decimal, refused_line}
use Rattle.lines.proofs.refused_line.Goals as goal

pub returns : goal.returns
unfolding refused_line
returns c =
    (omega (arith, c.put_text.ensures.0, c.put_decimal.ensures.0, c.put.ensures.0, c.new-text.ensures), search rules, rw (c.put.ensures.1, c.put_decimal.ensures.1, c.put_text.ensures.1, c.new-text.ensures) (onto-together [] ((114 ∷ 101 ∷ 102 ∷ 117 ∷ 115 ∷ 101 ∷ 100 ∷ 32 ∷ []) ∷ decimal c.args.number ∷ (10 ∷ []) ∷ [])))
