-- `counts_line` meets its contract: its texts, one behind another.
use native.Mathlib.Omega.{arith}
use Rattle.std.proofs.Common.{rules}
use mathlib.Core.List.{[], ◌∷◌}
use Rattle.lines.specs.Filling.{onto-together}
use Rattle.lines.specs.Text.{decimal, counts_line}
use Rattle.lines.proofs.counts_line.Goals as goal

pub returns : goal.returns
unfolding counts_line
returns c =
    (omega (arith, c.put_text.ensures.0, c.put_decimal.ensures.0, c.put_text-2.ensures.0, c.put_decimal-2.ensures.0, c.put.ensures.0, c.new-text.ensures), search rules, rw (c.put.ensures.1, c.put_decimal-2.ensures.1, c.put_text-2.ensures.1, c.put_decimal.ensures.1, c.put_text.ensures.1, c.new-text.ensures) (onto-together [] ((101 ∷ 108 ∷ 101 ∷ 109 ∷ 101 ∷ 110 ∷ 116 ∷ 115 ∷ 32 ∷ []) ∷ decimal c.args.elements ∷ (32 ∷ 114 ∷ 101 ∷ 112 ∷ 111 ∷ 114 ∷ 116 ∷ 115 ∷ 32 ∷ []) ∷ decimal c.args.reports ∷ (10 ∷ []) ∷ [])))
