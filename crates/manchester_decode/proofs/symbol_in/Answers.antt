-- `symbol_in` meets its contract: by the high cycles that it begins with.
use mathlib.Core.Path.{sym, ◌∙◌}
use borrow.Author.Tests.{eq-eqb, ne_eqb}
use Rattle.cycles.proofs.Elements.{symbol-run, symbol-other}
use Rattle.manchester_decode.specs.Decoding.{low-tail}
use Rattle.manchester_decode.proofs.symbol_in.Goals as goal

pub returns-then-highs-count : goal.returns-then-highs-count
returns-then-highs-count c = sym (symbol-run c.args.count c.args.cycles.now c.requires.1 (low-tail _ _ _ _ c.leading_highs-highs.ensures.0 c.are_low.ensures c.if-not-are_low.false) ∙ rw (← c.leading_highs-highs.ensures.0, eq-eqb _ _ c.if-highs-count.true))

pub returns-then-highs-count-2 : goal.returns-then-highs-count-2
returns-then-highs-count-2 c = sym (symbol-run c.args.count c.args.cycles.now c.requires.1 (low-tail _ _ _ _ c.leading_highs-highs.ensures.0 c.are_low.ensures c.if-not-are_low.false) ∙ rw (← c.leading_highs-highs.ensures.0, ne_eqb _ _ c.if-highs-count.false, eq-eqb _ _ c.if-highs-count-2.true))

pub returns-then-highs-count-3 : goal.returns-then-highs-count-3
returns-then-highs-count-3 c = sym (symbol-run c.args.count c.args.cycles.now c.requires.1 (low-tail _ _ _ _ c.leading_highs-highs.ensures.0 c.are_low.ensures c.if-not-are_low.false) ∙ rw (← c.leading_highs-highs.ensures.0, ne_eqb _ _ c.if-highs-count.false, ne_eqb _ _ c.if-highs-count-2.false, eq-eqb _ _ c.if-highs-count-3.true))

pub returns-else-highs-count-3 : goal.returns-else-highs-count-3
returns-else-highs-count-3 c = sym (symbol-run c.args.count c.args.cycles.now c.requires.1 (low-tail _ _ _ _ c.leading_highs-highs.ensures.0 c.are_low.ensures c.if-not-are_low.false) ∙ rw (← c.leading_highs-highs.ensures.0, ne_eqb _ _ c.if-highs-count.false, ne_eqb _ _ c.if-highs-count-2.false, ne_eqb _ _ c.if-highs-count-3.false))

pub returns-then-not-are_low : goal.returns-then-not-are_low
returns-then-not-are_low c = sym (symbol-other c.args.count c.args.cycles.now c.requires.1 (low-tail _ _ _ _ c.leading_highs-highs.ensures.0 c.are_low.ensures c.if-not-are_low.true))
