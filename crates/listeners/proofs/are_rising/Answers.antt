-- `are_rising` meets its contract.
use Rattle.listeners.specs.Indexes.{index_on, index-out, index-end}
use mathlib.Core.Path.{sym, ◌∙◌}
use native.Mathlib.Omega.{arith}
use Rattle.listeners.proofs.are_rising.Goals as goal

pub loop-i-preserved : goal.loop-i-preserved
loop-i-preserved c = (index_on _ _ _ c.loop-i-test.true c.loop-i.invariant (sym c.rises_at.ensures ∙ c.if-not-rises_at.false))

pub returns-then-not-rises_at : goal.returns-then-not-rises_at
returns-then-not-rises_at c = sym (index-out _ _ _ c.loop-i-test.true c.loop-i.invariant (sym c.rises_at.ensures ∙ c.if-not-rises_at.true))

pub returns : goal.returns
returns c = sym (c.loop-i.invariant ∙ index-end _ _ _ (omega (arith, c.loop-i-test.false)))
