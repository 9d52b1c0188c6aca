-- `listeners_fit` meets its contract.
use Rattle.listeners.specs.Indexes.{index_on, index-out, index-end, end-within, starts-before}
use native.Mathlib.Numerals.{add-one}
use mathlib.Core.Path.{refl, sym, ◌∙◌}
use native.Mathlib.Omega.{arith}
use Rattle.listeners.proofs.listeners_fit.Goals as goal

pub damages_fit-requires : goal.damages_fit-requires
damages_fit-requires c = (rw c.loop-end.invariant.0 (starts-before _ _ c.requires.1 _ c.loop-end-test.true), end-within _ _ _ c.requires.1 _ c.loop-end-test.true, c.requires.0)

pub loop-end-preserved : goal.loop-end-preserved
loop-end-preserved c = (rw (add-one _) refl, index_on _ _ _ c.loop-end-test.true c.loop-end.invariant.1 (rw (← c.loop-end.invariant.0) (sym c.damages_fit.ensures ∙ c.if-not-damages_fit.false)))

pub returns-then-not-damages_fit : goal.returns-then-not-damages_fit
returns-then-not-damages_fit c = sym (index-out _ _ _ c.loop-end-test.true c.loop-end.invariant.1 (rw (← c.loop-end.invariant.0) (sym c.damages_fit.ensures ∙ c.if-not-damages_fit.true)))

pub returns : goal.returns
returns c = sym (c.loop-end.invariant.1 ∙ index-end _ _ _ (omega (arith, c.loop-end-test.false)))
