-- `ends_fit` meets its contract.
use Rattle.listeners.specs.Indexes.{ends_on, ends-out, ends-end}
use mathlib.Core.Path.{sym}
use Rattle.listeners.proofs.ends_fit.Goals as goal

pub returns-then-end-from : goal.returns-then-end-from
returns-then-end-from c = sym (ends-out _ _ _ _ c.loop-end-test.true c.loop-end.invariant c.if-end-from.true)

pub loop-end-preserved : goal.loop-end-preserved
loop-end-preserved c = (ends_on _ _ _ _ c.loop-end-test.true c.loop-end.invariant c.if-end-from.false)

pub returns : goal.returns
returns c = sym (ends-end _ _ _ _ c.loop-end-test.false c.loop-end.invariant)
