-- `have_symbols` meets its contract.
use Rattle.listeners.specs.Indexes.{index_on, index-out, index-end}
use borrow.Author.Tests.{le-leb, lt-leb}
use mathlib.Core.Path.{sym, ◌∙◌}
use native.Mathlib.Omega.{arith}
use Rattle.listeners.proofs.have_symbols.Goals as goal

pub returns-then-symbols-i-gt-SPOILED : goal.returns-then-symbols-i-gt-SPOILED
returns-then-symbols-i-gt-SPOILED c = sym (index-out _ _ _ c.loop-i-test.true c.loop-i.invariant (lt-leb _ _ c.if-symbols-i-gt-SPOILED.true))

pub loop-i-preserved : goal.loop-i-preserved
loop-i-preserved c = (index_on _ _ _ c.loop-i-test.true c.loop-i.invariant (le-leb _ _ c.if-symbols-i-gt-SPOILED.false))

pub returns : goal.returns
returns c = sym (c.loop-i.invariant ∙ index-end _ _ _ (omega (arith, c.loop-i-test.false)))
