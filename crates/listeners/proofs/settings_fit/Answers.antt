-- `settings_fit` meets its contract.
use Rattle.listeners.specs.Indexes.{index_on, index-out, index-end}
use mathlib.Core.Path.{sym, ◌∙◌}
use native.Mathlib.Omega.{arith}
use Rattle.listeners.proofs.settings_fit.Goals as goal

pub loop-setting-preserved : goal.loop-setting-preserved
loop-setting-preserved c = (index_on _ _ _ c.loop-setting-test.true c.loop-setting.invariant (sym c.is_setting.ensures ∙ c.if-not-is_setting.false))

pub returns-then-not-is_setting : goal.returns-then-not-is_setting
returns-then-not-is_setting c = sym (index-out _ _ _ c.loop-setting-test.true c.loop-setting.invariant (sym c.is_setting.ensures ∙ c.if-not-is_setting.true))

pub returns : goal.returns
returns c = sym (c.loop-setting.invariant ∙ index-end _ _ _ (omega (arith, c.loop-setting-test.false)))
