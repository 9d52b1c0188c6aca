-- `simulate_lists` meets its contract.
use Rattle.simulate.specs.Hearing.{result_of}
use Rattle.simulate.specs.Results.{ground, lists-asked, lent-setting, lent-lists, lent-listeners, lent-heard}
use mathlib.Core.Bool.{true, false}
use mathlib.Core.Path.{sym, ap, ◌∙◌}
use Rattle.simulate.proofs.simulate_lists.Goals as goal

pub returns-then-not-settings_fit : goal.returns-then-not-settings_fit
returns-then-not-settings_fit c = ap result_of (sym (lent-setting _ _ _ _ _ _ _ _ (sym c.settings_fit.ensures ∙ c.if-not-settings_fit.true)))

pub returns-then-not-are_lists : goal.returns-then-not-are_lists
returns-then-not-are_lists c = ap result_of (sym (lent-lists _ _ _ _ _ _ _ _ (sym c.settings_fit.ensures ∙ c.if-not-settings_fit.false) (lists-asked _ _ _ _ false (sym c.are_lists.ensures ∙ c.if-not-are_lists.true))))

pub returns-then-not-are_listeners : goal.returns-then-not-are_listeners
returns-then-not-are_listeners c = ap result_of (sym (lent-listeners _ _ _ _ _ _ _ _ (sym c.settings_fit.ensures ∙ c.if-not-settings_fit.false) (lists-asked _ _ _ _ true (sym c.are_lists.ensures ∙ c.if-not-are_lists.false)) (sym c.are_listeners.ensures ∙ c.if-not-are_listeners.true)))

pub hear_listeners-requires : goal.hear_listeners-requires
hear_listeners-requires c = (ground _ _ _ _ _ c.requires.0 (sym c.settings_fit.ensures ∙ c.if-not-settings_fit.false) (lists-asked _ _ _ _ true (sym c.are_lists.ensures ∙ c.if-not-are_lists.false)) (sym c.are_listeners.ensures ∙ c.if-not-are_listeners.false), c.requires.1)

pub returns : goal.returns
returns c = c.hear_listeners.ensures ∙ ap result_of (sym (lent-heard _ _ _ _ _ _ _ _ (sym c.settings_fit.ensures ∙ c.if-not-settings_fit.false) (lists-asked _ _ _ _ true (sym c.are_lists.ensures ∙ c.if-not-are_lists.false)) (sym c.are_listeners.ensures ∙ c.if-not-are_listeners.false)))
