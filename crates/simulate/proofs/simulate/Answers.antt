-- `simulate` meets its contract.
use Rattle.std.proofs.lemmas.Result.{err_from_is_err_and}
use Rattle.simulate.specs.Hearing.{result_of}
use Rattle.simulate.specs.Results.{lent-stepped, lent-refused, stepped-known}
use mathlib.Core.Path.{sym, ap, ◌∙◌}
use Rattle.simulate.proofs.simulate.Goals as goal

pub simulate_lists-requires : goal.simulate_lists-requires
simulate_lists-requires c = stepped-known _ _ _ _ (sym c.step.ensures ∙ c.in_ok-step.was)

pub returns : goal.returns
returns c = c.simulate_lists.ensures ∙ ap result_of (sym (lent-stepped _ _ _ _ _ _ _ _ _ (sym c.step.ensures ∙ c.in_ok-step.was)))

pub returns-in_err-step : goal.returns-in_err-step
returns-in_err-step c =
    let p = err_from_is_err_and c.from_residual.result c.from_residual.ensures.1 in
    rw (p.1, p.2) (ap result_of (sym (lent-refused _ _ _ _ _ _ _ _ _ (sym c.step.ensures ∙ c.in_err-step.was))))
