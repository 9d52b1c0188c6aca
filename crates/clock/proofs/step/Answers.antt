-- `step` meets its contract: what `check_step` lets pass it answers with the time after.
use Rattle.std.specs.Prelude.{Ok}
use Rattle.std.proofs.lemmas.Result.{err_from_is_err_and}
use mathlib.Core.Path.{sym, ap, ◌∙◌}
use Rattle.timecode.proofs.Laws.Stepping.{answers-alike, refuses-alike}
use Rattle.timecode.specs.Frames.{step_of}
use Rattle.clock.proofs.step.Goals as goal

pub returns : goal.returns
unfolding step_of
returns c = rw (← c.length_in-length.ensures c.args.format c.carries_year.ensures) (ap Ok c.later.ensures ∙ sym (answers-alike _ _ _ _ _ _ (sym c.check_step.ensures ∙ c.in_ok-check_step.was) _))

pub returns-in_err-check_step : goal.returns-in_err-check_step
unfolding step_of
returns-in_err-check_step c = rw (← c.length_in-length.ensures c.args.format c.carries_year.ensures) (let p = err_from_is_err_and c.from_residual.result c.from_residual.ensures.1 in rw (p.1, p.2) (sym (refuses-alike _ _ _ _ _ _ (sym c.check_step.ensures ∙ c.in_err-check_step.was) _)))
