-- `begin` meets its contract.
use Rattle.std.specs.Prelude.{Result, ℕ}
use Rattle.std.proofs.lemmas.Result.{err_from_is_err_and}
use Rattle.timecode.specs.declared.Refusal.{Refusal}
use Rattle.timecode.specs.declared.Time.{Time}
use Rattle.timecode.specs.Answers.{done}
use mathlib.Core.Path.{sym, ap, ◌∙◌}
use Rattle.generator.specs.Sending.{begun}
use Rattle.generator.specs.Lines.{stepped_answer}
use Rattle.generator.proofs.Lines.{taken_is, begun-step, begun-refused}
use Rattle.generator.proofs.begin.Goals as goal

pub returns-in_err-frame_line : goal.returns-in_err-frame_line
returns-in_err-frame_line c =
    let p = err_from_is_err_and c.from_residual.result c.from_residual.ensures.1 in
    rw (p.1, p.2) (begun-refused _ _ _ _ _ (taken_is _ _ _ _ c.frame_line.ensures.0 ∙ ap (λ (a : Result ℕ Refusal). stepped_answer a) c.in_err-frame_line.was))

pub returns-in_err-step : goal.returns-in_err-step
returns-in_err-step c =
    let p = err_from_is_err_and c.from_residual-in_err-step.result c.from_residual-in_err-step.ensures.1 in
    rw (p.1, p.2)
    (ap (λ (s : Result Time Refusal). begun done s) (sym c.in_err-step.was ∙ c.step.ensures)
    ∙ begun-step _ _ _ _ (taken_is _ _ _ _ c.frame_line.ensures.0 ∙ ap (λ (a : Result ℕ Refusal). stepped_answer a) c.in_ok-frame_line.was))

pub returns : goal.returns
returns c =
    ap (λ (s : Result Time Refusal). begun done s) (sym c.in_ok-step.was ∙ c.step.ensures)
    ∙ begun-step _ _ _ _ (taken_is _ _ _ _ c.frame_line.ensures.0 ∙ ap (λ (a : Result ℕ Refusal). stepped_answer a) c.in_ok-frame_line.was)
