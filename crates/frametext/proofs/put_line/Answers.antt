-- `put_line` meets its contract.
use Rattle.std.proofs.lemmas.Result.{err_from_is_err_and}
use native.Mathlib.Omega.{arith}
use mathlib.Core.Path.{refl, sym, ◌∙◌}
use Rattle.frametext.proofs.Putting.{line-text, line-done, line_refused}
use Rattle.frametext.proofs.put_line.Goals as goal

pub returns : goal.returns
returns c =
    let done-is = c.in_ok-write_part.was in
    let text = c.put_frame.ensures.2 ∙ line-text _ _ _ _ (c.write_part.ensures.2 done-is) in
    (line-done _ _ _ _ _ (sym c.write_part.ensures.0 ∙ done-is) (omega (arith, c.put_frame.ensures.0, c.put_frame.ensures.1)) text, c.put_frame.ensures.1, (c.put_frame.ensures.0, text))

pub returns-in_err-write_part : goal.returns-in_err-write_part
returns-in_err-write_part c =
    let p = err_from_is_err_and c.from_residual.result c.from_residual.ensures.1 in
    rw (p.1, p.2) ((line_refused _ _ _ _ (sym c.write_part.ensures.0 ∙ c.in_err-write_part.was), c.requires, refl))
