-- `write_report` meets its contract: 12, the ranges, then the fit.
use Rattle.std.proofs.lemmas.Result.{err_from_is_err_and}
use mathlib.Core.Path.{sym, ◌∙◌}
use Rattle.log_write.specs.Parts.{write-past, write-passed, write-refused}
use Rattle.log_write.proofs.write_report.Goals as goal

both : {A B : Type 0} → A × B → record { value : A; log_after : B }
both p = record { value = p.0; log_after = p.1 }

pub returns-then-log-at : goal.returns-then-log-at
returns-then-log-at c = both (write-past _ _ _ _ c.if-log-at.true)

pub returns : goal.returns
returns c =
    both
    (write-passed _ _ _ _ c.if-log-at.false
    (sym c.check_report.ensures ∙ c.in_ok-check_report.was)
    _
    _
    c.put_where_fits.ensures)

pub returns-in_err-check_report : goal.returns-in_err-check_report
returns-in_err-check_report c =
    let p = err_from_is_err_and c.from_residual.result c.from_residual.ensures.1 in
    rw (p.1, p.2) (both (write-refused _ _ _ _ c.if-log-at.false _ (sym c.check_report.ensures ∙ c.in_err-check_report.was)))
