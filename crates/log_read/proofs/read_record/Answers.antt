-- `read_record` meets its contract: 19, 20, the ranges.
use Rattle.std.proofs.lemmas.Result.{err_from_is_err_and}
use mathlib.Core.Path.{sym, ◌∙◌}
use Rattle.log_read.specs.Parsing.{read_short, read-improper, read-passed, read-refused}
use Rattle.log_read.proofs.read_record.Goals as goal

pub returns-then-part-size : goal.returns-then-part-size
returns-then-part-size c = read_short _ c.args.part.now _ _ c.record_size-size.ensures.0 c.if-part-size.true

pub returns-then-map-map_of : goal.returns-then-map-map_of
returns-then-map-map_of c = read-improper _ c.args.part.now _ _ c.record_size-size.ensures.0 (λ i. (c.shared_slice_known-1.given i).fits) c.if-part-size.false _ c.report_in-report.ensures (λ e. c.if-map-map_of.true (e ∙ sym c.map_of.ensures))

pub returns : goal.returns
returns c = read-passed _ c.args.part.now _ _ c.record_size-size.ensures.0 (λ i. (c.shared_slice_known-1.given i).fits) c.if-part-size.false _ c.report_in-report.ensures (c.if-map-map_of.false ∙ c.map_of.ensures) (sym c.check_report.ensures ∙ c.in_ok-check_report.was)

pub returns-in_err-check_report : goal.returns-in_err-check_report
returns-in_err-check_report c =
    let p = err_from_is_err_and c.from_residual.result c.from_residual.ensures.1 in
    rw (p.1, p.2) (read-refused _ c.args.part.now _ _ c.record_size-size.ensures.0 (λ i. (c.shared_slice_known-1.given i).fits) c.if-part-size.false _ c.report_in-report.ensures (c.if-map-map_of.false ∙ c.map_of.ensures) _ (sym c.check_report.ensures ∙ c.in_err-check_report.was))
