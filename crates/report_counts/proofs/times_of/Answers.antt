-- `times_of` meets its contract: what the filter passes is counted.
use Rattle.std.specs.Prelude.{◌≡◌, ◌==◌, count_by}
use Rattle.std.proofs.Common.{rules, sym, ◌∙◌}
use Rattle.report_counts.proofs.Counting.{times-counted}
use Rattle.report_counts.proofs.times_of.Goals as goal

pub returns : goal.returns
returns c =
    let counted : c.count.result ≡ count_by (λ x. x == c.args.symbol) c.args.recording.now = search rules in
    counted ∙ sym (times-counted c.args.symbol c.args.recording.now)
