-- `feed_pulse` meets its contract: by the classifier's answer.
use mathlib.Core.Path.{sym, ap, ◌∙◌}
use Rattle.stream.specs.declared.Fed.{Fed}
use Rattle.pulse_feed.specs.PulseFeeds.{handed_up, fed_by}
use Rattle.pulse_feed.proofs.PulseFeeds.{fed_by_lem}
use Rattle.pulse_feed.proofs.feed_pulse.Goals as goal

pub returns-in-Ok : goal.returns-in-Ok
returns-in-Ok c =
    c.hand_up.ensures
    ∙ ap (λ (x : Fed). handed_up x c.in-Ok.pulse.deviation) c.feed.ensures
    ∙ sym (ap (fed_by c.args.reader) (sym c.classify-classified.ensures ∙ c.in-Ok.is))
    ∙ fed_by_lem c.args.reader c.args.settings c.args.interval c.args.width c.args.period

pub returns-in-Err : goal.returns-in-Err
returns-in-Err c = c.refuse.ensures ∙ sym (ap (fed_by c.args.reader) (sym c.classify-classified.ensures ∙ c.in-Err.is)) ∙ fed_by_lem c.args.reader c.args.settings c.args.interval c.args.width c.args.period
