-- `meaning` meets its contract: what passes the time's checks is in bounds.
use mathlib.Core.Path.{sym, ◌∙◌}
use Rattle.digits.specs.Meaning.{time-bounds}
use Rattle.digits.proofs.meaning.Goals as goal

pub time_in-time-requires : goal.time_in-time-requires
time_in-time-requires c =
    let start = c in
    (start.requires.1, time-bounds start.args.leap start.args.year start.args.digits.now (sym c.is_time.ensures ∙ c.if-not-is_time.false))
