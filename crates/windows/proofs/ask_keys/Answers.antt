-- `ask_keys` meets its contract: 17, 2, 22, then the windows.
use mathlib.Core.Path.{sym, ◌∙◌}
use borrow.Author.Tests.{le-leb, lt-leb}
use Rattle.windows.specs.Asking.{ask-is}
use Rattle.calendar.specs.Moments.{ask_of}
use Rattle.windows.proofs.ask_keys.Goals as goal

pub returns-then-has_day : goal.returns-then-has_day
returns-then-has_day c = ask-is c.args.count _ _ c.args.time _ _ _ _ _ c.if-time-le-LAST_YEAR.true c.if-time-le-LAST_HUNDREDTH.true (sym c.has_day.ensures ∙ c.if-has_day.true) c.requires.0 c.requires.1 c.limit.ensures.0 c.key_of.ensures.0 c.look-seen.ensures c.following.ensures

pub returns-then-time-le-LAST_HUNDREDTH : goal.returns-then-time-le-LAST_HUNDREDTH
unfolding ask_of
returns-then-time-le-LAST_HUNDREDTH c = rw (le-leb _ _ c.if-time-le-LAST_YEAR.true, le-leb _ _ c.if-time-le-LAST_HUNDREDTH.true, ← c.has_day.ensures, c.if-has_day.false)

pub returns-then-time-le-LAST_YEAR : goal.returns-then-time-le-LAST_YEAR
unfolding ask_of
returns-then-time-le-LAST_YEAR c = rw (le-leb _ _ c.if-time-le-LAST_YEAR.true, lt-leb _ _ c.if-time-le-LAST_HUNDREDTH.false)

pub returns : goal.returns
unfolding ask_of
returns c = rw (lt-leb _ _ c.if-time-le-LAST_YEAR.false)
