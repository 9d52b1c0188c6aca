-- `on_day` meets its contract.
use borrow.Author.Tests.{lt-leb}
use Rattle.timecode.specs.Frames.{on_day}
use Rattle.clock.specs.Kinds.{is-kind, no_kind}
use Rattle.clock.proofs.on_day.Goals as goal

pub returns-then-kind-le-SECOND_TAKEN : goal.returns-then-kind-le-SECOND_TAKEN
unfolding on_day
returns-then-kind-le-SECOND_TAKEN c = rw (is-kind _ c.if-kind-le-SECOND_TAKEN.true, ← c.day_end.ensures)

pub returns-else-kind-le-SECOND_TAKEN : goal.returns-else-kind-le-SECOND_TAKEN
unfolding on_day
returns-else-kind-le-SECOND_TAKEN c = rw (no_kind _ c.if-kind-le-SECOND_TAKEN.false, lt-leb _ _ c.if-kind-le-SECOND_TAKEN.false)
