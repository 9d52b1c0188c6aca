-- `end_frame` meets its contract: a report with room, one without, and none.
use mathlib.Core.Path.{refl}
use borrow.Author.Tests.{le-leb, lt-leb}
use Rattle.word_feed.specs.FrameEnds.{end_answer}
use Rattle.word_feed.specs.InPlace.{ready-place}
use Rattle.word_feed.proofs.end_frame.Goals as goal

both : {A B : Type 0} → A × B → record { value : A; reader_after : B }
both p = record { value = p.0; reader_after = p.1 }

pub place_after-place-requires : goal.place_after-place-requires
place_after-place-requires c = ready-place c.args.reader.now c.args.n c.requires

pub returns-then-room : goal.returns-then-room
unfolding end_answer
returns-then-room c = both (rw (le-leb _ _ c.if-reader-row.true, c.if-room.true, ← c.place_after-place.ensures) (refl, c.put_whole.ensures))

pub returns-else-room : goal.returns-else-room
unfolding end_answer
returns-else-room c = both (rw (le-leb _ _ c.if-reader-row.true, c.if-room.false) (refl, refl))

pub returns : goal.returns
unfolding end_answer
returns c = both (rw (lt-leb _ _ c.if-reader-row.false, ← c.place_after-place.ensures) (refl, c.put_whole-2.ensures))
