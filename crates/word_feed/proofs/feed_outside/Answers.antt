-- `feed_outside` meets its contract: a refused symbol goes by value; else the row that the frame brings, and what it ends with.
use mathlib.Core.Path.{◌∙◌}
use Rattle.word_feed.specs.FrameEnds.{ends_with, refused-left}
use Rattle.word_feed.specs.InPlace.{ready-place}
use Rattle.word_feed.proofs.feed_outside.Goals as goal

both : {A B : Type 0} → A × B → record { value : A; reader_after : B }
both p = record { value = p.0; reader_after = p.1 }

pub returns-then-symbol-gt-SPOILED : goal.returns-then-symbol-gt-SPOILED
returns-then-symbol-gt-SPOILED c = both ((c.feed_by_value.ensures.value, c.feed_by_value.ensures.reader_after ∙ refused-left c.args.reader.now c.args.symbol c.args.n c.requires.0 c.if-symbol-gt-SPOILED.true c.args.room))

pub row_with_frame-row-requires : goal.row_with_frame-row-requires
row_with_frame-row-requires c = (ready-place c.args.reader.now c.args.n c.requires.0).1

pub returns : goal.returns
returns c = both (ends_with c.args.reader.now c.args.symbol c.args.n c.requires.0 c.requires.1 c.if-symbol-gt-SPOILED.false c.requires.2 c.row_with_frame-row.result (rw (c.format_in.ensures, c.row_at-before.ensures, c.push-newest.ensures) at c.row_with_frame-row.ensures) c.args.room c.end_frame.result _ c.end_frame.ensures.value (rw c.push-newest.ensures at c.end_frame.ensures.reader_after))
