-- `feed_inside` meets its contract: stored by cases, and nothing stored where a frame becomes whole.
use mathlib.Core.Path.{sym, ◌∙◌}
use native.Mathlib.Omega.{arith}
use Rattle.word_feed.specs.InPlace.{ready-place, above-left, opened, none-under-way, joined, filled, after-whole, becomes-whole}
use Rattle.word_feed.proofs.feed_inside.Goals as goal

both : {A B : Type 0} → A × B → record { value : A; reader_after : B }
both p = record { value = p.0; reader_after = p.1 }

pub returns-then-symbol-gt-SPOILED : goal.returns-then-symbol-gt-SPOILED
returns-then-symbol-gt-SPOILED c = both (above-left c.args.reader.now c.args.symbol c.args.n c.requires c.if-symbol-gt-SPOILED.true)

pub place_after-place-requires : goal.place_after-place-requires
place_after-place-requires c = ready-place c.args.reader.now c.args.n c.requires

pub returns-then-opens_frame : goal.returns-then-opens_frame
returns-then-opens_frame c = both (rw (c.put_begun.ensures, c.place_after-place.ensures, c.push-newest.ensures, c.row_before-row.ensures) (opened c.args.reader.now c.args.symbol c.args.n c.requires c.if-symbol-gt-SPOILED.false (rw (← c.format_in.ensures) (sym c.opens_frame.ensures ∙ c.if-opens_frame.true))))

pub returns-then-count-eq0 : goal.returns-then-count-eq0
returns-then-count-eq0 c = both (rw (c.put_continued.ensures, c.place_after-place.ensures, c.push-newest.ensures) (none-under-way c.args.reader.now c.args.symbol c.args.n c.requires c.if-symbol-gt-SPOILED.false (rw (← c.format_in.ensures) (sym c.opens_frame.ensures ∙ c.if-opens_frame.false)) c.if-count-eq0.true))

pub returns-then-count-ne31 : goal.returns-then-count-ne31
returns-then-count-ne31 c = both (rw (c.put_continued-then-count-ne31.ensures, c.place_after-place.ensures, c.push-newest.ensures) (joined c.args.reader.now c.args.symbol c.args.n c.requires c.if-symbol-gt-SPOILED.false (rw (← c.format_in.ensures) (sym c.opens_frame.ensures ∙ c.if-opens_frame.false)) c.if-count-eq0.false c.if-count-n.true c.if-count-ne31.true))

pub put_full-requires : goal.put_full-requires
put_full-requires c = (omega (arith, c.if-count-ne31.false), omega (arith, c.if-count-n.true, ready-place c.args.reader.now c.args.n c.requires))

pub returns-then-count-n : goal.returns-then-count-n
returns-then-count-n c = both (rw (c.put_full.ensures, c.place_after-place.ensures, c.push-newest.ensures) (filled c.args.reader.now c.args.symbol c.args.n c.requires c.if-symbol-gt-SPOILED.false (rw (← c.format_in.ensures) (sym c.opens_frame.ensures ∙ c.if-opens_frame.false)) c.if-count-eq0.false c.if-count-n.true c.if-count-ne31.false))

pub returns-then-n-count : goal.returns-then-n-count
returns-then-n-count c = both (rw (c.put_begun-then-n-count.ensures, c.place_after-place.ensures, c.push-newest.ensures) (after-whole c.args.reader.now c.args.symbol c.args.n c.requires c.if-symbol-gt-SPOILED.false (rw (← c.format_in.ensures) (sym c.opens_frame.ensures ∙ c.if-opens_frame.false)) c.if-n-count.true))

pub returns : goal.returns
returns c = both (becomes-whole c.args.reader.now c.args.symbol c.args.n c.requires c.if-symbol-gt-SPOILED.false (rw (← c.format_in.ensures) (sym c.opens_frame.ensures ∙ c.if-opens_frame.false)) c.if-count-eq0.false c.if-count-n.false c.if-n-count.false)
