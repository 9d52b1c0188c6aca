-- `feed_end` meets its contract: out of the words, or in the block.
use mathlib.Core.Path.{sym, ap, ◌∙◌}
use mathlib.Core.List.{List}
use Prim.Native.Nat.{ℕ}
use lib.ListN.{get_or}
use native.Mathlib.Omega.{arith}
use Rattle.timecode.specs.Frames.{read_of}
use Rattle.stream.specs.Feeding.{row_with}
use Rattle.stream.proofs.Tapes.{tape-frame}
use Rattle.word_feed.specs.FrameEnds.{row_of_words, whole_register, ends_with}
use Rattle.word_feed.specs.InPlace.{format_in}
use Rattle.word_block.proofs.feed_end.Goals as goal

both : {A B : Type 0} → A × B → record { value : A; reader_after : B }
both p = record { value = p.0; reader_after = p.1 }

pub row_in_block-row-requires : goal.row_in_block-row-requires
row_in_block-row-requires c =
    let within = c.is_in_words.ensures c.if-is_in_words.false in
    (within.1, omega (arith, c.requires.2), λ y. sym (c.requires.4 within.0 within.1) ∙ rw c.push-newest.ensures (tape-frame c.format_in-format.result c.args.n y (whole_register c.args.reader.now (get_or c.args.symbols.now c.args.i 0) c.args.n)))

pub returns : goal.returns
returns c =
    let f = format_in (get_or c.args.reader.now 0 0) (get_or c.args.reader.now 1 0) in
    let within = c.is_in_words.ensures c.if-is_in_words.false in
    let frame = c.requires.4 within.0 within.1 in
    let row = rw (c.row_at-before.ensures, c.format_in-format.ensures) at c.row_in_block-row.ensures in
    both (ends_with c.args.reader.now (get_or c.args.symbols.now c.args.i 0) c.args.n c.requires.0 c.requires.1 within.0 c.requires.3 c.row_in_block-row.result (row ∙ ap (λ (xs : List ℕ). row_with f (row_of_words c.args.reader.now) (read_of f xs)) (sym frame)) c.args.room c.end_frame.result _ c.end_frame.ensures.value (rw c.push-newest.ensures at c.end_frame.ensures.reader_after))
