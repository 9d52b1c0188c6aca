-- `read` meets its contract: each way out is the definition's, by what the row gives.
use mathlib.Core.Path.{refl, sym, ◌∙◌}
use borrow.Author.Tests.{ne_eqb}
use lib.ListN.{length}
use Rattle.timecode.specs.Formats.{size}
use Rattle.timecode.specs.Frames.{read_of}
use Rattle.timecode.proofs.Laws.Table.{x-size}
use Rattle.frame.specs.Exits.{row-known}
use Rattle.frame.proofs.read.Goals as goal

pub read_tape-requires : goal.read_tape-requires
read_tape-requires c = c.if-frame-row.true ∙ c.row_of-row.ensures.elements_are ∙ x-size c.args.format (sym c.is_x.ensures ∙ c.if-is_x.true)

pub returns-then-takes : goal.returns-then-takes
unfolding read_of
returns-then-takes c =
    let f = c.args.format in
    let o = c.row_of-row.ensures in
    rw (
      row-known f c.row_of-row.result c.row_of-row.ensures f.expression c.takes.result refl c.takes.ensures ∙ c.if-takes.true,
      ne_eqb (length c.args.frame.now) (size f) (λ q. c.if-frame-row.false (q ∙ sym o.elements_are)),
    )

pub returns : goal.returns
unfolding read_of
returns c =
    let f = c.args.format in
    rw (row-known f c.row_of-row.result c.row_of-row.ensures f.expression c.takes.result refl c.takes.ensures ∙ c.if-takes.false)
