-- `frame_size` meets its contract: the letter's own figure, whatever the expression.
use mathlib.Core.Path.{◌≡◌, refl, sym}
use Rattle.timecode.specs.Formats.{size, row_of, carries_year}
use Rattle.timecode.proofs.Laws.Table.{size-range}
use Rattle.layout.proofs.frame_size.Goals as goal

pub returns : goal.returns
unfolding size row_of carries_year
returns c =
    let f = c.args.format in
    let same : size c.args.format ≡ c.row_in.result.elements = (c.row_in.ensures 0 refl).elements_are in
    let range = size-range f in
    (sym same, rw same at range.0, rw same at range.1)
