-- `frame_interval` meets its contract: the letter's own figure, whatever the expression.
use mathlib.Core.Path.{◌≡◌, refl, sym}
use Rattle.timecode.specs.Formats.{interval, row_of, carries_year}
use Rattle.timecode.proofs.Laws.Table.{interval-range}
use Rattle.layout.proofs.frame_interval.Goals as goal

pub returns : goal.returns
unfolding interval row_of carries_year
returns c =
    let f = c.args.format in
    let same : interval c.args.format ≡ c.row_in.result.interval = (c.row_in.ensures 0 refl).interval_is in
    let range = interval-range f in
    (sym same, rw same at range.0, rw same at range.1)
