-- The marks looked at are those that the format asks for.
use Rattle.std.proofs.Common.{◌+◌, sym, ◌∙◌, arith}
use Rattle.openings.specs.Openings.{meet-opens}
use Rattle.openings.proofs.lowest_opening.Goals as goal

pub returns : goal.returns
returns c = λ j a b. sym (meet-opens c.args.format c.args.symbols.now _ (c.args.from + j) c.marks_before-marks.ensures.0) ∙ c.loop-i.invariant j (omega arith) b
