-- The marks looked at are those that the format asks for.
use Rattle.std.proofs.Common.{sym, ◌∙◌, arith}
use Rattle.openings.specs.Openings.{meet-opens}
use Rattle.openings.proofs.near_opening.Goals as goal

pub returns-then-is_opening : goal.returns-then-is_opening
returns-then-is_opening c = (omega arith, omega arith, λ j a b. sym (meet-opens c.args.format c.args.symbols.now c.marks_before-marks.result j c.marks_before-marks.ensures.0) ∙ c.loop-at.invariant j a b)

pub returns : goal.returns
returns c = (omega arith, omega arith, λ j a b. sym (meet-opens c.args.format c.args.symbols.now c.marks_before-marks.result j c.marks_before-marks.ensures.0) ∙ c.loop-at.invariant j a (omega arith))
