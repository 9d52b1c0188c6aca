-- The marks looked at are those that the format asks for.
use Rattle.std.proofs.Common.{◌≡◌, sym, ◌∙◌, arith}
use Rattle.openings.specs.Openings.{meet-opens}
use Rattle.openings.proofs.highest_opening.Goals as goal

pub returns : goal.returns
returns c =
    let all : c.loop-i.i ≡ c.args.count = omega arith in
    let highest = rw all at c.loop-i.invariant in
    (highest.0, λ k. sym (meet-opens c.args.format c.args.symbols.now _ _ c.marks_before-marks.ensures.0) ∙ highest.1 k)
