-- The number that the first j elements say.
use Rattle.std.proofs.Common.{◌≡◌, sym, arith}
use Rattle.tape.specs.Readings.{digit-more, digit-none, digit-grows, digit-bound}
use Rattle.tape.proofs.digit_at.Goals as goal

pub loop-j-init : goal.loop-j-init
loop-j-init c = (sym (digit-none c.args.frame.now c.args.start), omega arith)

pub loop-j-preserved : goal.loop-j-preserved
loop-j-preserved c = (rw (c.from.ensures, c.loop-j.invariant.0) (sym (digit-more c.args.frame.now c.args.start c.loop-j.j)), digit-grows _ _ _ c.loop-j.invariant.1 (omega arith))

pub returns : goal.returns
returns c =
    let all : c.loop-j.j ≡ c.args.width = omega arith in
    (rw all at c.loop-j.invariant.0, digit-bound _ _ c.loop-j.invariant.1 (omega arith))
