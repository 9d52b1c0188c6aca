-- The loop has come to the end.
use Rattle.std.proofs.Common.{◌≡◌, arith}
use Rattle.tape.proofs.all_fit.Goals as goal

pub returns : goal.returns
returns c =
    let all : c.loop-index.index ≡ 25 = omega arith in
    rw all at c.loop-index.invariant
