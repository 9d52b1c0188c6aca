-- `leading_highs` meets its contract: the first cycle that is not high.
use Rattle.std.proofs.Common.{arith}
use Rattle.manchester_decode.specs.Decoding.{leading-is}
use Rattle.manchester_decode.proofs.leading_highs.Goals as goal

pub returns-then-cycles-i-ne-HIGH : goal.returns-then-cycles-i-ne-HIGH
returns-then-cycles-i-ne-HIGH c = (leading-is c.args.cycles.now _ (omega arith) c.loop-i.invariant (λ _. c.if-cycles-i-ne-HIGH.true), omega arith)

pub returns : goal.returns
returns c = (leading-is c.args.cycles.now _ (omega arith) (λ k h. c.loop-i.invariant k (omega arith)) (λ u. absurd (omega arith)), omega arith)
