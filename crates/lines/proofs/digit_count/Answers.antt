-- `digit_count` meets its contract: a digit for each turn, and one for what rests.
use native.Mathlib.Omega.{arith}
use Rattle.lines.specs.Filling.{counted_start, counted-turn, counted-end}
use Rattle.lines.proofs.digit_count.Goals as goal

pub loop-rest-init : goal.loop-rest-init
loop-rest-init c = counted_start c.args.number (omega arith)

pub loop-rest-preserved : goal.loop-rest-preserved
loop-rest-preserved c = (counted-turn c.args.number c.loop-rest.rest c.loop-rest.k c.loop-rest-test.true c.loop-rest.invariant).1

pub returns : goal.returns
returns c = let e = counted-end c.args.number c.loop-rest.rest c.loop-rest.k (omega arith) c.loop-rest.invariant in (e, c.loop-rest.invariant.some, c.loop-rest.invariant.few)
