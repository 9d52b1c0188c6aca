-- The opening found is close enough to the one before it.
use Rattle.std.proofs.Common.{◌≤◌, arith}
use Rattle.openings.specs.Openings.{start, close-next}
use Rattle.openings.proofs.last_opening.Goals as goal

pub loop-last-init : goal.loop-last-init
loop-last-init c = (omega arith, omega arith, start)

pub loop-last-preserved : goal.loop-last-preserved
loop-last-preserved c =
    let some : 1 ≤ c.from-highest.result = omega arith in
    (omega arith, omega arith, close-next c.args.format c.args.n c.args.symbols.now c.args.from c.loop-last.last c.min-count.result c.from-highest.result c.loop-last.invariant.2 (omega arith) (rw c.from-highest.ensures c.highest_opening.ensures) some)
