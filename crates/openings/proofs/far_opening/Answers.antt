-- None opens before the place reached, and none among the places looked at before the lowest found.
use Rattle.std.proofs.Common.{arith}
use Rattle.openings.specs.Openings.{opens_at, none-open-joined}
use Rattle.openings.proofs.far_opening.Goals as goal

pub returns-then-lowest-count : goal.returns-then-lowest-count
returns-then-lowest-count c = (
  omega arith,
  omega arith,
  none-open-joined (opens_at c.args.format c.args.symbols.now) c.args.from c.loop-at.at c.from-lowest.result c.loop-at.invariant.2 (λ j b. c.lowest_opening.ensures j (omega arith) (omega arith)),
)

pub loop-at-preserved : goal.loop-at-preserved
loop-at-preserved c = (
  omega arith,
  omega arith,
  none-open-joined (opens_at c.args.format c.args.symbols.now) c.args.from c.loop-at.at c.min-count.result c.loop-at.invariant.2 (λ j b. c.lowest_opening.ensures j b (omega arith)),
)
