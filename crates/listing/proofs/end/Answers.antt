-- `end` meets its contract.
use native.Mathlib.Omega.{arith}
use Rattle.listing.specs.Promises.{ending_of}
use Rattle.listing.proofs.end.Goals as goal

pub returns-then-progress : goal.returns-then-progress
unfolding ending_of
returns-then-progress c = (c.requires, omega arith, rw c.if-progress.true)

pub returns-else-progress : goal.returns-else-progress
unfolding ending_of
returns-else-progress c = (c.put_counts.ensures.0, c.put_counts.ensures.1, rw c.if-progress.false c.put_counts.ensures.2)
