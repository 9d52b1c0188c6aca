-- `when_whole` meets its contract.
use borrow.Author.Tests.{eq-eqb, ne_eqb}
use Rattle.stream.specs.Feeding.{when_whole}
use Rattle.stream.proofs.when_whole.Goals as goal

pub returns-then-reader-n : goal.returns-then-reader-n
unfolding when_whole
returns-then-reader-n c = rw (← c.requires.0, eq-eqb _ _ c.if-reader-n.true) c.with_reading.ensures

pub returns : goal.returns
unfolding when_whole
returns c = rw (← c.requires.0, ne_eqb _ _ c.if-reader-n.false)
