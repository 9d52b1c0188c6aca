-- `answer_after` meets its contract.
use borrow.Author.Tests.{eq-eqb, ne_eqb, le-leb, lt-leb}
use Rattle.stream.specs.Feeding.{answer_after}
use Rattle.stream.proofs.answer_after.Goals as goal

pub returns-then-reader-received : goal.returns-then-reader-received
unfolding answer_after
returns-then-reader-received c = rw (← c.frame_size.ensures.0, eq-eqb _ _ c.if-received-frame_size.true, le-leb _ _ c.if-reader-received.true)

pub returns-else-reader-received : goal.returns-else-reader-received
unfolding answer_after
returns-else-reader-received c = rw (← c.frame_size.ensures.0, eq-eqb _ _ c.if-received-frame_size.true, lt-leb _ _ c.if-reader-received.false)

pub returns-else-received-frame_size : goal.returns-else-received-frame_size
unfolding answer_after
returns-else-received-frame_size c = rw (← c.frame_size.ensures.0, ne_eqb _ _ c.if-received-frame_size.false)
