-- `feed` meets its contract: the next reader, and the answer.
use Rattle.stream.specs.Feeding.{feed_of}
use Rattle.stream.proofs.feed.Goals as goal

pub returns : goal.returns
unfolding feed_of
returns c = rw (← c.next_reader-next.ensures, ← c.answer_to.ensures)
