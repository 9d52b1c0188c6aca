-- `is_set` meets its contract, test by test.
use borrow.Author.Tests.{le-leb, lt-leb}
use Rattle.word_feed.specs.InPlace.{setting-within}
use Rattle.word_feed.proofs.is_set.Goals as goal

pub returns-then-setting-ge2 : goal.returns-then-setting-ge2
returns-then-setting-ge2 c = rw (setting-within, le-leb _ _ c.if-setting-ge2.true)

pub returns-else-setting-ge2 : goal.returns-else-setting-ge2
returns-else-setting-ge2 c = rw (setting-within, lt-leb _ _ c.if-setting-ge2.false)
