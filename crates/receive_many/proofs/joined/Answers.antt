-- `joined` meets its contract.
use Rattle.receive_many.specs.ManySymbols.{joined_of}
use borrow.Author.Tests.{eq-eqb, ne_eqb}
use Rattle.receive_many.proofs.joined.Goals as goal

pub returns-then-count-eq0 : goal.returns-then-count-eq0
unfolding joined_of
returns-then-count-eq0 c = rw (eq-eqb _ _ c.if-count-eq0.true) c.with_word.ensures

pub returns-else-count-eq0 : goal.returns-else-count-eq0
unfolding joined_of
returns-else-count-eq0 c = rw (ne_eqb _ _ c.if-count-eq0.false) c.continued.ensures
