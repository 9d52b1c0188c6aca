-- `following` meets its contract.
use borrow.Author.Tests.{eq-eqb, ne_eqb}
use Rattle.windows.specs.Asking.{following_of}
use Rattle.windows.proofs.following.Goals as goal

pub returns-then-key-eq-NO_KEY : goal.returns-then-key-eq-NO_KEY
unfolding following_of
returns-then-key-eq-NO_KEY c = rw (eq-eqb _ _ c.if-key-eq-NO_KEY.true)

pub returns : goal.returns
unfolding following_of
returns c = rw (ne_eqb _ _ c.if-key-eq-NO_KEY.false, c.time_of.ensures)
