-- `offence_at` meets its contract: 5 where either is a mark.
use borrow.Author.Tests.{eq-eqb, ne_eqb}
use Rattle.frame.specs.Offences.{offence_at}
use Rattle.frame.proofs.offence_at.Goals as goal

pub returns-then-again-eq-MARK : goal.returns-then-again-eq-MARK
unfolding offence_at
returns-then-again-eq-MARK c = rw (eq-eqb _ 2 c.if-again-eq-MARK.true)

pub returns-then-symbol-eq-MARK : goal.returns-then-symbol-eq-MARK
unfolding offence_at
returns-then-symbol-eq-MARK c = rw (ne_eqb _ 2 c.if-again-eq-MARK.false, eq-eqb _ 2 c.if-symbol-eq-MARK.true)

pub returns : goal.returns
unfolding offence_at
returns c = rw (ne_eqb _ 2 c.if-again-eq-MARK.false, ne_eqb _ 2 c.if-symbol-eq-MARK.false)
