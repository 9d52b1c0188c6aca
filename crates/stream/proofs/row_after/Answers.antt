-- `row_after` meets its contract: one frame more, or the first.
use borrow.Author.Tests.{eq-eqb, ne_eqb, lt-ltb, le-ltb}
use Rattle.following.specs.Following.{row_after}
use Rattle.stream.proofs.row_after.Goals as goal

pub returns-then-row-eq0 : goal.returns-then-row-eq0
unfolding row_after
returns-then-row-eq0 c = rw (eq-eqb _ _ c.if-row-eq0.true)

pub returns-then-row-lt-LONGEST_ROW : goal.returns-then-row-lt-LONGEST_ROW
unfolding row_after
returns-then-row-lt-LONGEST_ROW c = rw (ne_eqb _ _ c.if-row-eq0.false, ← c.is_next.ensures, c.if-is_next.true, lt-ltb _ _ c.if-row-lt-LONGEST_ROW.true)

pub returns-then-is_next : goal.returns-then-is_next
unfolding row_after
returns-then-is_next c = rw (ne_eqb _ _ c.if-row-eq0.false, ← c.is_next.ensures, c.if-is_next.true, le-ltb _ _ c.if-row-lt-LONGEST_ROW.false)

pub returns : goal.returns
unfolding row_after
returns c = rw (ne_eqb _ _ c.if-row-eq0.false, ← c.is_next.ensures, c.if-is_next.false)
