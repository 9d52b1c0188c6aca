-- `marks_before` meets its contract.
use native.Mathlib.Omega.{arith}
use borrow.Author.Tests.{eq-eqb, ne_eqb}
use Rattle.timecode.specs.Formats.{is_x}
use Rattle.timecode.specs.Stream.{lead}
use Rattle.openings.proofs.marks_before.Goals as goal

pub returns-then-format-eq88 : goal.returns-then-format-eq88
unfolding lead is_x
returns-then-format-eq88 c = (rw (eq-eqb _ _ c.if-format-eq88.true), omega arith)

pub returns-else-format-eq88 : goal.returns-else-format-eq88
unfolding lead is_x
returns-else-format-eq88 c = (rw (ne_eqb _ _ c.if-format-eq88.false), omega arith)
