-- In X a frame has 25 elements.
use Rattle.std.proofs.Common.{arith, eq-eqb, ne_eqb}
use Rattle.timecode.specs.Formats.{is_x}
use Rattle.timecode.proofs.Laws.Table.{size-range}
use Rattle.scan.specs.Spoiled.{never_spoiled}
use Rattle.scan.proofs.never_spoiled.Goals as goal

pub returns-then-format-eq88 : goal.returns-then-format-eq88
unfolding never_spoiled is_x
returns-then-format-eq88 c = (rw (eq-eqb _ _ c.if-format-eq88.true), omega (arith, size-range c.args.format))

pub returns-else-format-eq88 : goal.returns-else-format-eq88
unfolding never_spoiled is_x
returns-else-format-eq88 c = (rw (ne_eqb _ _ c.if-format-eq88.false) c.requires, omega arith)
