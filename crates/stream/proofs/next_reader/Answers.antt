-- `next_reader` meets its contract: a refused Feed hands back the same reader.
use borrow.Author.Tests.{le-leb, lt-leb}
use Rattle.stream.specs.Feeding.{next_of}
use Rattle.stream.proofs.next_reader.Goals as goal

pub returns-then-symbol-le-SPOILED : goal.returns-then-symbol-le-SPOILED
unfolding next_of
returns-then-symbol-le-SPOILED c = rw (← c.is_valid.ensures, c.if-is_valid.true, ← c.is_setting.ensures, c.if-is_setting.true, le-leb _ _ c.if-symbol-le-SPOILED.true) c.with_symbol.ensures

pub returns-else-symbol-le-SPOILED : goal.returns-else-symbol-le-SPOILED
unfolding next_of
returns-else-symbol-le-SPOILED c = rw (← c.is_valid.ensures, c.if-is_valid.true, ← c.is_setting.ensures, c.if-is_setting.true, lt-leb _ _ c.if-symbol-le-SPOILED.false)

pub returns-else-is_setting : goal.returns-else-is_setting
unfolding next_of
returns-else-is_setting c = rw (← c.is_valid.ensures, c.if-is_valid.true, ← c.is_setting.ensures, c.if-is_setting.false)

pub returns-else-is_valid : goal.returns-else-is_valid
unfolding next_of
returns-else-is_valid c = rw (← c.is_valid.ensures, c.if-is_valid.false)
