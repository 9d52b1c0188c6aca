-- `answer_to` meets its contract: 13, 26, 4, then the answer of the reader after it.
use borrow.Author.Tests.{le-leb, lt-leb}
use Rattle.stream.specs.Feeding.{answer_of}
use Rattle.stream.proofs.answer_to.Goals as goal

pub returns-then-symbol-gt-SPOILED : goal.returns-then-symbol-gt-SPOILED
unfolding answer_of
returns-then-symbol-gt-SPOILED c = rw (← c.is_valid.ensures, c.if-is_valid.true, ← c.is_setting.ensures, c.if-is_setting.true, lt-leb _ _ c.if-symbol-gt-SPOILED.true)

pub returns-then-is_setting : goal.returns-then-is_setting
unfolding answer_of
returns-then-is_setting c = rw (← c.is_valid.ensures, c.if-is_valid.true, ← c.is_setting.ensures, c.if-is_setting.true, le-leb _ _ c.if-symbol-gt-SPOILED.false, ← c.requires) c.answer_after.ensures

pub returns-then-is_valid : goal.returns-then-is_valid
unfolding answer_of
returns-then-is_valid c = rw (← c.is_valid.ensures, c.if-is_valid.true, ← c.is_setting.ensures, c.if-is_setting.false)

pub returns : goal.returns
unfolding answer_of
returns c = rw (← c.is_valid.ensures, c.if-is_valid.false)
