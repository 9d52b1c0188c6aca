-- `scan` meets its contract: each way out is the definition's.
use borrow.Author.Tests.{le-leb, lt-leb}
use Rattle.timecode.specs.Calls.{first_place, scan_of}
use Rattle.scan.proofs.scan.Goals as goal

pub returns-then-start-recording : goal.returns-then-start-recording
unfolding scan_of first_place
returns-then-start-recording c = rw (← c.is_known.ensures, c.if-is_known.true, le-leb _ _ c.if-start-recording.true, ← c.marks_before.ensures.0, ← c.first_place.ensures.0, ← c.lowest.ensures)

pub returns-then-is_known : goal.returns-then-is_known
unfolding scan_of
returns-then-is_known c = rw (← c.is_known.ensures, c.if-is_known.true, lt-leb _ _ c.if-start-recording.false)

pub returns : goal.returns
unfolding scan_of
returns c = rw (← c.is_known.ensures, c.if-is_known.false)
