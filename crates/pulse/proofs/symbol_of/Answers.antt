-- `symbol_of` meets its contract: class by class.
use Rattle.timecode.specs.Calls.{classes, pulse_among, pulse_of}
use Rattle.pulse.proofs.symbol_of.Goals as goal

pub returns-then-is_in : goal.returns-then-is_in
unfolding pulse_of pulse_among classes
returns-then-is_in c = rw (← c.is_within.ensures, c.if-is_within.true, ← c.is_in.ensures, c.if-is_in.true)

pub returns-then-is_in-2 : goal.returns-then-is_in-2
unfolding pulse_of pulse_among classes
returns-then-is_in-2 c = rw (← c.is_within.ensures, c.if-is_within.true, ← c.is_in.ensures, c.if-is_in.false, ← c.is_in-then-is_within.ensures, c.if-is_in-2.true)

pub returns-then-is_in-3 : goal.returns-then-is_in-3
unfolding pulse_of pulse_among classes
returns-then-is_in-3 c = rw (← c.is_within.ensures, c.if-is_within.true, ← c.is_in.ensures, c.if-is_in.false, ← c.is_in-then-is_within.ensures, c.if-is_in-2.false, ← c.is_in-then-is_within-2.ensures, c.if-is_in-3.true)

pub returns-else-is_in-3 : goal.returns-else-is_in-3
unfolding pulse_of pulse_among classes
returns-else-is_in-3 c = rw (← c.is_within.ensures, c.if-is_within.true, ← c.is_in.ensures, c.if-is_in.false, ← c.is_in-then-is_within.ensures, c.if-is_in-2.false, ← c.is_in-then-is_within-2.ensures, c.if-is_in-3.false)

pub returns-else-is_within : goal.returns-else-is_within
unfolding pulse_of
returns-else-is_within c = rw (← c.is_within.ensures, c.if-is_within.false)
