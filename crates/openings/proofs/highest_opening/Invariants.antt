use Rattle.openings.specs.Openings.{marks_meet, IsHighest}
use Rattle.openings.proofs.highest_opening.Given as goal

abbrev pub invariant-loop-i : goal.invariant-loop-i
invariant-loop-i l = IsHighest (marks_meet l.marks l.symbols) l.from l.i l.highest
