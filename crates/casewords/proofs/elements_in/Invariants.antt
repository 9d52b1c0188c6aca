-- `elements_in` ends: the rest of the line gets shorter.
use Rattle.std.proofs.Common.{length}
use Rattle.casewords.proofs.elements_in.Given as goal

abbrev pub decreases-loop-first : goal.decreases-loop-first
decreases-loop-first l = length l.rest
