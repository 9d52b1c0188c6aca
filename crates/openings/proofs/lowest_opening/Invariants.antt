use Rattle.std.proofs.Common.{◌≡◌, ℕ, ◌+◌, ◌<◌, false}
use Rattle.openings.specs.Openings.{marks_meet}
use Rattle.openings.proofs.lowest_opening.Given as goal

abbrev pub invariant-loop-i : goal.invariant-loop-i
invariant-loop-i l = (j : ℕ) → j < l.i → j < l.lowest → marks_meet l.marks l.symbols (l.from + j) ≡ false
