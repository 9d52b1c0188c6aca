-- The bytes before the index pass.
use Rattle.std.proofs.Common.{ℕ, true, ◌<◌, ◌≤◌, slice_index}
use Rattle.pulse_lines.proofs.run_end.Given as goal

abbrev pub invariant-loop-i : goal.invariant-loop-i
invariant-loop-i g l = (k : ℕ) → l.from ≤ k → k < l.i → goal.F-post g l.passes (slice_index l.line k) true
