-- `print_part` meets its contract: the progress is that after the bytes taken, and all of them are taken unless a write fails.
use Rattle.std.proofs.Common.{length, take, ◌-◌, ◌≤◌, ◌≡◌}
use Rattle.hearing.specs.Bytes.{after_of}
use Rattle.printing.proofs.print_part.Given as goal

abbrev pub invariant-loop-taken : goal.invariant-loop-taken
invariant-loop-taken l = (l.taken ≤ length l.bytes) × (l.current ≡ after_of l.initial.current (take l.taken l.bytes))

abbrev pub decreases-loop-taken : goal.decreases-loop-taken
decreases-loop-taken l = length l.bytes - l.taken
