-- `hold` is safe and ends: a read's bytes have room behind the elements held.
use Rattle.std.proofs.Common.{◌≤◌}
use Rattle.timelook.proofs.hold.Given as goal

abbrev pub invariant-loop : goal.invariant-loop
invariant-loop l = l.count ≤ 4194304
