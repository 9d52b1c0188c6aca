use Prim.Native.Nat.{◌-◌}
use Rattle.log_read.specs.Gathering.{Gathered}
use Rattle.log_read.proofs.number_in.Given as goal

abbrev pub invariant-loop-i : goal.invariant-loop-i
invariant-loop-i l = Gathered l.part l.at l.width l.number (l.width - l.i)
