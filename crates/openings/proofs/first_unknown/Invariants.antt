use Rattle.std.proofs.Common.{◌≡◌, ◌+◌, drop}
use Rattle.openings.specs.Accepted.{accepted_in}
use Rattle.openings.proofs.first_unknown.Given as goal

abbrev pub invariant-loop-i : goal.invariant-loop-i
invariant-loop-i l = accepted_in l.symbols ≡ l.i + accepted_in (drop l.i l.symbols)
