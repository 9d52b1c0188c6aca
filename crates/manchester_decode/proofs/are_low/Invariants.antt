use Rattle.std.proofs.Common.{◌≡◌, ℕ, ◌<◌, get_or}
use Rattle.manchester_decode.proofs.are_low.Given as goal

abbrev pub invariant-loop-cycle : goal.invariant-loop-cycle
invariant-loop-cycle l = (k : ℕ) → k < l.cycle-index → get_or l.cycles k 0 ≡ 2
