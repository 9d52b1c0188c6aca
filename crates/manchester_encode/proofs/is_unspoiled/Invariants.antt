use mathlib.Core.Path.{◌≡◌}
use mathlib.Core.Bool.{◌&&◌}
use Prim.Native.Nat.{◌-◌}
use lib.Dec.{leb}
use lib.ListN.{drop}
use Rattle.cycles.specs.Cycles.{unspoiled}
use Rattle.manchester_encode.proofs.is_unspoiled.Given as goal

abbrev pub invariant-loop-symbol : goal.invariant-loop-symbol
invariant-loop-symbol l = unspoiled l.frame ≡ (leb l.largest 2 && unspoiled (drop l.symbol-index l.frame))
