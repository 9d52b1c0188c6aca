use mathlib.Core.Path.{◌≡◌}
use mathlib.Core.Bool.{◌&&◌}
use Prim.Native.Nat.{◌-◌}
use lib.ListN.{drop}
use Rattle.timecode.specs.Frames.{are_symbols}
use Rattle.frame.proofs.are_symbols.Given as goal

abbrev pub invariant-loop-symbol : goal.invariant-loop-symbol
invariant-loop-symbol l = are_symbols l.frame ≡ (l.all && are_symbols (drop l.symbol-index l.frame))
