use mathlib.Core.Path.{◌≡◌}
use mathlib.Core.Bool.{◌&&◌}
use lib.ListN.{drop}
use Rattle.timecode.specs.Frames.{are_symbols}
use Rattle.tape.proofs.are_symbols.Given as goal

abbrev pub invariant-loop-i : goal.invariant-loop-i
invariant-loop-i l = are_symbols l.frame ≡ (l.all && are_symbols (drop l.i l.frame))
