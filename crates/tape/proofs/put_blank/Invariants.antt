use mathlib.Core.Path.{◌≡◌}
use lib.ListN.{take}
use Rattle.timecode.specs.Layout.{tabulate}
use Rattle.tape.specs.Tape.{blank_at}
use Rattle.tape.proofs.put_blank.Given as goal

abbrev pub invariant-loop-i : goal.invariant-loop-i
invariant-loop-i l = take l.i l.frame ≡ tabulate l.i 0 blank_at
