use mathlib.Core.Path.{◌≡◌}
use mathlib.Core.Bool.{cond}
use lib.ListN.{get_or, length, take}
use Rattle.timecode.specs.Layout.{tabulate}
use Rattle.layout.specs.Tables.{full_widths, is_carried}
use Rattle.layout.proofs.widths_of.Given as goal

abbrev pub invariant-loop-run : goal.invariant-loop-run
invariant-loop-run l = (length l.widths ≡ 20) × (take l.run l.widths ≡ tabulate l.run 0 (λ j. cond (is_carried l.runs j) (get_or full_widths j 0) 0))
