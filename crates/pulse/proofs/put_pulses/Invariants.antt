use mathlib.Core.Path.{◌≡◌}
use lib.ListN.{take}
use Rattle.timecode.specs.Layout.{tabulate}
use Rattle.pulse.specs.Pulses.{pulse}
use Rattle.pulse.proofs.put_pulses.Given as goal

abbrev pub invariant-loop-i : goal.invariant-loop-i
invariant-loop-i l = (take l.i l.symbols ≡ tabulate l.i 0 (λ j. (pulse l.settings l.interval l.widths l.periods j).symbol)) × (take l.i l.deviations ≡ tabulate l.i 0 (λ j. (pulse l.settings l.interval l.widths l.periods j).deviation))
