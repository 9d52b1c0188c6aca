use Rattle.std.proofs.Common.{◌≡◌, take}
use Rattle.timecode.specs.Layout.{tabulate}
use Rattle.cycles.specs.Cycles.{symbol_in, cycles_at}
use Rattle.manchester_decode.proofs.put_symbols.Given as goal

abbrev pub invariant-loop-i : goal.invariant-loop-i
invariant-loop-i l = take l.i l.frame ≡ tabulate l.i 0 (λ i. symbol_in l.count (cycles_at l.count l.cycles i))
