use Prim.Native.Nat.{◌-◌}
use Rattle.register.specs.Receiving.{SymbolsPut}
use Rattle.register.proofs.put_symbols.Given as goal

abbrev pub invariant-loop-j : goal.invariant-loop-j
invariant-loop-j l = SymbolsPut l.word l.at l.initial.bytes l.j l.bytes
