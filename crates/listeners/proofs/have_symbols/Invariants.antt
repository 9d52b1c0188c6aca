use Rattle.listeners.specs.Indexes.{every_index}
use Rattle.timecode.specs.Formats.{is_symbol}
use Prim.Native.Nat.{◌-◌}
use lib.ListN.{get_or}
use mathlib.Core.Path.{◌≡◌}
use Rattle.listeners.proofs.have_symbols.Given as goal

abbrev pub invariant-loop-i : goal.invariant-loop-i
invariant-loop-i l = (every_index (λ j. is_symbol (get_or l.symbols j 0)) (l.to - l.from) l.from ≡ every_index (λ j. is_symbol (get_or l.symbols j 0)) (l.to - l.i) l.i)
