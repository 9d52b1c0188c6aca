use Rattle.listeners.specs.Indexes.{every_index, damages_fit}
use Rattle.simulation.specs.Lent.{start_of}
use Prim.Native.Nat.{◌-◌}
use lib.ListN.{get_or, length}
use mathlib.Core.Path.{◌≡◌}
use Rattle.listeners.proofs.listeners_fit.Given as goal

abbrev pub invariant-loop-end : goal.invariant-loop-end
invariant-loop-end l = (l.from ≡ start_of l.ends l.end-index) × (every_index (λ i. damages_fit l.numbers l.symbols (start_of l.ends i) (get_or l.ends i 0)) (length l.ends - 0) 0 ≡ every_index (λ i. damages_fit l.numbers l.symbols (start_of l.ends i) (get_or l.ends i 0)) (length l.ends - l.end-index) l.end-index)
