use Rattle.receive_many.specs.ManySymbols.{slice, push_all}
use Prim.Native.Nat.{◌-◌, ◌≤◌, ◌%◌}
use mathlib.Core.Path.{◌≡◌}
use Rattle.receive_many.proofs.push_all.Given as goal

abbrev pub invariant-loop-i : goal.invariant-loop-i
invariant-loop-i l = (l.from ≤ l.i) × (l.i ≤ l.whole) × ((l.whole - l.i) % 4 ≡ 0) × (push_all l.word (slice l.symbols l.from l.to) ≡ push_all l.newest (slice l.symbols l.i l.to))

abbrev pub invariant-loop-k : goal.invariant-loop-k
invariant-loop-k l = push_all l.word (slice l.symbols l.from l.to) ≡ push_all l.newest (slice l.symbols l.k l.to)
