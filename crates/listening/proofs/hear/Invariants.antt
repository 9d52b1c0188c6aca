use Rattle.listening.specs.Counted.{HeardTo}
use Prim.Native.Nat.{◌-◌, ◌≤◌}
use Rattle.listening.proofs.hear.Given as goal

abbrev pub invariant-loop-i : goal.invariant-loop-i
invariant-loop-i l = (l.i ≤ l.n) × HeardTo l.initial.current l.initial.counted l.end l.sent l.past l.symbols l.i l.current l.counted

abbrev pub decreases-loop-i : goal.decreases-loop-i
decreases-loop-i l = l.n - l.i
