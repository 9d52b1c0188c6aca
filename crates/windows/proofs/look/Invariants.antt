use Rattle.windows.specs.Asking.{Looked}
use Rattle.windows.proofs.look.Given as goal

abbrev pub invariant-loop-i : goal.invariant-loop-i
invariant-loop-i l = Looked l.key l.starts l.ends l.count l.i l.mask l.next
