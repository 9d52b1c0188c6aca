use mathlib.Core.Path.{◌≡◌}
use Prim.Native.Nat.{◌/◌, ◌^◌}
use Rattle.lines.specs.Text.{digit_at}
use Rattle.lines.specs.Filling.{Filled}
use Rattle.lines.proofs.put_digits.Given as goal

abbrev pub invariant-loop-i : goal.invariant-loop-i
invariant-loop-i l = record { left : l.rest ≡ l.number / l.base ^ l.i; put : Filled l.initial.line l.line l.at l.width l.i (digit_at l.base l.width l.number) }
