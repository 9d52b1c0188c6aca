-- `print_frames` meets its contract: the next frame is the first one left.
use Rattle.std.proofs.Common.{◌-◌, ◌≤◌, ◌≡◌}
use Rattle.generator.specs.Sending.{start_of}
use Rattle.timewrite.proofs.print_frames.Given as goal

abbrev pub invariant-loop-left : goal.invariant-loop-left
invariant-loop-left l = (l.left ≤ l.initial.left) × (l.next ≡ start_of l.request.format l.initial.next l.request.given (l.initial.left - l.left))

abbrev pub decreases-loop-left : goal.decreases-loop-left
decreases-loop-left l = l.left
