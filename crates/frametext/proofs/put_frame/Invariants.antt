use mathlib.Core.Path.{◌≡◌}
use mathlib.Core.List.{◌++◌}
use Prim.Native.Nat.{◌*◌, ◌≤◌}
use lib.ListN.{length, take, drop}
use Rattle.frametext.specs.Characters.{frame_text}
use Rattle.frametext.proofs.put_frame.Given as goal

abbrev pub invariant-loop-i : goal.invariant-loop-i
invariant-loop-i l = record { room : l.end ≤ 2 * l.i; long : length l.line ≡ 256; whole : take l.end l.line ++ frame_text l.i (drop l.i l.frame) ≡ frame_text 0 l.frame }
