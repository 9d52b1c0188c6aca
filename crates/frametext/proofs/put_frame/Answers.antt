-- `put_frame` meets its contract: what stands, followed by the rest of the frame, is the whole line.
use native.Mathlib.Omega.{arith}
use mathlib.Core.Path.{◌≡◌, ◌∙◌}
use lib.ListN.{length, take}
use Rattle.frametext.proofs.Putting.{frame-turn, frame-done}
use Rattle.frametext.proofs.put_frame.Goals as goal

pub loop-i-preserved : goal.loop-i-preserved
loop-i-preserved c =
    record {
      room = omega (arith, c.put_element-end.ensures.0, c.loop-i.invariant.room);
      long = c.put_element-end.ensures.1 ∙ c.loop-i.invariant.long;
      whole = frame-turn (take c.loop-i.end c.loop-i.line) _ c.args.frame.now _ c.loop-i.i (omega arith) c.loop-i.invariant.whole c.put_element-end.ensures.2;
    }

pub returns : goal.returns
returns c = let all : c.loop-i.i ≡ length c.args.frame.now = omega arith in (omega (arith, c.put.ensures.0, c.loop-i.invariant.room, c.requires), c.put.ensures.1 ∙ c.loop-i.invariant.long, c.put.ensures.2 ∙ frame-done (take c.loop-i.end c.loop-i.line) c.args.frame.now _ c.loop-i.i all c.loop-i.invariant.whole)
