-- `copy_short_elements` meets its contract: the elements below i are copied, and then the last one.
use native.Mathlib.Omega.{arith}
use mathlib.Core.Path.{◌≡◌, refl, ◌∙◌}
use Prim.Native.Nat.{◌+◌, ◌-◌, ◌*◌}
use lib.ListN.{get_or, length}
use Rattle.cycles.proofs.Frames.{unspoiled-at, next-at}
use Rattle.manchester_encode.specs.Encoding.{all_set, none-set, element-next, shorts-length, fewer-copied, short-copied}
use Rattle.manchester_encode.proofs.copy_short_elements.Goals as goal

pub loop-i-init : goal.loop-i-init
loop-i-init c = record { long = refl; put = none-set 10 c.args.frame.now }

pub copy_block-requires : goal.copy_block-requires
copy_block-requires c =
    let l = c.loop-i in
    let known = unspoiled-at c.args.frame.now l.i c.requires.1 (omega arith) in
    (omega (arith, known, shorts-length c.args.elements.now c.requires.0), omega (arith, l.invariant.long, c.requires.3))

pub loop-i-preserved : goal.loop-i-preserved
loop-i-preserved c =
    let l = c.loop-i in
    let s = get_or c.args.frame.now l.i 0 in
    let known = unspoiled-at c.args.frame.now l.i c.requires.1 (omega arith) in
    let copied = fewer-copied c.args.elements.now (16 * s) l.cycles _ (l.i * 10) 10 16 (omega arith) (omega (arith, l.invariant.long, c.requires.3)) c.copy_block.ensures in
    record {
      long = c.copy_block.ensures.0 ∙ l.invariant.long;
      put = rw (← next-at 10 l.i (l.i * 10) refl) (element-next 10 c.args.frame.now l.cycles _ l.i (l.i * 10) (omega arith) l.invariant.put (short-copied s c.args.elements.now l.cycles _ (l.i * 10) known c.requires.0 copied));
    }

pub copy_cycles-requires : goal.copy_cycles-requires
copy_cycles-requires c =
    let known = unspoiled-at c.args.frame.now (length c.args.frame.now - 1) c.requires.1 (omega arith) in
    (omega (arith, known, shorts-length c.args.elements.now c.requires.0), omega (arith, c.loop-i.invariant.long, c.requires.3))

pub returns : goal.returns
returns c =
    let l = c.loop-i in
    let k = length c.args.frame.now - 1 in
    let end : l.i ≡ k = omega arith in
    let before = rw end at l.invariant.put in
    let known = unspoiled-at c.args.frame.now k c.requires.1 (omega arith) in
    let done = c.copy_cycles.ensures in
    all_set 10 c.args.frame.now _ (k + 1) (k * 10 + 10) (omega arith) (next-at 10 k (k * 10) refl) (done.0 ∙ l.invariant.long ∙ c.requires.3) (element-next 10 c.args.frame.now l.cycles _ k (k * 10) (omega arith) before (short-copied (get_or c.args.frame.now k 0) c.args.elements.now l.cycles _ (k * 10) known c.requires.0 done))
