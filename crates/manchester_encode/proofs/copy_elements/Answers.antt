-- `copy_elements` meets its contract: the elements below i are copied, and then the last one.
use native.Mathlib.Omega.{arith}
use mathlib.Core.Path.{◌≡◌, refl, ◌∙◌}
use Prim.Native.Nat.{◌+◌, ◌-◌, ◌*◌}
use native.Mathlib.Nat.{zero-mul}
use lib.ListN.{get_or, length}
use Rattle.cycles.proofs.Frames.{unspoiled-at, room_for, next-at}
use Rattle.manchester_encode.specs.Encoding.{all_set, none-set, element-next, starts-length, part_room, fewer-copied, element-copied}
use Rattle.manchester_encode.proofs.copy_elements.Goals as goal

pub loop-i-init : goal.loop-i-init
loop-i-init g c = record { long = refl; put = rw (zero-mul c.args.count) (none-set c.args.count c.args.frame.now) }

pub bounds-starts-frame : goal.bounds-starts-frame
bounds-starts-frame g c = omega (arith, unspoiled-at c.args.frame.now c.loop-i.i c.requires.6 (omega arith), starts-length c.args.count c.args.starts.now c.requires.5)

pub copy_blocks-requires : goal.copy_blocks-requires
copy_blocks-requires g c =
    let l = c.loop-i in
    let known = unspoiled-at c.args.frame.now l.i c.requires.6 (omega arith) in
    let room = room_for c.args.count c.args.frame.now c.args.cycles.now (l.i + 1) (l.i * c.args.count + c.args.count) (omega arith) (next-at c.args.count l.i (l.i * c.args.count) refl) c.requires.8 in
    (c.requires.0, part_room c.args.count (get_or c.args.frame.now l.i 0) _ c.args.starts.now c.args.levels.now known c.requires.5 c.requires.4 (omega (arith, c.requires.0)), omega (arith, l.invariant.long, room, c.requires.1))

pub loop-i-preserved : goal.loop-i-preserved
loop-i-preserved g c =
    let l = c.loop-i in
    let at = l.i * c.args.count in
    let s = get_or c.args.frame.now l.i 0 in
    let known = unspoiled-at c.args.frame.now l.i c.requires.6 (omega arith) in
    let room = room_for c.args.count c.args.frame.now c.args.cycles.now l.i at (omega arith) refl c.requires.8 in
    let copied = fewer-copied c.args.levels.now (get_or c.args.starts.now s 0) l.cycles _ at c.args.count _ c.requires.2 (omega (arith, l.invariant.long, room)) c.copy_blocks.ensures in
    record {
      long = c.copy_blocks.ensures.0 ∙ l.invariant.long;
      put = rw (← next-at c.args.count l.i at refl) (element-next c.args.count c.args.frame.now l.cycles _ l.i at (omega arith) l.invariant.put (element-copied c.args.count s c.args.starts.now c.args.levels.now l.cycles _ at c.requires.3 known c.requires.5 c.requires.4 copied));
    }

pub bounds-starts-frame-2 : goal.bounds-starts-frame-2
bounds-starts-frame-2 g c = omega (arith, unspoiled-at c.args.frame.now (length c.args.frame.now - 1) c.requires.6 (omega arith), starts-length c.args.count c.args.starts.now c.requires.5)

pub copy_cycles-requires : goal.copy_cycles-requires
copy_cycles-requires g c =
    let k = length c.args.frame.now - 1 in
    let known = unspoiled-at c.args.frame.now k c.requires.6 (omega arith) in
    let room = room_for c.args.count c.args.frame.now c.args.cycles.now k (k * c.args.count) (omega arith) refl c.requires.8 in
    (part_room c.args.count (get_or c.args.frame.now k 0) c.args.count c.args.starts.now c.args.levels.now known c.requires.5 c.requires.4 (omega arith), omega (arith, c.loop-i.invariant.long, room))

pub returns : goal.returns
returns g c =
    let l = c.loop-i in
    let k = length c.args.frame.now - 1 in
    let at = k * c.args.count in
    let end : l.i ≡ k = omega arith in
    let before = rw end at l.invariant.put in
    let known = unspoiled-at c.args.frame.now k c.requires.6 (omega arith) in
    let done = c.copy_cycles.ensures in
    all_set c.args.count c.args.frame.now _ (k + 1) (at + c.args.count) (omega arith) (next-at c.args.count k at refl) (done.0 ∙ l.invariant.long ∙ c.requires.8) (element-next c.args.count c.args.frame.now l.cycles _ k at (omega arith) before (element-copied c.args.count (get_or c.args.frame.now k 0) c.args.starts.now c.args.levels.now l.cycles _ at c.requires.3 known c.requires.5 c.requires.4 done))
