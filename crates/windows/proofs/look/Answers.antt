-- `look` meets its contract: the windows from i on.
use Rattle.windows.specs.Asking.{looked-start, looked-room, looked-turn}
use Rattle.windows.proofs.look.Goals as goal

pub loop-i-init : goal.loop-i-init
loop-i-init c = looked-start c.args.starts.now c.args.ends.now c.args.count c.requires.0 c.requires.1 c.requires.2 c.args.key

pub with_bit-mask-requires : goal.with_bit-mask-requires
with_bit-mask-requires c = looked-room c.args.starts.now c.args.ends.now c.args.count c.requires.0 c.requires.1 c.requires.2 c.args.key _ _ _ c.loop-i-test.true c.loop-i.invariant

pub loop-i-preserved : goal.loop-i-preserved
loop-i-preserved c = looked-turn c.args.starts.now c.args.ends.now c.args.count c.requires.0 c.requires.1 c.requires.2 c.args.key _ _ _ _ _ _ _ c.loop-i-test.true c.loop-i.invariant c.sooner_of.ensures c.sooner_of-next.ensures c.is_held.ensures c.with_bit-mask.ensures
