-- `hear_run` meets its contract.
use Rattle.simulate.specs.Results.{valid-time, run-start, run-listens-n, run-more-n}
use native.Mathlib.Omega.{arith}
use Rattle.simulate.proofs.hear_run.Goals as goal

pub loop-i-init : goal.loop-i-init
loop-i-init c = run-start _ _ _ _ _ _ _ _ c.requires.1 c.requires.2 _ c.requires.0 _ c.begin_all-all.ensures

pub frame_of-frame-requires : goal.frame_of-frame-requires
frame_of-frame-requires c = (c.frame_size-n.ensures.0, c.frame_size-n.ensures.2, valid-time _ _ _ c.loop-i.invariant.steps)

pub listen_all-heard-requires : goal.listen_all-heard-requires
listen_all-heard-requires c = (omega (arith, c.requires.1.few, c.requires.1.as_many), c.loop-i.invariant.all_after.long, run-listens-n _ _ _ _ _ _ _ _ _ c.frame_size-n.ensures.0 c.requires.1 c.requires.2 c.loop-i.invariant c.loop-i-test.true _ c.frame_of-frame.ensures (omega (arith, c.well_formed)))

pub loop-i-preserved : goal.loop-i-preserved
loop-i-preserved c = run-more-n _ _ _ _ _ _ _ _ _ c.frame_size-n.ensures.0 c.requires.1 c.requires.2 c.loop-i.invariant c.loop-i-test.true _ c.frame_of-frame.ensures _ c.listen_all-heard.ensures _ c.time_after-time.ensures
