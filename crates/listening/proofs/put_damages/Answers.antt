-- `put_damages` meets its contract.
use Rattle.listening.specs.FrameDamages.{put-start, put-more, put-none}
use native.Mathlib.Omega.{arith}
use Rattle.listening.proofs.put_damages.Goals as goal

pub loop-at-init : goal.loop-at-init
loop-at-init c = put-start c.requires.3

pub loop-at-preserved-then-number-past : goal.loop-at-preserved-then-number-past
loop-at-preserved-then-number-past c = put-none c.loop-at.invariant c.loop-at-test.true (omega (arith, c.if-end-number.false)) c.if-number-past.true

pub loop-at-preserved : goal.loop-at-preserved
loop-at-preserved c = put-more c.loop-at.invariant c.loop-at-test.true (omega (arith, c.if-end-number.false)) (omega (arith, c.if-number-past.false))
