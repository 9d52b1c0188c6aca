-- `generate` meets its contract: all but the frames left are put.
use native.Mathlib.Omega.{arith}
use mathlib.Core.Path.{refl}
use Rattle.generator.proofs.Lines.{put-start, put-turn}
use Rattle.generator.proofs.generate.Goals as goal

pub loop-left-init : goal.loop-left-init
loop-left-init c = (omega arith, omega arith, put-start _ _ _ _ _ _, λ h. refl)

pub loop-left-preserved : goal.loop-left-preserved
loop-left-preserved c = (omega arith, c.put_next-filled.ensures.0, put-turn _ _ _ _ _ _ _ _ _ _ _ _ (omega arith) c.loop-left.invariant.0 c.loop-left.invariant.2 c.put_next-filled.ensures.1 c.next_start-next.ensures, λ h. let n : ⊥ = omega arith in absurd n)
