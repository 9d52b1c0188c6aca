-- `fill` meets its contract: the lines of the bytes taken stand in the first places.
use native.Mathlib.Omega.{arith}
use mathlib.Core.Path.{refl}
use Rattle.listing.specs.Parts.{listed_start, listed-turn}
use Rattle.listing.proofs.fill.Goals as goal

pub loop-taken-init : goal.loop-taken-init
loop-taken-init c = (omega arith, omega arith, c.requires, listed_start _ _ _, λ h. refl)

pub loop-taken-preserved : goal.loop-taken-preserved
loop-taken-preserved c = (c.part_end-end.ensures.1, c.hear-after.ensures.0, c.hear-after.ensures.1, listed-turn c.args.progress c.loop-taken.current _ c.args.bytes.now c.loop-taken.out _ c.loop-taken.taken c.loop-taken.filled _ _ (omega (arith, c.part_end-end.ensures.0)) c.loop-taken.invariant.3 c.hear-after.ensures.2 c.hear-after.ensures.3, λ h. let n : ⊥ = omega (arith, c.part_end-end.ensures.0) in absurd n)
