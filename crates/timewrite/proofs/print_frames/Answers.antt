use Rattle.std.proofs.Common.{arith}
use Rattle.generator.proofs.Lines.{starts_first}
use Rattle.generator.proofs.Generators.{starts-turn}
use Rattle.timewrite.proofs.print_frames.Goals as goal

pub loop-left-init : goal.loop-left-init
loop-left-init c = (omega arith, starts_first _ _ _ _)

pub loop-left-preserved : goal.loop-left-preserved
loop-left-preserved c = (
  omega (arith, c.generate-generated.ensures.1, c.loop-left.invariant.0),
  starts-turn _ _ c.loop-left.next _ _ _ c.loop-left.left _ c.loop-left.invariant.0 c.generate-generated.ensures.1 c.loop-left.invariant.1 c.generate-generated.ensures.2,
)

pub returns-then-not-write_first : goal.returns-then-not-write_first
returns-then-not-write_first c = (
  omega (arith, c.generate-generated.ensures.1, c.loop-left.invariant.0),
  starts-turn _ _ c.loop-left.next _ _ _ c.loop-left.left _ c.loop-left.invariant.0 c.generate-generated.ensures.1 c.loop-left.invariant.1 c.generate-generated.ensures.2,
)
