-- `is_in` meets its contract: between the ends of the symbol's class.
use native.Mathlib.Omega.{arith}
use Rattle.pulse.specs.Pulses.{class-usable}
use Rattle.pulse.proofs.is_in.Goals as goal

pub overflow_sub-centre : goal.overflow_sub-centre
overflow_sub-centre c = omega (arith, class-usable c.args.settings c.args.symbol _ c.requires.0 c.requires.1 c.class_of-class.ensures)

pub overflow_add-centre : goal.overflow_add-centre
overflow_add-centre c = omega (arith, class-usable c.args.settings c.args.symbol _ c.requires.0 c.requires.1 c.class_of-class.ensures)
