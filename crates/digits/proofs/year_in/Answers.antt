-- `year_in` meets its contract: two digits make a number below 100.
use native.Mathlib.Omega.{arith}
use Rattle.digits.specs.Meaning.{year-99}
use Rattle.digits.proofs.year_in.Goals as goal

pub overflow_cast-result : goal.overflow_cast-result
overflow_cast-result c = omega (arith, c.pair.ensures.0, year-99 c.args.digits.now c.requires.1)
