-- `put_short_element` meets its contract: its two runs.
use native.Mathlib.Omega.{arith}
use Rattle.cycles.proofs.Elements.{highs-within}
use Rattle.manchester_encode.proofs.put_short_element.Goals as goal

pub put_run-requires : goal.put_run-requires
put_run-requires c = (omega arith, omega (arith, c.highs_of.ensures.0, highs-within 10 c.args.symbol))

pub put_run-requires-2 : goal.put_run-requires-2
put_run-requires-2 c = (omega (arith, c.highs_of.ensures.0, highs-within 10 c.args.symbol), omega (arith, c.put_run.ensures.0))
