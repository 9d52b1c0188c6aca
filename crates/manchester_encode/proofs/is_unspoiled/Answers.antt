-- `is_unspoiled` meets its contract: the largest so far and what is left decide.
use native.Mathlib.Omega.{arith}
use Rattle.manchester_encode.specs.Encoding.{larger-of, unspoiled-on, unspoiled-end}
use Rattle.manchester_encode.proofs.is_unspoiled.Goals as goal

pub loop-symbol-preserved : goal.loop-symbol-preserved
loop-symbol-preserved c = unspoiled-on c.args.frame.now c.loop-symbol.symbol-index c.loop-symbol.largest _ c.loop-symbol-test.true (larger-of _ _ _ c.max-largest.ensures) c.loop-symbol.invariant

pub returns : goal.returns
returns c = unspoiled-end c.args.frame.now c.loop-symbol.symbol-index c.loop-symbol.largest (omega arith) c.loop-symbol.invariant
