-- `put_symbols` meets its contract: the symbols below i are set.
use Rattle.std.proofs.Common.{refl, length, arith}
use Rattle.manchester_decode.specs.Decoding.{symbol-filled, symbols-filled}
use Rattle.manchester_decode.proofs.put_symbols.Goals as goal

pub loop-i-preserved : goal.loop-i-preserved
loop-i-preserved c = symbol-filled c.args.count c.args.cycles.now c.loop-i.frame c.loop-i.i _ _ refl (omega arith) c.symbol_in.ensures c.loop-i.invariant

pub returns : goal.returns
returns c = symbols-filled c.args.count c.args.cycles.now c.loop-i.frame c.loop-i.i (length c.args.frame.now) (omega arith) (omega arith) c.loop-i.invariant
