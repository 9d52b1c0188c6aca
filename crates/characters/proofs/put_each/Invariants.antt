use Rattle.std.proofs.Common.{length}
use Rattle.characters.specs.Decoding.{EachPut}
use Rattle.characters.proofs.put_each.Given as goal

abbrev pub invariant-loop-i : goal.invariant-loop-i
invariant-loop-i l = EachPut l.bytes (length l.initial.symbols) l.i l.most l.symbols
