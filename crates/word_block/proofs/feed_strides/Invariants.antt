use Prim.Native.Nat.{◌-◌}
use lib.ListN.{length}
use Rattle.block.specs.Blocks.{lists}
use Rattle.word_block.specs.WordBlocks.{FedIn}
use Rattle.word_block.proofs.feed_strides.Given as goal

abbrev pub invariant-loop-i : goal.invariant-loop-i
invariant-loop-i l = FedIn l.initial.reader l.n l.symbols (lists l.initial.indexes l.initial.years l.initial.days l.initial.hundredths l.initial.controls) l.i l.reports (lists l.indexes l.years l.days l.hundredths l.controls) l.reader

abbrev pub decreases-loop-i : goal.decreases-loop-i
decreases-loop-i l = length l.symbols - l.i
