-- `when_whole_here` meets its contract.
use Rattle.stride.specs.Strides.{whole-way}
use Rattle.stride.proofs.when_whole_here.Goals as goal

pub returns-then-to-from : goal.returns-then-to-from
returns-then-to-from c = whole-way c.args.reader c.args.n _ c.read-reading.result c.reader_with_reading.result c.requires.0 c.if-received-n.true (c.requires.4 c.if-to-from.true c.if-received-n.true) c.read-reading.ensures c.reader_with_reading.ensures
