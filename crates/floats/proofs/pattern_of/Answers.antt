-- `pattern_of` meets its contract: no number differs from itself.
use Rattle.floats.specs.Patterns.{differs, agrees}
use Rattle.floats.proofs.pattern_of.Goals as goal

pub returns-then-float : goal.returns-then-float
returns-then-float c = differs c.args.float c.if-float.true

pub float_to_bits-result : goal.float_to_bits-result
float_to_bits-result c = (agrees c.args.float c.if-float.false).0

pub returns-else-float : goal.returns-else-float
returns-else-float c = (agrees c.args.float c.if-float.false).1
