-- `float_of` meets its contract: by the place of the infinities.
use Rattle.floats.specs.Patterns.{above-infinity, up_to_infinity}
use Rattle.floats.proofs.float_of.Goals as goal

pub returns-then-bits-gt-INFINITE : goal.returns-then-bits-gt-INFINITE
returns-then-bits-gt-INFINITE c = above-infinity c.args.bits c.if-bits-gt-INFINITE.true

pub float_from_bits-result : goal.float_from_bits-result
float_from_bits-result c = up_to_infinity c.args.bits c.if-bits-gt-INFINITE.false
