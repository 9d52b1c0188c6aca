-- `first_improper` meets its contract: the first cycle that is not proper.
use Rattle.std.proofs.Common.{rules}
use Rattle.manchester_decode.specs.Decoding.{improper-is}
use Rattle.manchester_decode.proofs.first_improper.Goals as goal

pub returns : goal.returns
returns c = improper-is c.args.cycles.now _ (search rules) (search rules) (search rules)
