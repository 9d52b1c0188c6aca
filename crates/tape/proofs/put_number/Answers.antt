-- `put_number` meets its contract: tens, then units.
use Rattle.tape.specs.Tape.{number_put}
use Rattle.tape.proofs.put_number.Goals as goal

pub returns : goal.returns
returns c = number_put c.args.start c.args.tens c.args.number c.args.frame.now _ _ c.put_digit.ensures c.put_digit-2.ensures
