-- `control_in` meets its contract: the digits joined from the highest down.
use Rattle.digits.specs.Meaning.{control_from}
use Rattle.digits.proofs.control_in.Goals as goal

pub returns : goal.returns
unfolding control_from
returns c = rw (c.join.ensures.0, c.join-word2.ensures.0, c.join-word3.ensures.0, c.join-word4.ensures.0, c.width-4.ensures.0, c.width-3.ensures.0, c.width-2.ensures.0, c.width.ensures.0)
