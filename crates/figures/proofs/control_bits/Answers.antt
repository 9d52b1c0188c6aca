-- `control_bits` meets its contract: nine for each range that is carried.
use Rattle.figures.specs.Ranges.{control_in}
use Rattle.figures.proofs.control_bits.Goals as goal

pub returns : goal.returns
unfolding control_in
returns c = rw (c.bits_in.ensures.0, c.bits_in-2.ensures.0, c.bits_in-3.ensures.0, c.bits_in-4.ensures.0, c.bits_in-5.ensures.0)
