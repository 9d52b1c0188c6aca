-- `year_bits` meets its contract: the units as any digit, and four bits of the tens.
use native.Mathlib.Omega.{arith}
use Rattle.elements.specs.RunBits.{packed_year}
use Rattle.elements.proofs.year_bits.Goals as goal

pub returns : goal.returns
unfolding packed_year
returns c =
    let units = c.placed-units in
    rw c.requires.0 (omega (arith, rw c.requires.0 at units.ensures.0), omega (arith, units.ensures.1))
