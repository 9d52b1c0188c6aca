-- `map_of` meets its contract: the four bits.
use native.Mathlib.Omega.{arith}
use Rattle.report_log.specs.Log.{fields_of, map_of}
use Rattle.log_record.proofs.map_of.Goals as goal

pub returns : goal.returns
unfolding fields_of map_of
returns c = omega (arith, c.bit-year.ensures.0, c.bit-control.ensures.0, c.bit-hundredths.ensures.0, c.bit-day.ensures.0)
