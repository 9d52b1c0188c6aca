-- `record_size` meets its contract: the four widths.
use native.Mathlib.Omega.{arith}
use Rattle.report_log.specs.Log.{fields_of, size_of}
use Rattle.log_record.proofs.record_size.Goals as goal

pub returns : goal.returns
unfolding fields_of size_of
returns c = (λ p. omega (arith, c.field_size-year.ensures.0, c.field_size-control.ensures.0, c.field_size-hundredths.ensures.0, c.field_size-day.ensures.0), omega arith)
