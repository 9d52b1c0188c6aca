-- `put_where_fits` meets its contract.
use native.Mathlib.Omega.{arith}
use Rattle.log_write.specs.Parts.{sizes, fits-put, fits_not}
use Rattle.log_write.proofs.put_where_fits.Goals as goal

pub put_record-requires : goal.put_record-requires
put_record-requires c = omega (arith, sizes c.args.before c.args.report _ (rw c.map_of.ensures at c.record_size-size.ensures.0))

pub returns-then-size-log : goal.returns-then-size-log
returns-then-size-log c = fits-put _ _ _ _ _ c.requires (sizes _ _ _ (rw c.map_of.ensures at c.record_size-size.ensures.0)) c.if-size-log.true c.put_record.ensures

pub returns : goal.returns
returns c = fits_not _ _ _ _ c.requires (sizes _ _ _ (rw c.map_of.ensures at c.record_size-size.ensures.0)) c.if-size-log.false
