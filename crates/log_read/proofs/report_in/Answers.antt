-- `report_in` meets its contract: the four fields, each at its place.
use mathlib.Core.Path.{ap}
use Prim.Native.Nat.{ℕ, ◌+◌}
use native.Mathlib.Omega.{arith}
use lib.ListN.{get_or}
use Rattle.log_read.specs.Parsing.{four-sizes, report-read}
use Rattle.log_read.proofs.report_in.Goals as goal

pub field_in-day-requires : goal.field_in-day-requires
field_in-day-requires c = (omega (arith, c.requires, four-sizes c.args.before (get_or c.args.part.now 0 0), c.field_size-hundredths_at.ensures.0, c.field_size.ensures.0, c.field_size-2.ensures.0), omega arith)

pub field_in-hundredths-requires : goal.field_in-hundredths-requires
field_in-hundredths-requires c = (omega (arith, c.requires, four-sizes c.args.before (get_or c.args.part.now 0 0), c.field_size-hundredths_at.ensures.0, c.field_size.ensures.0, c.field_size-2.ensures.0), omega arith)

pub field_in-control-requires : goal.field_in-control-requires
field_in-control-requires c = (omega (arith, c.requires, four-sizes c.args.before (get_or c.args.part.now 0 0), c.field_size-hundredths_at.ensures.0, c.field_size.ensures.0, c.field_size-2.ensures.0), omega arith)

pub field_in-year-requires : goal.field_in-year-requires
field_in-year-requires c = (omega (arith, c.requires, four-sizes c.args.before (get_or c.args.part.now 0 0), c.field_size-hundredths_at.ensures.0, c.field_size.ensures.0, c.field_size-2.ensures.0), omega arith)

pub overflow_cast-result : goal.overflow_cast-result
overflow_cast-result c = record { fits = c.field_in-year.ensures.1 256 (omega (arith, c.struct_known-3-1.given)) (omega arith) }

pub overflow_cast-result-2 : goal.overflow_cast-result-2
overflow_cast-result-2 c = record { fits = c.field_in-day.ensures.1 65536 (omega (arith, c.struct_known-1.given)) (omega arith) }

pub overflow_cast-result-3 : goal.overflow_cast-result-3
overflow_cast-result-3 c = record { fits = c.field_in-hundredths.ensures.1 4294967296 (omega (arith, c.struct_known-2-1.given)) (omega arith) }

pub returns : goal.returns
returns c = report-read {part = c.args.part.now} {p = c.args.before} {m = get_or c.args.part.now 0 0} (record { second_at = ap (λ (k : ℕ). 1 + k) c.field_size-hundredths_at.ensures.0; third_at = ap (λ (k : ℕ). 1 + c.field_size-hundredths_at.result + k) c.field_size.ensures.0; fourth_at = ap (λ (k : ℕ). 1 + c.field_size-hundredths_at.result + c.field_size.result + k) c.field_size-2.ensures.0; day_is = c.field_in-day.ensures.0; hundredths_is = c.field_in-hundredths.ensures.0; control_is = c.field_in-control.ensures.0; year_is = c.field_in-year.ensures.0 })
