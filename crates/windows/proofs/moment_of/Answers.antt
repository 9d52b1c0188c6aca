-- `moment_of` meets its contract.
use native.Mathlib.Omega.{arith}
use Rattle.calendar.proofs.Inverse.{has}
use Rattle.windows.proofs.moment_of.Goals as goal

pub overflow_sub-month : goal.overflow_sub-month
overflow_sub-month c = omega (arith, (has _ c.requires).month)

pub day_in-requires : goal.day_in-requires
day_in-requires c = (omega (arith, (has _ c.requires).month, (has _ c.requires).last_month), omega (arith, c.struct_known-2-1.given))
