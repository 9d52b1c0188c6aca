-- `put_field` meets its contract: it puts nothing where the field is as before.
use native.Mathlib.Omega.{arith}
use Rattle.log_write.specs.Parts.{field_room, field_put}
use Rattle.log_write.proofs.put_field.Goals as goal

pub put_number-requires : goal.put_number-requires
put_number-requires c = field_room _ _ _ _ _ c.if-number-before.false c.requires

pub overflow_add-result : goal.overflow_add-result
overflow_add-result c = omega (arith, field_room _ _ _ _ _ c.if-number-before.false c.requires, c.well_formed)

pub returns-else-number-before : goal.returns-else-number-before
returns-else-number-before c = field_put _ _ _ _ _ _ c.if-number-before.false c.put_number.ensures
