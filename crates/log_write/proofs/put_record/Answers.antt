-- `put_record` meets its contract: the map, then each field behind the one before.
use Rattle.log_write.specs.Parts.{record-length, record-stored, room-1, room-2, room-3, room-4}
use native.Mathlib.Omega.{arith}
use Rattle.log_write.specs.Parts.{record-length, record-stored}
use Rattle.log_write.proofs.put_record.Goals as goal

pub bounds-part-0 : goal.bounds-part-0
bounds-part-0 c = omega (arith, record-length c.args.before c.args.report)

pub put_field-first-requires : goal.put_field-first-requires
put_field-first-requires c = room-1 c.args.before c.args.report c.args.part.now c.map_of.result c.requires

pub put_field-second-requires : goal.put_field-second-requires
put_field-second-requires c = room-2 c.args.before c.args.report c.args.part.now c.map_of.result c.requires _ _ c.put_field-first.ensures.1 c.put_field-first.ensures.0

pub put_field-third-requires : goal.put_field-third-requires
put_field-third-requires c = room-3 c.args.before c.args.report c.args.part.now c.map_of.result c.requires _ _ c.put_field-first.ensures.1 c.put_field-first.ensures.0 _ _ c.put_field-second.ensures.1 c.put_field-second.ensures.0

pub put_field-requires : goal.put_field-requires
put_field-requires c = room-4 c.args.before c.args.report c.args.part.now c.map_of.result c.requires _ _ c.put_field-first.ensures.1 c.put_field-first.ensures.0 _ _ c.put_field-second.ensures.1 c.put_field-second.ensures.0 _ _ c.put_field-third.ensures.1 c.put_field-third.ensures.0

pub returns : goal.returns
returns c = record-stored (record { map_is = c.map_of.ensures; day = c.put_field-first.ensures.1; second_is = c.put_field-first.ensures.0; hundredths = c.put_field-second.ensures.1; third_is = c.put_field-second.ensures.0; control = c.put_field-third.ensures.1; fourth_is = c.put_field-third.ensures.0; year = c.put_field.ensures.1 })
