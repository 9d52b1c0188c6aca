use Rattle.log_write.specs.Parts.{PutTo}
use Rattle.log_write.proofs.put_number.Given as goal

abbrev pub invariant-loop-i : goal.invariant-loop-i
invariant-loop-i l = PutTo l.initial.part l.at l.width l.number l.part l.rest l.i
