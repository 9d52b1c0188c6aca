-- `write_tape` meets its contract: the digits of hours, minutes and seconds over what stands where none does.
use mathlib.Core.Path.{◌∙◌}
use Prim.Native.Nat.{◌/◌}
use Rattle.tape.specs.Tape.{blank-long, tape-put, is-written}
use Rattle.tape.proofs.write_tape.Goals as goal

pub returns : goal.returns
returns c =
    let time = c.args.time in
    let long = c.put_number-3.ensures.long ∙ c.put_number-2.ensures.long ∙ c.put_number.ensures.long ∙ blank-long _ c.put_blank.ensures in
    let put = tape-put (time.hundredths / 100) _ _ _ (rw c.put_blank.ensures at c.put_number.ensures) c.put_number-2.ensures c.put_number-3.ensures in
    (long, λ f control x v. is-written f time control _ x v put)
