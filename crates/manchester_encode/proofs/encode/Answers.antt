-- `encode` meets its contract: done with every cycle set, or refused with the cycles as they were.
use Rattle.std.proofs.lemmas.Result.{err_from_is_err_and}
use mathlib.Core.Path.{sym, ◌∙◌}
use Rattle.manchester_encode.specs.Encoding.{encode-room, encode-done, encode-spoiled, encode-refused}
use Rattle.manchester_encode.proofs.encode.Goals as goal

pub put_cycles-requires : goal.put_cycles-requires
put_cycles-requires c =
    let room = encode-room c.args.format c.args.count c.args.frame.now c.args.cycles.now (sym c.check_frame.ensures ∙ c.in_ok-check_frame.was) in
    (room.0, room.1, room.2, sym c.is_unspoiled.ensures ∙ c.if-is_unspoiled.true, room.3, room.4)

pub returns-then-is_unspoiled : goal.returns-then-is_unspoiled
returns-then-is_unspoiled c = encode-done c.args.format c.args.count c.args.frame.now c.args.cycles.now _ (sym c.check_frame.ensures ∙ c.in_ok-check_frame.was) (sym c.is_unspoiled.ensures ∙ c.if-is_unspoiled.true) c.put_cycles.ensures

pub returns : goal.returns
returns c = encode-spoiled c.args.format c.args.count c.args.frame.now c.args.cycles.now (sym c.check_frame.ensures ∙ c.in_ok-check_frame.was) (sym c.is_unspoiled.ensures ∙ c.if-is_unspoiled.false)

pub returns-in_err-check_frame : goal.returns-in_err-check_frame
returns-in_err-check_frame c =
    let p = err_from_is_err_and c.from_residual.result c.from_residual.ensures.1 in
    rw (p.1, p.2) (encode-refused c.args.format c.args.count c.args.frame.now c.args.cycles.now _ (sym c.check_frame.ensures ∙ c.in_err-check_frame.was))
