-- `decode` meets its contract: done with every symbol set, or refused with the frame as it was.
use Rattle.std.proofs.lemmas.Result.{err_from_is_err_and}
use mathlib.Core.Path.{sym, ◌∙◌}
use Rattle.manchester_decode.specs.Decoding.{decode-room, decode-done, decode-improper, decode-refused}
use Rattle.manchester_decode.proofs.decode.Goals as goal

pub put_symbols-requires : goal.put_symbols-requires
put_symbols-requires c = decode-room c.args.format c.args.count c.args.cycles.now c.args.frame.now (sym c.check_frame.ensures ∙ c.in_ok-check_frame.was)

pub returns-then-are_proper : goal.returns-then-are_proper
returns-then-are_proper c = decode-done c.args.format c.args.count c.args.cycles.now c.args.frame.now _ (sym c.check_frame.ensures ∙ c.in_ok-check_frame.was) (sym c.are_proper.ensures ∙ c.if-are_proper.true) c.put_symbols.ensures

pub returns : goal.returns
returns c = decode-improper c.args.format c.args.count c.args.cycles.now c.args.frame.now _ (sym c.check_frame.ensures ∙ c.in_ok-check_frame.was) (sym c.are_proper.ensures ∙ c.if-are_proper.false) c.first_improper.ensures

pub returns-in_err-check_frame : goal.returns-in_err-check_frame
returns-in_err-check_frame c =
    let p = err_from_is_err_and c.from_residual.result c.from_residual.ensures.1 in
    rw (p.1, p.2) (decode-refused c.args.format c.args.count c.args.cycles.now c.args.frame.now _ (sym c.check_frame.ensures ∙ c.in_err-check_frame.was))
