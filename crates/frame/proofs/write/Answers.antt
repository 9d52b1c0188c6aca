-- `write` meets its contract: done as checked, or refused with the frame as it was.
use Rattle.std.proofs.lemmas.Result.{err_from_is_err_and}
use mathlib.Core.Path.{refl, sym, ◌∙◌}
use lib.ListN.{length}
use Rattle.timecode.proofs.Demands.{refused-write-leaves}
use Rattle.timecode.proofs.Laws.Table.{x-size}
use Rattle.timecode.proofs.Laws.Writing.{taken, leaves}
use Rattle.frame.specs.Exits.{is-frame}
use Rattle.frame.proofs.write.Goals as goal

pub write_tape-requires : goal.write_tape-requires
write_tape-requires c =
    let start = c in
    let f = start.args.format in
    let done = sym (c.check_write.ensures f start.args.frame.now c.row_of-row.ensures c.is_x-x.ensures refl refl) ∙ c.in_ok-check_write.was in
    let t = taken f start.args.time start.args.control start.args.frame.now done in
    t.1 ∙ x-size f (sym c.is_x-x.ensures ∙ c.if-x.true)

pub returns-then-x : goal.returns-then-x
returns-then-x c =
    let start = c in
    let f = start.args.format in
    let done = sym (c.check_write.ensures f start.args.frame.now c.row_of-row.ensures c.is_x-x.ensures refl refl) ∙ c.in_ok-check_write.was in
    let t = taken f start.args.time start.args.control start.args.frame.now done in
    (sym done, c.write_tape.ensures.1 f start.args.control (sym c.is_x-x.ensures ∙ c.if-x.true) t.0 ∙ sym (leaves f start.args.time start.args.control start.args.frame.now done))

pub put_frame-requires : goal.put_frame-requires
put_frame-requires c =
    let start = c in
    let f = start.args.format in
    let done = sym (c.check_write.ensures f start.args.frame.now c.row_of-row.ensures c.is_x-x.ensures refl refl) ∙ c.in_ok-check_write.was in
    let t = taken f start.args.time start.args.control start.args.frame.now done in
    ((f, c.row_of-row.ensures), is-frame f (length start.args.frame.now) (sym c.is_x-x.ensures ∙ c.if-x.false) t.1)

pub returns : goal.returns
returns c =
    let start = c in
    let f = start.args.format in
    let done = sym (c.check_write.ensures f start.args.frame.now c.row_of-row.ensures c.is_x-x.ensures refl refl) ∙ c.in_ok-check_write.was in
    let t = taken f start.args.time start.args.control start.args.frame.now done in
    (sym done, c.put_frame.ensures f c.row_of-row.ensures (sym c.is_x-x.ensures ∙ c.if-x.false) t.0 t.1 ∙ sym (leaves f start.args.time start.args.control start.args.frame.now done))

pub returns-in_err-check_write : goal.returns-in_err-check_write
returns-in_err-check_write c =
    let p = err_from_is_err_and c.from_residual.result c.from_residual.ensures.1 in
    rw (p.1, p.2) (let start = c in
    let f = start.args.format in
    let refused = sym (c.check_write.ensures f start.args.frame.now c.row_of-row.ensures c.is_x-x.ensures refl refl) ∙ c.in_err-check_write.was in
    (sym refused, sym (refused-write-leaves f start.args.time start.args.control start.args.frame.now _ refused)))
