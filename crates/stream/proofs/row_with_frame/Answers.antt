-- `row_with_frame` meets its contract.
use mathlib.Core.Path.{sym, ◌∙◌}
use Rattle.stream.proofs.Tapes.{tape-x, tape-known, tape-frame}
use Rattle.stream.proofs.row_with_frame.Goals as goal

pub row_with_tape-requires : goal.row_with_tape-requires
row_with_tape-requires c = (tape-x c.args.format c.args.n (sym c.is_tape.ensures ∙ c.if-is_tape.true), tape-known c.args.format c.args.n (sym c.is_tape.ensures ∙ c.if-is_tape.true))

pub returns-then-is_tape : goal.returns-then-is_tape
returns-then-is_tape c = rw (tape-frame c.args.format c.args.n (sym c.is_tape.ensures ∙ c.if-is_tape.true) c.args.received) c.row_with_tape.ensures
