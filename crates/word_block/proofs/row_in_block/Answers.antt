-- `row_in_block` meets its contract: in X by the newest word, else by the symbols.
use mathlib.Core.Path.{sym, ◌∙◌}
use Rattle.stream.proofs.Tapes.{tape-x, tape-known}
use Rattle.word_block.proofs.row_in_block.Goals as goal

pub row_with_tape-requires : goal.row_with_tape-requires
row_with_tape-requires c = (tape-x c.args.format c.args.n (sym c.is_tape.ensures ∙ c.if-is_tape.true), tape-known c.args.format c.args.n (sym c.is_tape.ensures ∙ c.if-is_tape.true))
