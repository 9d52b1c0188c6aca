-- `row_with_tape` meets its contract: what fits is read as its digits say, any other word is refused.
use mathlib.Core.Path.{sym, ◌∙◌}
use Rattle.tape.specs.InWord.{reads-fitting, reads_other}
use Rattle.stream.specs.Feeding.{row_with}
use Rattle.stream.proofs.row_with_tape.Goals as goal

pub returns-then-word_fits : goal.returns-then-word_fits
returns-then-word_fits c = rw (reads-fitting c.args.format c.args.word c.requires.0 c.requires.1 (sym c.word_fits.ensures ∙ c.if-word_fits.true), ← c.word_meaning.ensures) c.row_with_reading.ensures

pub returns : goal.returns
unfolding row_with
returns c = rw (reads_other c.args.format c.args.word c.requires.0 c.requires.1 (sym c.word_fits.ensures ∙ c.if-word_fits.false)).1 c.frame_row.ensures
