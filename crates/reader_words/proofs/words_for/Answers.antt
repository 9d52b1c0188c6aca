-- `words_for` meets its contract: the fourteen words in their order.
use mathlib.Core.Path.{refl}
use Rattle.reader_words.specs.Words.{words_for}
use Rattle.reader_words.proofs.words_for.Goals as goal

pub returns : goal.returns
unfolding words_for
returns c = refl
