-- `feed_words` meets its contract: words that pass are fed as they are, any other by value.
use mathlib.Core.Path.{sym, ◌∙◌}
use Rattle.word_feed.specs.InPlace.{ready}
use Rattle.word_feed.proofs.feed_words.Goals as goal

both : {A B : Type 0} → A × B → record { value : A; reader_after : B }
both p = record { value = p.0; reader_after = p.1 }

pub feed_ready-requires : goal.feed_ready-requires
feed_ready-requires c = (ready c.args.reader.now c.known_size-n.result c.known_size-n.ensures (sym c.is_ready.ensures.value ∙ c.if-is_ready.true), c.is_ready.ensures.words_len)
