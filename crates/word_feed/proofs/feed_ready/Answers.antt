-- `feed_ready` meets its contract: where no frame becomes whole the answer is Quiet.
use mathlib.Core.Path.{sym, ◌∙◌}
use Rattle.word_feed.specs.InPlace.{inside-quiet}
use Rattle.word_feed.proofs.feed_ready.Goals as goal

both : {A B : Type 0} → A × B → record { value : A; reader_after : B }
both p = record { value = p.0; reader_after = p.1 }

pub returns-then-feed_inside : goal.returns-then-feed_inside
returns-then-feed_inside c =
    let is-inside = sym c.feed_inside.ensures.value ∙ c.if-feed_inside.true in
    let quiet = inside-quiet c.args.reader.now c.args.symbol c.args.n c.requires.0 is-inside in
    both ((rw quiet c.from.ensures, rw is-inside at c.feed_inside.ensures.reader_after))
