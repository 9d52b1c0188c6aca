-- `add_words` meets its contract: the window is taken, or the words stay.
use Rattle.calendar_words.specs.CalendarSets.{taken, refused}
use Rattle.windows.specs.Ways.{booked}
use mathlib.Core.Path.{sym, ◌∙◌}
use Rattle.calendar_words.proofs.add_words.Goals as goal

both : {A B : Type 0} → A × B → record { value : A; words_after : B }
both p = record { value = p.0; words_after = p.1 }

pub put_keys-requires : goal.put_keys-requires
put_keys-requires c = (c.requires, (booked _ c.args.start c.args.end _ _ (sym c.in-Ok.is ∙ c.book-keyed.ensures)).room)

pub returns-in-Ok : goal.returns-in-Ok
returns-in-Ok c = both (rw c.put_keys.ensures (taken _ _ _ c.requires _ _ (sym c.in-Ok.is ∙ c.book-keyed.ensures)))

pub returns-in-Err : goal.returns-in-Err
returns-in-Err c = both (rw c.number_of.ensures (refused _ _ _ c.requires _ (sym c.in-Err.is ∙ c.book-keyed.ensures)))
