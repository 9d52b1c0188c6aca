-- `put_empty` meets its contract: every word is 0.
use Rattle.calendar_words.specs.CalendarStructs.{words_of}
use mathlib.Core.Path.{refl}
use Rattle.calendar_words.proofs.put_empty.Goals as goal

both : {A B : Type 0} → A × B → record { number_value : A; calendar_after : B }
both p = record { number_value = p.0; calendar_after = p.1 }

pub returns : goal.returns
unfolding words_of
returns c = both ((refl, refl))
