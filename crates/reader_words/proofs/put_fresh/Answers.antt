-- `put_fresh` meets its contract: the words of a fresh reader, or the number and nothing written.
use mathlib.Core.Path.{refl, sym, ◌∙◌}
use Rattle.ffi.proofs.Fields.{refusal-numbered}
use Rattle.reader_words.specs.Words.{fresh_left}
use Rattle.reader_words.proofs.WordLaws.{made-fresh}
use Rattle.reader_words.proofs.put_fresh.Goals as goal

both : {A B : Type 0} → A × B → record { value : A; reader_after : B }
both p = record { value = p.0; reader_after = p.1 }

pub returns-in-Ok : goal.returns-in-Ok
unfolding fresh_left
returns-in-Ok c = both (rw (← c.fresh-made.ensures, c.in-Ok.is, ← made-fresh _ _ _ (sym c.fresh-made.ensures ∙ c.in-Ok.is)) (refl, c.words_for.ensures))

pub returns-in-Err : goal.returns-in-Err
unfolding fresh_left
returns-in-Err c = both (rw (← c.fresh-made.ensures, c.in-Err.is, refusal-numbered _, c.number_of.ensures) (refl, refl))
