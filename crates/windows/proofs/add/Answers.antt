-- `add` meets its contract: the window is taken, or the calendar is handed back.
use mathlib.Core.Path.{sym, ◌∙◌}
use Rattle.windows.specs.Ways.{booked, add-taken, add-refused}
use Rattle.windows.proofs.add.Goals as goal

pub with_keys-requires : goal.with_keys-requires
with_keys-requires c = (booked _ c.args.start c.args.end _ _ (sym c.in-Ok.is ∙ c.book-keyed.ensures)).room

pub returns-in-Ok : goal.returns-in-Ok
returns-in-Ok c = add-taken _ _ _ _ _ _ (sym c.in-Ok.is ∙ c.book-keyed.ensures) c.with_keys.ensures

pub returns-in-Err : goal.returns-in-Err
returns-in-Err c = add-refused _ _ _ _ (sym c.in-Err.is ∙ c.book-keyed.ensures)
