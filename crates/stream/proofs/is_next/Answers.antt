-- `is_next` meets its contract: the next second of the day is next after, and else it is asked.
use mathlib.Core.Path.{sym, ◌∙◌}
use Rattle.stream.proofs.Tapes.{second-later}
use Rattle.stream.proofs.is_next.Goals as goal

pub returns-then-is_second_later : goal.returns-then-is_second_later
returns-then-is_second_later c = sym (second-later c.args.format c.args.before c.args.time (sym c.is_tape.ensures ∙ c.if-is_tape.true) (sym c.is_second_later.ensures ∙ c.if-is_second_later.true))
