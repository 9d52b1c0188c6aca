-- `ask_words` meets its contract.
use Rattle.calendar_words.specs.CalendarStructs.{calendar_in}
use Rattle.calendar_words.proofs.ask_words.Goals as goal

pub returns : goal.returns
unfolding calendar_in
returns c = c.ask_keys.ensures
