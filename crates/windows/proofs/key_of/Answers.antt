-- `key_of` meets its contract.
use mathlib.Core.Path.{refl}
use Rattle.calendar.specs.Windows.{key_of}
use borrow.Author.Rules.{rules}
use Rattle.windows.proofs.key_of.Goals as goal

pub returns : goal.returns
unfolding key_of
returns c = (refl, record { year = search rules; day = search rules; hundredths = search rules })
