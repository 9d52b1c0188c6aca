-- `time_of` meets its contract.
use mathlib.Core.Path.{refl}
use Rattle.calendar.specs.Windows.{time_of}
use Rattle.windows.proofs.time_of.Goals as goal

pub returns : goal.returns
unfolding time_of
returns c = refl
