-- `element_in` meets its contract: the element's two bits.
use mathlib.Core.Path.{refl}
use Rattle.tape.specs.InWord.{element_in}
use Rattle.tape.proofs.element_in.Goals as goal

pub returns : goal.returns
unfolding element_in
returns c = refl
