-- `tail_bits` meets its contract: these runs start at 60 or later.
use mathlib.Core.Path.{ap₂, ◌∙◌}
use Prim.Native.Nat.{◌+◌}
use Rattle.elements.specs.RunBits.{tail-packed}
use Rattle.elements.proofs.tail_bits.Goals as goal

pub returns-then-elements-eq100 : goal.returns-then-elements-eq100
returns-then-elements-eq100 c = λ e. ap₂ (λ x y. x + y) c.bits_from.ensures.0 c.bits_from-then-elements-eq100.ensures.0 ∙ tail-packed c.args.digits.now c.requires.1
