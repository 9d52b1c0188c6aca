-- `bits_from` meets its contract: the bits of the runs from j on. At most 18 numbers below 2^59 are added up.
use native.Mathlib.Omega.{arith}
use mathlib.Core.Path.{ap, ap₂, ◌∙◌}
use Prim.Native.Nat.{◌+◌, ◌*◌, ◌-◌, ◌%◌, ◌^◌}
use lib.ListN.{get_or}
use Rattle.elements.specs.RunBits.{packed_start, packed-turn}
use Rattle.elements.proofs.bits_from.Goals as goal

pub loop-j-init : goal.loop-j-init
loop-j-init c = (c.requires.2, omega arith, packed_start c.args.from c.args.digits.now c.args.last, omega arith)

pub placed-bits-requires : goal.placed-bits-requires
placed-bits-requires c = rw c.requires.0 (c.requires.4 (c.loop-j.j - 1) (omega arith) (omega arith))

pub loop-j-preserved : goal.loop-j-preserved
loop-j-preserved c =
    let a = c.args in
    let j = c.loop-j.j in (
      omega arith,
      omega arith,
      ap₂ (λ x y. x + y) c.loop-j.invariant.2 (c.placed-bits.ensures.0 ∙ ap (λ ss. get_or a.digits.now (j - 1) 0 % 512 * 2 ^ (get_or ss (j - 1) 0 - a.from)) c.requires.0)
          ∙ packed-turn a.from a.digits.now a.first j a.last (omega arith) (omega arith),
      omega (arith, c.placed-bits.ensures.1, c.loop-j.invariant.3),
    )
