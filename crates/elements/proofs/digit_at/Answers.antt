-- `digit_at` meets its contract: the bits from k on, which bytes keep below 255 times the weight above them.
use mathlib.Core.Path.{◌≡◌}
use Prim.Native.Nat.{suc, ◌+◌, ◌-◌}
use native.Mathlib.Omega.{arith}
use native.Mathlib.Nat.{two-pow-succ}
use Rattle.elements.specs.RunLoops.{value-start, value-turn}
use Rattle.elements.proofs.digit_at.Goals as goal

pub loop-k-init : goal.loop-k-init
loop-k-init c = let z : c.args.width - c.args.width ≡ 0 = omega arith in (omega arith, value-start c.args.frame.now c.args.start c.args.width, rw z (omega arith))

pub loop-k-preserved : goal.loop-k-preserved
loop-k-preserved c =
    let a = c.args in
    let w = a.width in
    let k = c.loop-k.k in
    let more : w - (k - 1) ≡ suc (w - k) = omega arith in (
      omega arith,
      rw c.from.ensures (value-turn a.frame.now a.start w k c.loop-k.digit (omega arith) (omega arith) c.loop-k.invariant.1),
      rw more (omega (arith, two-pow-succ (w - k), c.from.ensures, c.type_inv.frame (a.start + (k - 1)))),
    )
