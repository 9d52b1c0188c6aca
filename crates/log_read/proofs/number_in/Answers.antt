-- `number_in` meets its contract: the last i bytes.
use Prim.Native.Nat.{◌+◌, ◌-◌}
use mathlib.Core.Path.{◌≡◌}
use native.Mathlib.Omega.{arith}
use Rattle.log_read.specs.Gathering.{gathered-start, gathered-room, gathered-turn, gathered-end}
use Rattle.log_read.proofs.number_in.Goals as goal

pub loop-i-init : goal.loop-i-init
loop-i-init c = let whole : c.args.width - 0 ≡ c.args.width = omega arith in rw whole (gathered-start _ _ _)

pub overflow_mul-number : goal.overflow_mul-number
overflow_mul-number c = omega (arith, gathered-room _ _ _ _ _ c.loop-i.invariant c.requires.1 (omega (arith, c.loop-i-test.true)))

pub overflow_add-number-in-loop-i : goal.overflow_add-number-in-loop-i
overflow_add-number-in-loop-i c = omega (arith, gathered-room _ _ _ _ _ c.loop-i.invariant c.requires.1 (omega (arith, c.loop-i-test.true)), c.type_inv.part (c.args.at + (c.args.width - 1 - c.loop-i.i)))

pub loop-i-preserved : goal.loop-i-preserved
loop-i-preserved c =
    let left : c.args.width - (c.loop-i.i + 1) ≡ c.args.width - c.loop-i.i - 1 = omega arith in
    let place : c.args.width - 1 - c.loop-i.i ≡ c.args.width - c.loop-i.i - 1 = omega arith in
    rw (left, place) (gathered-turn _ _ _ _ _ c.requires.0 (omega (arith, c.loop-i-test.true)) (c.type_inv.part (c.args.at + (c.args.width - c.loop-i.i - 1))).fits c.loop-i.invariant)

pub returns : goal.returns
returns c = gathered-end _ _ _ _ _ (omega (arith, c.loop-i-test.false)) c.loop-i.invariant
