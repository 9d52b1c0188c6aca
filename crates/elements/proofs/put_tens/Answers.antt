-- The tens before k stand in the frame.
use Rattle.std.proofs.Common.{ap, ◌∙◌, ◌*◌, ◌-◌, ◌/◌, ◌^◌, arith}
use Rattle.elements.specs.Tens.{ten, tens-start, tens-turn}
use Rattle.elements.proofs.put_tens.Goals as goal

pub loop-k-init : goal.loop-k-init
loop-k-init c = let a = c.args in tens-start a.frame.now a.from a.bits

pub loop-k-preserved : goal.loop-k-preserved
loop-k-preserved c =
    let a = c.args in
    let k = c.loop-k.k in
    let x = a.bits / 2 ^ (10 * (k - a.from)) in
    c.put_ten.ensures ∙ ap (λ ss. ten ss k x) c.loop-k.invariant ∙ tens-turn a.frame.now a.from k a.bits (omega arith)
