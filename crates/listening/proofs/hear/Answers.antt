-- `hear` meets its contract.
use Rattle.listening.specs.Counted.{heard-start, heard-ready, heard-bound, heard-stride}
use native.Mathlib.Omega.{arith}
use Rattle.listening.proofs.hear.Goals as goal

pub loop-i-init : goal.loop-i-init
loop-i-init c = (omega arith, heard-start _ _ _ _ _ _)

pub advance-stride-requires : goal.advance-stride-requires
advance-stride-requires c =
    let pre = c.requires in
    let ready = heard-ready c.loop-i.invariant.1 (pre.0, pre.1) in
    (ready.0, ready.1, c.loop-i-test.true, pre.2, pre.4)

pub count_answer-counted-requires : goal.count_answer-counted-requires
count_answer-counted-requires c =
    let pre = c.requires in
    let bound = heard-bound c.loop-i.invariant.1 (omega (arith, c.loop-i.invariant.0, pre.2)) in
    (omega (arith, bound.0, c.loop-i.invariant.0, pre.3, pre.5, pre.6), omega (arith, bound.1, c.loop-i.invariant.0, pre.3, pre.5, pre.7))

pub loop-i-preserved : goal.loop-i-preserved
loop-i-preserved c = (c.advance-stride.ensures.within, heard-stride c.loop-i.invariant.1 c.requires.2 c.advance-stride.ensures _ c.answer_after-answer.ensures _ c.count_answer-counted.ensures)
