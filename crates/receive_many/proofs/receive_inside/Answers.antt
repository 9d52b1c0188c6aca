-- `receive_inside` meets its contract.
use Rattle.receive_many.specs.ManySymbols.{joined-count, join_step, join-end}
use Prim.Native.Nat.{◌+◌}
use mathlib.Core.Path.{◌≡◌, sym, ◌∙◌}
use native.Mathlib.Omega.{arith}
use Rattle.receive_many.proofs.receive_inside.Goals as goal

pub loop-i-preserved : goal.loop-i-preserved
loop-i-preserved c =
    let count = joined-count c.loop-i.current c.push_all-newest.result (c.loop-i.current.count + c.up_to_word-more.result) in
    rw c.joined-current.ensures
    (omega (arith, c.loop-i.invariant.0), omega (arith, c.up_to_word-more.ensures.1, c.loop-i-test.true), omega (arith, count, c.up_to_word-more.ensures.1, c.loop-i-test.true, c.loop-i.invariant.2), c.loop-i.invariant.3 ∙ join_step c.loop-i.current c.args.symbols.now c.loop-i.i c.up_to_word-more.result c.args.to c.push_all-newest.result c.up_to_word-more.ensures.0 (omega (arith, c.up_to_word-more.ensures.1, c.loop-i-test.true)) c.requires.1 c.up_to_word-more.ensures.2 c.push_all-newest.ensures)

pub returns : goal.returns
returns c =
    let all : c.loop-i.i ≡ c.args.to = omega (arith, c.loop-i.invariant.1, c.loop-i-test.false) in
    sym (c.loop-i.invariant.3 ∙ join-end _ _ _ _ all)
