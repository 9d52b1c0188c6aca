-- `hear_symbols` meets its contract: the first symbols are heard, in blocks one after the other.
use native.Mathlib.Omega.{arith}
use mathlib.Core.Path.{◌≡◌, ◌∙◌}
use Prim.Native.Nat.{◌+◌, ◌-◌, ◌≤◌}
use lib.ListN.{length, take}
use Rattle.hearing.specs.Hearing.{heard-start, length_rest, heard-turn, heard_all, heard-ended}
use Rattle.progress.specs.Progress.{after_feeds, text_feeds}
use Rattle.hearing.proofs.hear_symbols.Goals.{then-loop-taken-test+else-not-current, else-loop-taken-test}
use mathlib.Core.List.{◌++◌}
use borrow.Author.Tests.{not-false}
use Rattle.hearing.proofs.hear_symbols.Goals as goal

pub loop-taken-init : goal.loop-taken-init
loop-taken-init c = (heard-start _ _ _, omega arith, c.requires.2)

pub loop-taken-preserved : goal.loop-taken-preserved
loop-taken-preserved c =
    let heard = c.hear_block-heard.ensures in
    let few : c.hear_block-heard.result.taken ≤ length c.args.symbols.now - c.loop-taken.taken = omega (arith, heard.1, length_rest c.args.symbols.now c.loop-taken.taken) in
    (heard-turn c.loop-taken.invariant.0 _ _ _ few heard.4 heard.5, omega (arith, heard.2, c.loop-taken.invariant.1), heard.3)

pub returns : goal.returns
returns c =
    let heard = c.loop-taken.invariant.0 in
    let all : (c.loop-taken.current ≡ after_feeds c.args.progress c.args.symbols.now) × (take c.loop-taken.filled c.loop-taken.out ≡ take c.args.at c.args.out.now ++ text_feeds c.args.progress c.args.symbols.now) =
    elim c.loop-taken-test.branch [ then-loop-taken-test+else-not-current w ↦ heard-ended heard (not-false _ w.if-not-current.false) | else-loop-taken-test w ↦ heard_all heard (omega arith) ] in
    let is = c.progressed_at.ensures in
    (omega (arith, is.1, c.loop-taken.invariant.1, heard.within, c.requires.0, c.requires.1), c.loop-taken.invariant.2, is.0 ∙ all.0, rw is.1 all.1)
