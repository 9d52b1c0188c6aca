-- `feed_one` meets its contract: it is one step of the progress.
use native.Mathlib.Omega.{arith}
use mathlib.Core.Path.{ap, ◌∙◌}
use mathlib.Core.List.{◌++◌}
use lib.ListN.{take}
use Rattle.progress.specs.Steps.{one-fed}
use Rattle.progress.proofs.feed_one.Goals as goal

pub returns : goal.returns
returns c = let a = c.args in
    let fed = one-fed a.progress a.symbol _ _ _ c.requires.0 c.answer_to-answer.ensures c.next_reader-next.ensures c.advance-current.ensures in
    (rw c.progressed_at.ensures.1 (omega (arith, c.put_line-filled.ensures.0, c.requires.1)), c.put_line-filled.ensures.1, c.progressed_at.ensures.0 ∙ fed.0, rw c.progressed_at.ensures.1 (c.put_line-filled.ensures.2 ∙ ap (λ l. take a.at a.out.now ++ l) fed.1))
