-- `lowest_offence` meets its contract: nothing where the two differ nowhere, else what stands at the lowest index.
use borrow.Author.Tests.{eq-eqb, ne_eqb}
use mathlib.Core.Path.{sym, ◌∙◌}
use Rattle.frame.specs.Offences.{offended-lowest}
use Rattle.frame.proofs.lowest_offence.Goals as goal

pub returns-then-lowest : goal.returns-then-lowest
returns-then-lowest c =
    let start = c in
    let found = c.lowest_difference-lowest in
    sym (offended-lowest start.args.again.now start.args.frame.now start.requires.0 start.requires.1 found.result found.ensures.0 ∙ rw (eq-eqb found.result 255 c.if-lowest.true))

pub returns : goal.returns
returns c =
    let start = c in
    let found = c.lowest_difference-lowest in
    c.offence_at.ensures
    ∙ sym (offended-lowest start.args.again.now start.args.frame.now start.requires.0 start.requires.1 found.result found.ensures.0 ∙ rw (ne_eqb found.result 255 c.if-lowest.false))
