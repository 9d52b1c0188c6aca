-- `put_forward` meets its contract: what the checks let pass, Write takes.
use mathlib.Core.Path.{sym, ◌∙◌}
use Rattle.editions.specs.Converting.{earlier-below, forward-put}
use Rattle.editions.proofs.put_forward.Goals as goal

pub with_year-requires : goal.with_year-requires
with_year-requires c = earlier-below c.args.format c.requires.0

pub returns : goal.returns
returns c =
    let start = c in
    let a = start.args in
    let done = sym c.check_forward.ensures ∙ c.in_ok-check_forward.was in
    let put = forward-put a.format a.reading.time a.reading.control a.year a.lent.now start.requires.0 start.requires.1 start.requires.2 _ _ c.with_year.ensures c.time_in_year.ensures done in
    (c.write.ensures.0 ∙ put.0 ∙ sym done, rw done (c.write.ensures.1 ∙ put.1))
