-- `put_backward` meets its contract: what was read, Write takes without the year.
use native.Mathlib.Omega.{arith}
use mathlib.Core.Path.{◌∙◌}
use Rattle.editions.specs.Converting.{later-from, earlier-room, backward-put}
use Rattle.editions.proofs.put_backward.Goals as goal

pub without_year-requires : goal.without_year-requires
without_year-requires c = later-from c.args.format c.requires.0

pub overflow_mul-reading : goal.overflow_mul-reading
overflow_mul-reading c = omega (arith, earlier-room c.args.format c.args.reading.time c.args.reading.control c.requires.0 c.requires.1)

pub returns : goal.returns
returns c =
    let start = c in
    let a = start.args in
    let put = backward-put a.format a.reading.time a.reading.control start.requires.0 start.requires.1 a.lent.now start.requires.2 _ _ c.without_year.ensures c.time_in_year.ensures in
    (c.write.ensures.0 ∙ put.0, c.write.ensures.1 ∙ put.1)
