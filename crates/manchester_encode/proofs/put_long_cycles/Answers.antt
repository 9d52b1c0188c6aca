-- `put_long_cycles` meets its contract: the levels, where an element of each kind begins in them, and the copies.
use Rattle.manchester_encode.specs.Encoding.{levels-put}
use Rattle.manchester_encode.proofs.put_long_cycles.Goals as goal

pub copy_frame-requires : goal.copy_frame-requires
copy_frame-requires c =
    let start = c in
    let levels = c.put_run.ensures in (
      start.requires.0,
      start.requires.1,
      levels-put _ levels.0 levels.1,
      rw (c.highs_of.ensures.0, c.highs_of-2.ensures.0, c.highs_of-3.ensures.0),
      start.requires.2,
      start.requires.3,
      start.requires.4,
    )
