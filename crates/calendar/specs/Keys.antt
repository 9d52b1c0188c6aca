-- A moment as one number, its key: the moment comes back from it, and keys are ordered as moments.
use Rattle.std.specs.Prelude.{◌<◌}
use Rattle.timecode.specs.declared.Time.{Time}

-- the fields fit a byte, two bytes and four
pub record Small (t : Time) : Type 0 where
  pub year : t.year < 256
  pub day : t.day < 65536
  pub hundredths : t.hundredths < 4294967296
