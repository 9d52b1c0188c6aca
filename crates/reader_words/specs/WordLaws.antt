-- A reader whose numbers fit their widths comes back from its words, and no Feed makes another; what words that no call made are refused with.
use Rattle.timecode.specs.declared.Refusal.{Refusal}
use Rattle.std.specs.Prelude.{◌<◌, Result, Ok, Err}
use Rattle.stream.specs.declared.Reader.{Reader}

-- ---- readers whose numbers fit their widths, as the program's do

pub record Fits (r : Reader) : Type 0 where
  pub letter : r.format.letter < 256
  pub expression : r.format.expression < 256
  pub setting : r.setting < 256
  pub year : r.time.year < 256
  pub day : r.time.day < 65536
  pub hundredths : r.time.hundredths < 4294967296

-- the reader made, or another where it is refused
abbrev pub made_or : Reader → Result Reader Refusal → Reader
made_or other (Ok r) = r
made_or other (Err x) = other
