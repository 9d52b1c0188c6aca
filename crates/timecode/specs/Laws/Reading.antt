-- Read accepts exactly the bytes as which a time and a control word are written, and gives those.
use Rattle.std.specs.Prelude.{◌≡◌, true, List, ◌++◌, ◌⊎◌, ℕ, ◌+◌, ◌≤◌}
use Rattle.timecode.specs.Formats.{last_day_in, carries_leap}
use Rattle.timecode.specs.Frames.{day_in}
use Rattle.timecode.specs.Laws.Fields.{AreDigits}
use Rattle.timecode.specs.Layout.{seconds, minutes, hours, years, time_fields, flatten, number_in, decode}
use Rattle.timecode.specs.declared.Format.{Format}

-- ---- elements that offend

-- the second is a usual one, or the added one at 23:59 where the format carries it
abbrev pub InMinute : Format → ℕ → ℕ → ℕ → Type 0
InMinute f h m s = (s ≤ 59) ⊎ ((carries_leap f ≡ true) × (h ≡ 23) × (m ≡ 59) × (s ≡ 60))

pub record IsTime (f : Format) (frame : List ℕ) : Type 0 where
  pub digits : AreDigits (decode (flatten (time_fields f) ++ years f) frame)
  pub hour_is : number_in frame (hours f) ≤ 23
  pub minute_is : number_in frame (minutes f) ≤ 59
  pub second_is : InMinute f (number_in frame (hours f)) (number_in frame (minutes f)) (number_in frame (seconds f))
  pub first : 1 ≤ day_in f frame
  pub last : day_in f frame ≤ last_day_in f (number_in frame (years f))
