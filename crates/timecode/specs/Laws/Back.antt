-- The step back against the step: each undoes the other for every format, time, year length and kind that it takes.
use Rattle.std.specs.Prelude.{◌≡◌, ◌⊎◌, ℕ, ◌≤◌, ◌<◌}
use Rattle.timecode.specs.Formats.{interval, OnFormat}
use Rattle.timecode.specs.Frames.{length_in, day_end, following, year_of_time_before, same_day_before, last_before, preceding}
use Rattle.timecode.specs.declared.Format.{Format}
use Rattle.timecode.specs.declared.Time.{Time}

-- ---- days

-- u passes 11 and 15, and the time before it is t
abbrev pub Undone : Format → Time → ℕ → ℕ → Time → Type 0
Undone f t length kind u = (u.day ≤ length) × (u.hundredths < day_end f kind) × (preceding f u length kind ≡ t)

-- the length that a step back of u takes
abbrev pub length_before : Format → Time → ℕ → ℕ
length_before f u given = length_in f (year_of_time_before f u) given

-- a step back goes to the frame before on the same day, or from c = 0 to the day before's last frame
abbrev pub Comes : Format → Time → ℕ → ℕ → Time → Type 0
Comes f u length kind t = ((same_day_before f u ≡ t) × (interval f ≤ u.hundredths)) ⊎ ((last_before f u length kind ≡ t) × (u.hundredths ≡ 0))

-- t passes 2, 14, 11 and 15, and the time after it is u
abbrev pub Redone : Format → Time → ℕ → ℕ → Time → Type 0
Redone f u length kind t = OnFormat f t × (t.day ≤ length) × (t.hundredths < day_end f kind) × (following f t length kind ≡ u)
