-- Step taken apart: a step of a time on the format is on the format, next after is some step, and the times that follow one.
use Rattle.std.specs.Prelude.{◌≡◌, Bool, true, ◌&&◌, List, [], ◌∷◌, ◌⊎◌, ℕ, ◌+◌, ◌≤◌, ◌<◌}
use Rattle.timecode.specs.Formats.{member, known, interval, carries_year, day_length, days_in, OnFormat}
use Rattle.timecode.specs.Frames.{year_lengths, length_in, kinds, day_end, same_day, next_day, Turn}
use Rattle.timecode.specs.declared.Format.{Format}
use Rattle.timecode.specs.declared.Time.{Time}

-- ---- the checks of both steps

-- the checks are passed, and the step of t to v answers u
pub record Went (f : Format) (t : Time) (length kind : ℕ) (v u : Time) : Type 0 where
  pub format : known f ≡ true
  pub from : OnFormat f t
  pub length_is : member length year_lengths ≡ true
  pub inside : t.day ≤ length
  pub kind_is : member kind kinds ≡ true
  pub before : t.hundredths < day_end f kind
  pub to : v ≡ u

-- the length that a step of t takes
abbrev pub length_for : Format → Time → ℕ → ℕ
length_for f t given = length_in f t.year given

-- where the format carries the year, the length is that year's
abbrev pub OfYear : Format → ℕ → ℕ → Type 0
OfYear f year length = carries_year f ≡ true → length ≡ days_in year

-- a test that every number of a list passes
abbrev pub every : (ℕ → Bool) → List ℕ → Bool
every p [] = true
every p (x ∷ xs) = p x && every p xs

-- where a day may end
abbrev pub IsDayEnd : ℕ → Type 0
IsDayEnd x = (x ≡ day_length) ⊎ ((x ≡ 8640100) ⊎ (x ≡ 8639900))

-- a step goes to the next frame of the day, or from the day's last frame to the day after
abbrev pub Lands : Format → Time → ℕ → ℕ → Time → Type 0
Lands f t length kind u = ((same_day f t ≡ u) × (t.hundredths + interval f < day_end f kind)) ⊎ ((next_day f t length ≡ u) × (t.hundredths + interval f ≡ day_end f kind))

-- one time, or a turn in either order
abbrev pub Alike : Format → Time → Time → Type 0
Alike f u v = (u ≡ v) ⊎ (Turn f u v ⊎ Turn f v u)
