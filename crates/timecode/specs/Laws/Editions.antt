-- Frames converted forward and back are the same: each conversion is a frame that Write writes, so Read takes it. All but the elements 50 to 58 stay.
use Rattle.timecode.specs.Answers.{accepted}
use Rattle.std.specs.Prelude.{◌≡◌, Bool, true, false, cond, not, ◌&&◌, List, [], ◌∷◌, ℕ, ◌/◌, ◌%◌, ◌≤◌, eqb, take, drop, replicate}
use Rattle.timecode.specs.Editions.{with_year, time_in_year, nine_bits}
use Rattle.timecode.specs.Formats.{known, carries_control, carries_year, last_year, days_in}
use Rattle.timecode.specs.Frames.{written, total_width, read_of}
use Rattle.timecode.specs.Layout.{control}
use Rattle.timecode.specs.declared.Format.{Format}
use Rattle.timecode.specs.declared.Time.{Time}

-- ---- the two formats

-- a format without the year and the one with it: 27 control bits or none, and 18 or none
pub record Editions (f : Format) : Type 0 where
  pub earlier : known f ≡ true
  pub later : known (with_year f) ≡ true
  pub no_year : carries_year f ≡ false
  pub year : carries_year (with_year f) ≡ true
  pub bits : total_width (control f) ≡ cond (carries_control f) 27 0
  pub later_bits : total_width (control (with_year f)) ≡ cond (carries_control f) 18 0

abbrev pub format : ℕ → ℕ → Format
format l e = record { letter = l; expression = e }

abbrev pub are_known : Format → Bool
are_known f = known f && known (with_year f)

abbrev pub have_year : Format → Bool
have_year f = not (carries_year f) && carries_year (with_year f)

abbrev pub have_bits : Format → Bool
have_bits f = eqb (total_width (control f)) (cond (carries_control f) 27 0) && eqb (total_width (control (with_year f))) (cond (carries_control f) 18 0)

abbrev pub are_editions : Format → Bool
are_editions f = are_known f && (have_year f && have_bits f)

-- the forward converter read this time and control word
pub record Forward (f : Format) (frame : List ℕ) (year : ℕ) : Type 0 where
  pub both : Editions f
  pub time : Time
  pub word : ℕ
  pub reads : read_of f frame ≡ accepted time word
  pub year_is : year ≤ last_year
  pub within_year : time.day ≤ days_in year
  pub free : word % nine_bits ≡ 0

-- P holds of every number of a list
abbrev pub AllOf : (ℕ → Type 0) → List ℕ → Type 0
AllOf P [] = Unit
AllOf P (x ∷ xs) = P x × AllOf P xs

-- The frames of both editions are the same before element 50 and from 59 on, where control bits 10 to 27 of the earlier are 1 to 18 of the later; where control bits 1 to 9 are zero, so are the elements 50 to 58 of the earlier.
abbrev pub SameRest : Format → Type 0
SameRest f = (t : Time) (year w : ℕ)
    → (take 50 (written (with_year f) (time_in_year t year) (w / nine_bits)) ≡ take 50 (written f t w))
    × (drop 59 (written (with_year f) (time_in_year t year) (w / nine_bits)) ≡ drop 59 (written f t w))
    × (w % nine_bits ≡ 0 → take 9 (drop 50 (written f t w)) ≡ replicate 9 0)
