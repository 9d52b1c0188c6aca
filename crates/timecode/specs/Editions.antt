-- Document 02, "The year on the wire": frames of A and B converted between the editions without the year and with it.
use Rattle.timecode.specs.declared.Refusal.{Refusal}
use Rattle.std.specs.Prelude.{Bool, ◌&&◌, List, [], ◌∷◌, ℕ, ◌+◌, ◌-◌, ◌*◌, ◌/◌, ◌%◌, leb, eqb, length, Result, Ok, Err}
use Rattle.timecode.specs.Answers.{Check, checks, done}
use Rattle.timecode.specs.Formats.{A, B, member, size, carries_year, last_year, days_in}
use Rattle.timecode.specs.Frames.{written, left, read_of}
use Rattle.timecode.specs.declared.Format.{Format}
use Rattle.timecode.specs.declared.Reading.{Reading}
use Rattle.timecode.specs.declared.Refusal.TheVariants.{UnknownFormat, InvalidTime, WrongLength, InvalidYear, YearPlaceTaken}
use Rattle.timecode.specs.declared.Time.{Time}

-- 4 to 7 are 0 to 3 with the year
abbrev pub with_year : Format → Format
with_year f = record { letter = f.letter; expression = f.expression + 4 }

abbrev pub without_year : Format → Format
without_year f = record { letter = f.letter; expression = f.expression - 4 }

-- the same day and hundredths in that year
abbrev pub time_in_year : Time → ℕ → Time
time_in_year t year = record { year = year; day = t.day; hundredths = t.hundredths }

-- number 3, for either frame
abbrev pub both_fit : Format → List ℕ → List ℕ → Bool
both_fit f frame lent = eqb (length frame) (size f) && eqb (length lent) (size f)

-- Control bits 1 to 9 stand where the year will: the 18 later ones are the control word of the edition with the year.
abbrev pub nine_bits : ℕ
nine_bits = 512

-- ---- forward: it needs the year

-- number 1, also for the wrong letter or edition
unfoldable pub is_earlier : Format → Bool
is_earlier f = member f.expression (0 ∷ 1 ∷ 2 ∷ 3 ∷ []) && member f.letter (A ∷ B ∷ [])

-- both ways 1, 3: the format is of the edition that is converted, and both frames have its length
abbrev pub edition_checks : Format → Bool → List ℕ → List ℕ → List Check
edition_checks f right frame lent =
    (UnknownFormat, right)  -- 1
    ∷ (WrongLength, both_fit f frame lent)  -- 3
    ∷ []

-- what Read refuses, and then 17, 2, 18
abbrev pub forward_checks : ℕ → Time → ℕ → List Check
forward_checks year t w =
    (InvalidYear, leb year last_year)  -- 17
    ∷ (InvalidTime, leb t.day (days_in year))  -- 2
    ∷ (YearPlaceTaken, eqb (w % nine_bits) 0)  -- 18
    ∷ []

unfoldable pub check_forward : ℕ → Result Reading Refusal → Result Unit Refusal
check_forward year (Ok read) = checks Err (forward_checks year read.time read.control) done
check_forward year (Err r) = Err r

unfoldable pub forward_of : Format → List ℕ → ℕ → List ℕ → Result Unit Refusal
forward_of f frame year lent = checks Err (edition_checks f (is_earlier f) frame lent) (check_forward year (read_of f frame))

-- the time in that year, and the 18 later control bits in place
abbrev pub forwarded : Format → ℕ → Result Reading Refusal → List ℕ → List ℕ
forwarded f year (Ok read) lent = written (with_year f) (time_in_year read.time year) (read.control / nine_bits)
forwarded f year (Err r) lent = lent

-- the lent frame afterwards
unfoldable pub forward_leaves : Format → List ℕ → ℕ → List ℕ → List ℕ
forward_leaves f frame year lent = left (forward_of f frame year lent) (forwarded f year (read_of f frame) lent) lent

-- ---- backward

abbrev pub check_backward : Result Reading Refusal → Result Unit Refusal
check_backward (Ok read) = done
check_backward (Err r) = Err r

unfoldable pub backward_of : Format → List ℕ → List ℕ → Result Unit Refusal
backward_of f frame lent = checks Err (edition_checks f (carries_year f) frame lent) (check_backward (read_of f frame))

-- the time without the year, and control bits 1 to 9 zero
abbrev pub backwarded : Format → Result Reading Refusal → List ℕ → List ℕ
backwarded f (Ok read) lent = written (without_year f) (time_in_year read.time 0) (read.control * nine_bits)
backwarded f (Err r) lent = lent

unfoldable pub backward_leaves : Format → List ℕ → List ℕ → List ℕ
backward_leaves f frame lent = left (backward_of f frame lent) (backwarded f (read_of f frame) lent) lent
