-- Two times that follow one are the same, or are written at least seven elements apart, whatever the control words.
use Rattle.std.specs.Prelude.{Bool, true, cond, not, ◌&&◌, List, [], ◌∷◌, ℕ, ltb, eqb}
use Rattle.timecode.specs.Formats.{is_x, size, day_length, carries_leap}
use Rattle.timecode.specs.Frames.{same_day_at, new_year}
use Rattle.timecode.specs.Laws.Stepping.{every}
use Rattle.timecode.specs.Layout.{fields, runs, numbers, all_digits, filler, symbol_at}
use Rattle.timecode.specs.declared.Format.{Format}
use Rattle.timecode.specs.declared.Time.{Time}

-- the frames of u and v, with the control words a and b, have other symbols at each of the places
abbrev pub differ : Format → Time → ℕ → Time → ℕ → List ℕ → Bool
differ f u a v b [] = true
differ f u a v b (p ∷ ps) =
    (ltb p (size f) && not (eqb (symbol_at (filler f) (runs f) (all_digits (fields f) (numbers f u a)) p) (symbol_at (filler f) (runs f) (all_digits (fields f) (numbers f v b)) p)))
    && differ f u a v b ps

-- day 1 and day 366 differ in seven elements of the days
abbrev pub turn_places : List ℕ
turn_places = 30 ∷ 31 ∷ 32 ∷ 36 ∷ 37 ∷ 40 ∷ 41 ∷ []

abbrev pub leap_day : ℕ → Time
leap_day year = record { year = year; day = 366; hundredths = 0 }

-- X, or the frames of both differ there
abbrev pub turn_differs : ℕ → ℕ → ℕ → ℕ → Format → Bool
turn_differs y z a b f = cond (is_x f) true (differ f (new_year y) a (leap_day z) b turn_places)

-- 23:59:59 and 23:59:60 differ from 00:00:00 in seven elements of the minutes and hours, whatever the days
abbrev pub midnight_places : List ℕ
midnight_places = 10 ∷ 13 ∷ 15 ∷ 17 ∷ 20 ∷ 21 ∷ 26 ∷ []

-- the seconds that stand where a day of another kind has ended: 23:59:59 and 23:59:60
abbrev pub late_seconds : List ℕ
late_seconds = 8639900 ∷ day_length ∷ []

-- the format does not carry the added second, or the frames at these and that of midnight differ at the places
abbrev pub differ_at : List ℕ → Time → Time → ℕ → ℕ → Format → Bool
differ_at cs u v a b f = cond (carries_leap f) (every (λ c. differ f (same_day_at u c) a (same_day_at v 0) b midnight_places) cs) true
