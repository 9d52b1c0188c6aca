-- Document 01, "Stepping, writing, reading": Step and next after, Write, Read, and the generator.
-- Document 02: the step back; both steps are given the kind of the earlier time's day, and 23:59:60 is read where it is carried. Where the format carries the year, it gives the year's length. In X every day is day 1.
use Rattle.timecode.specs.declared.Refusal.{Refusal}
use Rattle.std.specs.Prelude.{◌≡◌, Bool, true, false, cond, not, ◌&&◌, ◌||◌, List, [], ◌∷◌, ◌++◌, ◌⊎◌, ℕ, suc, ◌+◌, ◌-◌, ◌*◌, ◌/◌, ◌^◌, ◌<◌, leb, ltb, eqb, get_or, length, Result, Ok, Err}
use Rattle.timecode.specs.Answers.{Check, check, checks, accepted, done}
use Rattle.timecode.specs.Formats.{member, is_symbol, is_x, known, size, interval, carries_year, day_length, last_year, days_in, year_carried, last_day_in, on_format, carries_leap, second_carried, OnFormat}
use Rattle.timecode.specs.Layout.{Run, Field, seconds, minutes, hours, days, tenths, hundredths_digit, has_seconds, straight_seconds, control, years, time_fields, fields, flatten, runs, numbers, all_digits, in_run, filler, encode, digit_in, number_in}
use Rattle.timecode.specs.declared.Format.{Format}
use Rattle.timecode.specs.declared.Reading.{Reading}
use Rattle.timecode.specs.declared.Refusal.TheVariants.{UnknownFormat, InvalidTime, WrongLength, UnknownSymbol, MisplacedMark, InvalidElement, InvalidDigit, SecondsDiffer, ControlTooLong, InvalidYearLength, SecondNotCarried, InvalidKind, InvalidYear}
use Rattle.timecode.specs.declared.Time.{Time}

-- ---- times

-- stands for the time of a frame that there is not, which nothing asks for
abbrev pub no_time : Time
no_time = record { year = 0; day = 0; hundredths = 0 }

-- the same day at c
abbrev pub same_day_at : Time → ℕ → Time
same_day_at t c = record { year = t.year; day = t.day; hundredths = c }

-- the first frame of a year
abbrev pub new_year : ℕ → Time
new_year year = record { year = year; day = 1; hundredths = 0 }

abbrev pub same_time : Time → Time → Bool
same_time t u = eqb t.year u.year && (eqb t.day u.day && eqb t.hundredths u.hundredths)

-- ---- Step

abbrev pub year_lengths : List ℕ
year_lengths = 365 ∷ 366 ∷ []

-- The length of a year: where the format carries the year, that year's own, and else the one that is given.
unfoldable pub length_in : Format → ℕ → ℕ → ℕ
length_in f year given = cond (carries_year f) (days_in year) given

-- number 11: the year's length is 365 or 366, and the day is not beyond it
unfoldable pub in_year : Time → ℕ → Bool
in_year t length = member length year_lengths && leb t.day length

-- day + 1, and after the year's last day day 1
unfoldable pub day_after : ℕ → ℕ → ℕ
day_after day length = cond (eqb day length) 1 (day + 1)

-- the day after which day 1 comes: the year's last, in X day 1
unfoldable pub turn_day : Format → ℕ → ℕ
turn_day f length = cond (is_x f) 1 length

-- Year 99 is followed by 0.
unfoldable pub year_after : ℕ → ℕ
year_after year = cond (eqb year last_year) 0 (year + 1)

-- the year of the day after: where the format carries it, the next one after the year's last day
unfoldable pub year_of_day_after : Format → Time → ℕ → ℕ
year_of_day_after f t length = cond (carries_year f && eqb t.day length) (year_after t.year) t.year

-- The kind of a day: usual, a second added, a second taken.
abbrev pub usual : ℕ
usual = 0

abbrev pub second_added : ℕ
second_added = 1

abbrev pub second_taken : ℕ
second_taken = 2

abbrev pub kinds : List ℕ
kinds = usual ∷ second_added ∷ second_taken ∷ []

-- 86,400 seconds, 86,401 or 86,399
unfoldable pub day_length_of : ℕ → ℕ
day_length_of kind = cond (eqb kind second_added) 8640100 (cond (eqb kind second_taken) 8639900 day_length)

-- where a day of the kind ends; D, E, H and X step as usual for every kind
unfoldable pub day_end : Format → ℕ → ℕ
day_end f kind = cond (carries_leap f) (day_length_of kind) day_length

-- number 15: the kind is at most 2, and c is not past the end of a day of that kind (in D, E, H and X 14 has asked that before)
unfoldable pub on_day : Format → Time → ℕ → Bool
on_day f t kind = member kind kinds && ltb t.hundredths (day_end f kind)

-- the next frame of the same day
abbrev pub same_day : Format → Time → Time
same_day f t = same_day_at t (t.hundredths + interval f)

-- the first frame of the day after
abbrev pub next_day : Format → Time → ℕ → Time
next_day f t length = record { year = year_of_day_after f t length; day = day_after t.day (turn_day f length); hundredths = 0 }

-- c + S, or at the day's end the day after and c = 0
unfoldable pub following : Format → Time → ℕ → ℕ → Time
following f t length kind = cond (eqb (t.hundredths + interval f) (day_end f kind)) (next_day f t length) (same_day f t)

-- Both steps, and Write, check the time that is given with 1, 17, 2, 14.
abbrev pub time_checks : Format → Time → List Check
time_checks f t =
    (UnknownFormat, known f)  -- 1
    ∷ (InvalidYear, year_carried f t.year)  -- 17
    ∷ (InvalidTime, on_format f t)  -- 2
    ∷ (SecondNotCarried, second_carried f t)  -- 14
    ∷ []

-- Both steps go on with 11, 15. The kind is that of the earlier time's day.
abbrev pub step_checks : Format → Time → ℕ → ℕ → List Check
step_checks f t length kind =
    time_checks f t
    ++ ((InvalidYearLength, in_year t length)  -- 11
    ∷ (InvalidKind, on_day f t kind)  -- 15
    ∷ [])

abbrev pub check_step : Format → Time → ℕ → ℕ → Result Time Refusal → Result Time Refusal
check_step f t length kind answer = checks Err (step_checks f t length kind) answer

-- Step in a year of that length
abbrev pub step_by : Format → Time → ℕ → ℕ → Result Time Refusal
step_by f t length kind = check_step f t length kind (Ok (following f t length kind))

-- The length is that of the time's year.
unfoldable pub step_of : Format → Time → ℕ → ℕ → Result Time Refusal
step_of f t given kind = step_by f t (length_in f t.year given) kind

-- u is the step of t for a year length and a kind that Step takes
abbrev pub Follows : Format → Time → Time → Type 0
Follows f t u = (length : ℕ) × (kind : ℕ) × (step_of f t length kind ≡ Ok u)

abbrev pub steps_to : Result Time Refusal → Time → Bool
steps_to (Ok v) u = same_time v u
steps_to (Err r) u = false

abbrev pub any : (ℕ → Bool) → List ℕ → Bool
any p [] = false
any p (x ∷ xs) = p x || any p xs

-- Without a known year and kind, u is next after t if some year length and some kind give it. Day 366 counts only with 366: Step refuses it with 365. Where the format carries the year, either gives what its own length does.
unfoldable pub next_after : Format → Time → Time → Bool
next_after f t u = any (λ length. any (λ kind. steps_to (step_of f t length kind) u) kinds) year_lengths

-- u is day 1 and v is day 366, both at midnight
pub record YearTurn (u v : Time) : Type 0 where
  pub is_new_year : u.day ≡ 1
  pub new_midnight : u.hundredths ≡ 0
  pub is_leap_day : v.day ≡ 366
  pub leap_midnight : v.hundredths ≡ 0

-- u is 23:59:59 or 23:59:60, where a day of another kind ends, and v is midnight
pub record LeapTurn (f : Format) (u v : Time) : Type 0 where
  pub carried : carries_leap f ≡ true
  pub late : (u.hundredths ≡ 8639900) ⊎ (u.hundredths ≡ day_length)
  pub midnight : v.hundredths ≡ 0

abbrev pub Turn : Format → Time → Time → Type 0
Turn f u v = YearTurn u v ⊎ LeapTurn f u v

-- ---- Step back

-- day - 1, and before day 1 the year's last day
unfoldable pub day_before : ℕ → ℕ → ℕ
day_before day length = cond (eqb day 1) length (day - 1)

-- Before year 0 comes 99.
unfoldable pub year_before : ℕ → ℕ
year_before year = cond (eqb year 0) last_year (year - 1)

-- the year of the time before: where the format carries it, the one before at day 1, c = 0
unfoldable pub year_of_time_before : Format → Time → ℕ
year_of_time_before f t = cond (carries_year f && (eqb t.day 1 && eqb t.hundredths 0)) (year_before t.year) t.year

-- the frame before on the same day
abbrev pub same_day_before : Format → Time → Time
same_day_before f t = same_day_at t (t.hundredths - interval f)

-- the last frame of the day before, which is of that kind
abbrev pub last_before : Format → Time → ℕ → ℕ → Time
last_before f t length kind = record { year = year_of_time_before f t; day = day_before t.day (turn_day f length); hundredths = day_end f kind - interval f }

-- c - S, or at c = 0 the last frame of the day before
unfoldable pub preceding : Format → Time → ℕ → ℕ → Time
preceding f t length kind = cond (eqb t.hundredths 0) (last_before f t length kind) (same_day_before f t)

-- The length and the kind are those of the time before; the checks are Step's.
abbrev pub step_back_by : Format → Time → ℕ → ℕ → Result Time Refusal
step_back_by f t length kind = check_step f t length kind (Ok (preceding f t length kind))

unfoldable pub step_back_of : Format → Time → ℕ → ℕ → Result Time Refusal
step_back_of f t given kind = step_back_by f t (length_in f (year_of_time_before f t) given) kind

-- t is the step back of u for a year length and a kind that it takes
abbrev pub Precedes : Format → Time → Time → Type 0
Precedes f t u = (length : ℕ) × (kind : ℕ) × (step_back_of f u length kind ≡ Ok t)

-- ---- Write

-- the bytes as which a time and a control word are written
unfoldable pub written : Format → Time → ℕ → List ℕ
written f t w = encode (size f) (filler f) (runs f) (all_digits (fields f) (numbers f t w))

-- how many control bits the format carries
abbrev pub total_width : Field → ℕ
total_width [] = 0
total_width (r ∷ rs) = r.width + total_width rs

-- number 9: the control word needs no more bits than are carried
unfoldable pub control_fits : Format → ℕ → Bool
control_fits f w = ltb w (2 ^ total_width (control f))

-- the time and the control word are ones that Write takes in the format
pub record Valid (f : Format) (t : Time) (w : ℕ) : Type 0 where
  pub format : known f ≡ true
  pub time : OnFormat f t
  pub room : w < 2 ^ total_width (control f)

-- Write checks 1, 17, 2, 14, then 9, 3.
abbrev pub write_checks : Format → Time → ℕ → List ℕ → List Check
write_checks f t w lent =
    time_checks f t
    ++ ((ControlTooLong, control_fits f w)  -- 9
    ∷ (WrongLength, eqb (length lent) (size f))  -- 3
    ∷ [])

unfoldable pub write_of : Format → Time → ℕ → List ℕ → Result Unit Refusal
write_of f t w lent = checks Err (write_checks f t w lent) done

-- lent memory after a call: new contents where it was done, and the old where it was refused
abbrev pub left : {Any : Type 0} → Result Unit Refusal → List Any → List Any → List Any
left (Ok u) new old = new
left (Err r) new old = old

-- the lent frame after Write: every byte is set, or none
unfoldable pub write_leaves : Format → Time → ℕ → List ℕ → List ℕ
write_leaves f t w lent = left (write_of f t w lent) (written f t w) lent

-- the frames of u and v, whatever the control words, differ in at least seven elements: they do not agree off fewer
abbrev pub Apart : Format → Time → Time → Type 0
Apart f u v = (a b : ℕ) (qs : List ℕ) → length qs < 7
    → ((i : ℕ) → i < size f → member i qs ≡ false → get_or (written f u a) i 0 ≡ get_or (written f v b) i 0) → ⊥

-- ---- Read

-- number 4: no symbol above 3
abbrev pub are_symbols : List ℕ → Bool
are_symbols [] = true
are_symbols (s ∷ ss) = is_symbol s && are_symbols ss

-- some run covers the index
abbrev pub covered : List Run → ℕ → Bool
covered [] i = false
covered (r ∷ rs) i = in_run r i || covered rs i

-- a mark belongs at index i: no run covers it, and the filler there is a mark
abbrev pub mark_belongs : (ℕ → ℕ) → List Run → ℕ → Bool
mark_belongs fillers rs i = not (covered rs i) && eqb (fillers i) 2

-- number 5: symbol s at index i is a mark exactly where one belongs
unfoldable pub marks_agree : (ℕ → ℕ) → List Run → ℕ → ℕ → Bool
marks_agree fillers rs i s = cond (mark_belongs fillers rs i) (eqb s 2) (not (eqb s 2))

-- number 6: 0 or 1 in the place of a digit, SBS or control bit, and elsewhere the filler
unfoldable pub element_fits : (ℕ → ℕ) → List Run → ℕ → ℕ → Bool
element_fits fillers rs i s = cond (covered rs i) (ltb s 2) (eqb s (fillers i))

-- The lowest index that offends, counted from i on, decides.
unfoldable pub check_elements : (ℕ → ℕ) → List Run → ℕ → List ℕ → Result Reading Refusal → Result Reading Refusal
check_elements fillers rs i [] answer = answer
check_elements fillers rs i (s ∷ ss) answer =
    check Err (MisplacedMark i) (marks_agree fillers rs i s)  -- 5
    (check Err (InvalidElement i) (element_fits fillers rs i s)  -- 6
    (check_elements fillers rs (suc i) ss answer))

-- every digit is at most 9
abbrev pub are_digits : List ℕ → List Run → Bool
are_digits frame [] = true
are_digits frame (r ∷ rs) = leb (digit_in frame r) 9 && are_digits frame rs

-- the last second of a minute: the 61st at 23:59 only, in A, B and G only
unfoldable pub last_second : Format → ℕ → ℕ → ℕ
last_second f hour minute = cond (carries_leap f && (eqb hour 23 && eqb minute 59)) 60 59

-- the day that the digits say; X has none, and its day is 1
unfoldable pub day_in : Format → List ℕ → ℕ
day_in f frame = cond (is_x f) 1 (number_in frame (days f))

-- number 7: no digit over 9, hours over 23, minutes over 59, seconds over the minute's last, day 0 or over 366, or over the last of a year that the format carries
unfoldable pub is_time : Format → List ℕ → Bool
is_time f frame =
    are_digits frame (flatten (time_fields f) ++ years f)
    && (leb (number_in frame (hours f)) 23
    && (leb (number_in frame (minutes f)) 59
    && (leb (number_in frame (seconds f)) (last_second f (number_in frame (hours f)) (number_in frame (minutes f)))
    && (leb 1 (day_in f frame) && leb (day_in f frame) (last_day_in f (number_in frame (years f)))))))

-- the time that the digits say
unfoldable pub time_in : Format → List ℕ → Time
time_in f frame =
    record {
      year = number_in frame (years f);
      day = day_in f frame;
      hundredths = ((number_in frame (hours f) * 60 + number_in frame (minutes f)) * 60 + number_in frame (seconds f)) * 100 + number_in frame (tenths f) * 10 + number_in frame (hundredths_digit f);
    }

-- number 8: where SBS is carried it is the seconds that the digits say
unfoldable pub seconds_agree : Format → List ℕ → Bool
seconds_agree f frame = cond (has_seconds f) (eqb (number_in frame (straight_seconds f)) ((time_in f frame).hundredths / 100)) true

-- Read checks 1, 3, 4, then the lowest index that offends with 5 or 6, then 7, 8.
abbrev pub frame_checks : Format → List ℕ → List Check
frame_checks f frame =
    (UnknownFormat, known f)  -- 1
    ∷ (WrongLength, eqb (length frame) (size f))  -- 3
    ∷ (UnknownSymbol, are_symbols frame)  -- 4
    ∷ []

abbrev pub digit_checks : Format → List ℕ → List Check
digit_checks f frame =
    (InvalidDigit, is_time f frame)  -- 7
    ∷ (SecondsDiffer, seconds_agree f frame)  -- 8
    ∷ []

unfoldable pub read_of : Format → List ℕ → Result Reading Refusal
read_of f frame =
    checks Err (frame_checks f frame)
    (check_elements (filler f) (runs f) 0 frame
    (checks Err (digit_checks f frame)
    (accepted (time_in f frame) (number_in frame (control f)))))

-- ---- Generator

-- a frame that a generator sends
pub record Sent : Type 0 where
  pub time : Time
  pub control : ℕ

-- stands for a frame past the last, which nothing asks for
abbrev pub no_frame : Sent
no_frame = record { time = no_time; control = 0 }

-- Its first time and all its control words are any that Write takes. Each time is the step of the last for a year length and a kind that Step takes, chosen anew at each step.
pub record Generator (f : Format) (sent : List Sent) : Type 0 where
  pub takes : (j : ℕ) → j < length sent → (lent : List ℕ) → length lent ≡ size f → write_of f (get_or sent 0 no_frame).time (get_or sent j no_frame).control lent ≡ done
  pub steps : (j : ℕ) → suc j < length sent → Follows f (get_or sent j no_frame).time (get_or sent (suc j) no_frame).time

-- Its elements are the bytes of its frames, one after another.
unfoldable pub elements : Format → List Sent → List ℕ
elements f [] = []
elements f (s ∷ ss) = written f s.time s.control ++ elements f ss

-- the frame that was sent as number j, from 0
abbrev pub sent_at : List Sent → ℕ → Sent
sent_at sent j = get_or sent j no_frame

-- the first k elements are those of whole frames, and t is the time of the last of these
pub record EndsFrame (f : Format) (sent : List Sent) (k : ℕ) (t : Time) : Type 0 where
  pub frame : ℕ
  pub inside : frame < length sent
  pub whole : k ≡ size f * suc frame
  pub time : t ≡ (sent_at sent frame).time
