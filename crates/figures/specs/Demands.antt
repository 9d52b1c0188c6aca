-- What holds of the figures: they are those by which Write, the frame and the digits go; and worked rows for every format and for the ends of a day.
use Rattle.std.specs.Prelude.{◌≡◌, refl, true, [], ◌∷◌, ℕ, ◌+◌, ◌*◌, ◌/◌, ◌%◌, ◌^◌, ◌≤◌, ltb, length}
use Rattle.std.proofs.Common.{arith, ltb-true, ltb-false}
use Rattle.timecode.specs.Formats.{A, B, D, E, G, H, X, table, look_up, row_of, known, size, interval, carries_control, carries_year, control_places, day_length, last_day, last_hundredth, in_range}
use Rattle.timecode.specs.Frames.{written, control_fits}
use Rattle.timecode.proofs.Laws.Tests.{by-test}
use Rattle.timecode.proofs.Laws.Times.{none-added, one-added}
use Rattle.timecode.proofs.Laws.Writing.{length-written}
use Rattle.timecode.specs.Layout.{control, hour, minute, second, day_carried, time_numbers}
use Rattle.timecode.specs.declared.Format.{Format}
use Rattle.timecode.specs.declared.Time.{Time}
use Rattle.figures.specs.Figures.{format_figures_of, clock_of, time_of_day_of}
use Rattle.figures.specs.Ranges.{range-hundredths}
use Rattle.figures.specs.declared.FormatFiguresResult.{FormatFiguresResult}
use Rattle.figures.specs.declared.TimeOfDayResult.{TimeOfDayResult}

-- ---- a format

-- a written frame has as many elements as the figures say
pub elements-are-written : (f : Format) → known f ≡ true → (t : Time) (w : ℕ) → length (written f t w) ≡ (format_figures_of f).elements
unfolding format_figures_of
elements-are-written f k t w = rw k (length-written f t w)

-- the control words that Write takes are those that need no more bits than the figures say
pub control-bits-are-carried : (f : Format) → known f ≡ true → (w : ℕ) → control_fits f w ≡ ltb w (2 ^ (format_figures_of f).control_bits)
unfolding format_figures_of control_fits
control-bits-are-carried f k w = rw k

-- ---- the time of day

-- the four numbers of a clock, and the hundredths since midnight that they say
pub record OnClock (r : TimeOfDayResult) (c : ℕ) : Type 0 where
  pub hour_is : r.hour ≤ 23
  pub minute_is : r.minute ≤ 59
  pub second_is : r.second ≤ 60
  pub hundredth_is : r.hundredth ≤ 99
  pub same : ((r.hour * 60 + r.minute) * 60 + r.second) * 100 + r.hundredth ≡ c

usual-clock : (c : ℕ) → ltb c day_length ≡ true → OnClock (clock_of c) c
usual-clock c y =
    let h = ltb-true c day_length y in
    let n = none-added c h in
    record {
      hour_is = omega (arith, n.2);
      minute_is = omega (arith, n.1);
      second_is = omega (arith, n.0);
      hundredth_is = omega arith;
      same = rw (n.0, n.1, n.2) (omega arith);
    }

added-clock : (c : ℕ) → c ≤ last_hundredth → day_length ≤ c → OnClock (clock_of c) c
added-clock c b a =
    let n = one-added c a b in
    record {
      hour_is = omega (arith, n.2);
      minute_is = omega (arith, n.1);
      second_is = omega (arith, n.0);
      hundredth_is = omega arith;
      same = rw (n.0, n.1, n.2) (omega arith);
    }

-- every time in range has such a clock, and no two c have one
pub time-of-day-says : (t : Time) → in_range last_day t ≡ true → OnClock (time_of_day_of t) t.hundredths
unfolding time_of_day_of
time-of-day-says t h =
    rw h
    (by-test (ltb t.hundredths day_length)
    (λ y. usual-clock t.hundredths y)
    (λ n. added-clock t.hundredths (range-hundredths t h) (ltb-false t.hundredths day_length n)))

-- it is what Write puts into the digits of seconds, minutes, hours, tenths and hundredths
pub time-of-day-is-written : (f : Format) (t : Time) → in_range last_day t ≡ true
    → time_numbers f t ≡ (time_of_day_of t).second ∷ (time_of_day_of t).minute ∷ (time_of_day_of t).hour ∷ day_carried f t ∷ (time_of_day_of t).hundredth / 10 ∷ (time_of_day_of t).hundredth % 10 ∷ []
unfolding time_of_day_of time_numbers
time-of-day-is-written f t h =
    rw h
    (
    let c = t.hundredths in
    let tenth : c / 10 % 10 ≡ c % 100 / 10 = omega arith in
    let hundredth : c % 10 ≡ c % 100 % 10 = omega arith in
    λ i. second c ∷ minute c ∷ hour c ∷ day_carried f t ∷ tenth i ∷ hundredth i ∷ [])

-- ---- worked rows

abbrev figures : ℕ → ℕ → FormatFiguresResult
figures letter expression = format_figures_of (record { letter = letter; expression = expression })

abbrev given : ℕ → ℕ → ℕ → FormatFiguresResult
given elements interval bits = record { number = 0; control_bits = bits; interval = interval; elements = elements }

abbrev one : FormatFiguresResult
one = record { number = 1; control_bits = 0; interval = 0; elements = 0 }

-- every format, and around each letter's expressions what is none
pub format-rows :
    figures A 0 ∷ figures A 1 ∷ figures A 2 ∷ figures A 3 ∷ figures A 4 ∷ figures A 5 ∷ figures A 6 ∷ figures A 7 ∷ figures A 8
    ∷ figures B 0 ∷ figures B 1 ∷ figures B 2 ∷ figures B 3 ∷ figures B 4 ∷ figures B 5 ∷ figures B 6 ∷ figures B 7 ∷ figures B 8
    ∷ figures D 0 ∷ figures D 1 ∷ figures D 2 ∷ figures D 3 ∷ figures E 0 ∷ figures E 1 ∷ figures E 2 ∷ figures E 3
    ∷ figures G 0 ∷ figures G 1 ∷ figures G 2 ∷ figures G 3 ∷ figures H 0 ∷ figures H 1 ∷ figures H 2 ∷ figures H 3
    ∷ figures X 1 ∷ figures X 2 ∷ figures X 3 ∷ figures 67 1 ∷ figures 97 0 ∷ figures 0 0 ∷ []
    ≡ given 100 10 27 ∷ given 100 10 27 ∷ given 100 10 0 ∷ given 100 10 0 ∷ given 100 10 18 ∷ given 100 10 18 ∷ given 100 10 0 ∷ given 100 10 0 ∷ one
    ∷ given 100 100 27 ∷ given 100 100 27 ∷ given 100 100 0 ∷ given 100 100 0 ∷ given 100 100 18 ∷ given 100 100 18 ∷ given 100 100 0 ∷ given 100 100 0 ∷ one
    ∷ one ∷ given 60 360000 9 ∷ given 60 360000 0 ∷ one ∷ one ∷ given 100 1000 45 ∷ given 100 1000 0 ∷ one
    ∷ one ∷ given 100 1 36 ∷ given 100 1 0 ∷ one ∷ one ∷ given 60 6000 9 ∷ given 60 6000 0 ∷ one
    ∷ one ∷ given 25 100 0 ∷ one ∷ one ∷ one ∷ one ∷ []
unfolding format_figures_of known size interval row_of look_up table control control_places carries_control carries_year
format-rows = refl

abbrev at : ℕ → ℕ → ℕ → TimeOfDayResult
at year day hundredths = time_of_day_of (record { year = year; day = day; hundredths = hundredths })

abbrev clock : ℕ → ℕ → ℕ → ℕ → TimeOfDayResult
clock hour minute second hundredth = record { number = 0; hour = hour; minute = minute; second = second; hundredth = hundredth }

abbrev two : TimeOfDayResult
two = record { number = 2; hour = 0; minute = 0; second = 0; hundredth = 0 }

-- the ends of a day, of a second and of an added second; each thing out of range; any year
pub time-rows :
    at 0 1 0 ∷ at 0 366 99 ∷ at 0 191 5088032 ∷ at 99 1 8639999 ∷ at 0 1 8640000 ∷ at 255 366 8640099
    ∷ at 0 1 8640100 ∷ at 0 1 4294967295 ∷ at 0 0 0 ∷ at 0 367 0 ∷ at 0 65535 0 ∷ []
    ≡ clock 0 0 0 0 ∷ clock 0 0 0 99 ∷ clock 14 8 0 32 ∷ clock 23 59 59 99 ∷ clock 23 59 60 0 ∷ clock 23 59 60 99
    ∷ two ∷ two ∷ two ∷ two ∷ two ∷ []
unfolding time_of_day_of in_range
time-rows = refl
