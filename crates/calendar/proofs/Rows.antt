-- Worked rows, by computation: the leap rule, the lengths of the months and the ends of windows, which the theorems leave free.
use Rattle.std.specs.Prelude.{◌≡◌, refl, true, false, [], ◌∷◌, Ok, Err, Some, None}
use Rattle.timecode.specs.Formats.{days_in}
use Rattle.timecode.specs.declared.Refusal.TheVariants.{InvalidTime, InvalidYear, InvalidDate, InvalidWindow}
use Rattle.calendar.specs.Dates.{month_lengths, place_in, day_in, has_day, has_date, date_of, day_of}
use Rattle.calendar.specs.Moments.{earlier, holds, mask_of, edges_of, nearer, next_of, ask_of, asked}
use Rattle.calendar.specs.Windows.{add_answer}
use Rattle.calendar.specs.Rows.{date, lasts, midnight, both, on, moment, at}

pub is_leap_day : date_of 24 60 ≡ Ok (date 24 2 29)
unfolding date_of has_day days_in place_in month_lengths
is_leap_day = refl

pub no-leap-day : date_of 23 60 ≡ Ok (date 23 3 1)
unfolding date_of has_day days_in place_in month_lengths
no-leap-day = refl

pub last_day : day_of (date 0 12 31) ≡ Ok 366
unfolding day_of has_date day_in month_lengths days_in
last_day = refl

pub no-day-366 : date_of 99 366 ≡ Err InvalidDate
unfolding date_of has_day days_in place_in month_lengths
no-day-366 = refl

pub no-29-february : day_of (date 25 2 29) ≡ Err InvalidDate
unfolding day_of has_date day_in month_lengths days_in
no-29-february = refl

pub year-100 : date_of 100 367 ≡ Err InvalidYear
unfolding date_of has_day days_in place_in month_lengths
year-100 = refl

pub no-31-april : day_of (date 24 4 31) ≡ Err InvalidDate
unfolding day_of has_date day_in month_lengths days_in
no-31-april = refl

pub no-month-13 : day_of (date 24 13 1) ≡ Err InvalidDate
unfolding day_of has_date day_in month_lengths days_in
no-month-13 = refl

pub no-day-0 : date_of 24 0 ≡ Err InvalidDate
unfolding date_of has_day days_in place_in month_lengths
no-day-0 = refl

pub months-of-99 : lasts 99 28 ≡ 31 ∷ 59 ∷ 90 ∷ 120 ∷ 151 ∷ 181 ∷ 212 ∷ 243 ∷ 273 ∷ 304 ∷ 334 ∷ 365 ∷ []
unfolding day_in month_lengths days_in
months-of-99 = refl

pub months-of-0 : lasts 0 29 ≡ 31 ∷ 60 ∷ 91 ∷ 121 ∷ 152 ∷ 182 ∷ 213 ∷ 244 ∷ 274 ∷ 305 ∷ 335 ∷ 366 ∷ []
unfolding day_in month_lengths days_in
months-of-0 = refl

-- ---- two windows of 2024, the second inside the first: days 60 to 70, and 62 to 65

pub at-start : ask_of both (midnight 60) ≡ asked 1 (Some (midnight 62))
unfolding ask_of has_day days_in mask_of holds edges_of next_of nearer earlier
at-start = refl

pub inside_both : ask_of both (midnight 62) ≡ asked 3 (Some (midnight 65))
unfolding ask_of has_day days_in mask_of holds edges_of next_of nearer earlier
inside_both = refl

pub at-end : ask_of both (midnight 70) ≡ asked 0 None
unfolding ask_of has_day days_in mask_of holds edges_of next_of nearer earlier
at-end = refl

-- a window that ends as it starts
pub no_length : add_answer 0 (on 29) (on 29) ≡ Err InvalidWindow
unfolding add_answer has_date day_in month_lengths days_in earlier
no_length = refl

pub no-33rd : add_answer 32 (on 28) (on 29) ≡ Err InvalidWindow
unfolding add_answer has_date day_in month_lengths days_in earlier
no-33rd = refl

-- ---- the order of moments: by year before day, by day before hundredth

pub year-first : earlier (moment 24 366 8640099) (moment 25 1 0) ≡ true
unfolding earlier
year-first = refl

pub day-next : earlier (moment 24 60 8640099) (moment 24 61 0) ≡ true
unfolding earlier
day-next = refl

pub not-year-last : earlier (moment 25 1 0) (moment 24 366 8640099) ≡ false
unfolding earlier
not-year-last = refl

-- ---- the order of the numbers, each asked of both ends before the next

pub end-17-before-2 : add_answer 32 (at 24 2 30 8640100) (at 100 2 30 8640100) ≡ Err InvalidYear
unfolding add_answer has_date day_in month_lengths days_in earlier
end-17-before-2 = refl

pub end-2-before-22 : add_answer 32 (at 24 2 30 0) (at 24 2 30 8640100) ≡ Err InvalidTime
unfolding add_answer has_date day_in month_lengths days_in earlier
end-2-before-22 = refl

pub end-22-before-21 : add_answer 32 (at 24 2 29 0) (at 24 2 30 0) ≡ Err InvalidDate
unfolding add_answer has_date day_in month_lengths days_in earlier
end-22-before-21 = refl

pub ask-17-before-2 : ask_of both (moment 100 0 8640100) ≡ Err InvalidYear
unfolding ask_of has_day days_in
ask-17-before-2 = refl

pub ask-2-before-22 : ask_of both (moment 99 366 8640100) ≡ Err InvalidTime
unfolding ask_of has_day days_in
ask-2-before-22 = refl
