-- Document 02, "Test windows by date": month and day from day of year, and back.
use Rattle.timecode.specs.declared.Refusal.{Refusal}
use Rattle.std.specs.Prelude.{Bool, cond, ◌&&◌, List, [], ◌∷◌, ℕ, zero, suc, ◌+◌, ◌-◌, leb, eqb, pos, get_or, Result, Ok, Err}
use Rattle.timecode.specs.Answers.{Outcome, success, refusal_result, checks}
use Rattle.timecode.specs.Formats.{days_in, last_year}
use Rattle.timecode.specs.declared.Refusal.TheVariants.{InvalidYear, InvalidDate}
use Rattle.calendar.specs.declared.Date.{Date}
use Rattle.calendar.specs.declared.Place.{Place}

-- number 17
abbrev pub is_year : ℕ → Bool
is_year year = leb year last_year

abbrev pub is_leap : ℕ → Bool
is_leap year = eqb (days_in year) 366

unfoldable pub month_lengths : ℕ → List ℕ
month_lengths year = 31 ∷ cond (is_leap year) 29 28 ∷ 31 ∷ 30 ∷ 31 ∷ 30 ∷ 31 ∷ 31 ∷ 30 ∷ 31 ∷ 30 ∷ 31 ∷ []

abbrev pub next_month : Place → Place
next_month p = record { months = suc p.months; day = p.day }

-- a day by the months that it lies behind
unfoldable pub place_in : List ℕ → ℕ → Place
place_in [] day = record { months = 0; day = day }
place_in (l ∷ ls) day = cond (leb day l) (record { months = 0; day = day }) (next_month (place_in ls (day - l)))

-- the days of so many months, and a day
unfoldable pub day_in : List ℕ → ℕ → ℕ → ℕ
day_in ls zero day = day
day_in [] (suc k) day = day
day_in (l ∷ ls) (suc k) day = l + day_in ls k day

-- number 22: a day of year, or a month or day, that the year lacks
unfoldable pub has_day : ℕ → ℕ → Bool
has_day year day = leb 1 day && leb day (days_in year)

unfoldable pub has_date : Date → Bool
has_date d = leb 1 d.month && (leb d.month 12 && (leb 1 d.day && leb d.day (get_or (month_lengths d.year) (d.month - 1) 0)))

abbrev pub date_at : ℕ → Place → Date
date_at year p = record { year = year; month = 1 + p.months; day = p.day }

unfoldable pub date_of : ℕ → ℕ → Result Date Refusal
date_of year day =
    checks Err
    ((InvalidYear, is_year year)  -- 17
    ∷ (InvalidDate, has_day year day)  -- 22
    ∷ [])
    (Ok (date_at year (place_in (month_lengths year) day)))

abbrev pub day_number : Date → ℕ
day_number d = day_in (month_lengths d.year) (d.month - 1) d.day

unfoldable pub day_of : Date → Result ℕ Refusal
day_of d =
    checks Err
    ((InvalidYear, is_year d.year)  -- 17
    ∷ (InvalidDate, has_date d)  -- 22
    ∷ [])
    (Ok (day_number d))

-- ---- what the answers say

abbrev pub dated_result : Result Date Refusal → Outcome
dated_result (Ok d) = success (pos d.year ∷ pos d.month ∷ pos d.day ∷ [])
dated_result (Err x) = refusal_result x

abbrev pub counted_result : Result ℕ Refusal → Outcome
counted_result (Ok d) = success (pos d ∷ [])
counted_result (Err x) = refusal_result x
