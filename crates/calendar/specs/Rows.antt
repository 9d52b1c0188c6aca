-- Worked rows, by computation: the leap rule, the lengths of the months and the ends of windows, which the theorems leave free.
use Rattle.std.specs.Prelude.{List, [], ◌∷◌, ℕ}
use Rattle.timecode.specs.declared.Time.{Time}
use Rattle.calendar.specs.Dates.{day_number}
use Rattle.calendar.specs.declared.Date.{Date}
use Rattle.calendar.specs.declared.DateTime.{DateTime}
use Rattle.calendar.specs.declared.Window.{Window}

abbrev pub date : ℕ → ℕ → ℕ → Date
date y m d = record { year = y; month = m; day = d }

-- the last day of each month, in a year of 365 days and in one of 366, 2000
abbrev pub lasts : ℕ → ℕ → List ℕ
lasts year february =
    day_number (date year 1 31) ∷ day_number (date year 2 february) ∷ day_number (date year 3 31) ∷ day_number (date year 4 30)
    ∷ day_number (date year 5 31) ∷ day_number (date year 6 30) ∷ day_number (date year 7 31) ∷ day_number (date year 8 31)
    ∷ day_number (date year 9 30) ∷ day_number (date year 10 31) ∷ day_number (date year 11 30) ∷ day_number (date year 12 31) ∷ []

abbrev pub midnight : ℕ → Time
midnight day = record { year = 24; day = day; hundredths = 0 }

abbrev pub window : ℕ → ℕ → Window
window first last = record { start = midnight first; end = midnight last }

abbrev pub both : List Window
both = window 60 70 ∷ window 62 65 ∷ []

abbrev pub on : ℕ → DateTime
on day = record { date = date 24 2 day; hundredths = 0 }

abbrev pub moment : ℕ → ℕ → ℕ → Time
moment y d c = record { year = y; day = d; hundredths = c }

abbrev pub at : ℕ → ℕ → ℕ → ℕ → DateTime
at y m d c = record { date = date y m d; hundredths = c }
