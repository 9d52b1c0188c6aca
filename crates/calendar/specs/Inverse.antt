-- Month and day from day of year, and back: each undoes the other, by induction over the lengths of the months.
use Rattle.std.specs.Prelude.{◌≡◌, List, [], ◌∷◌, ℕ, ◌+◌, ◌-◌, ◌<◌, ◌≤◌, get_or, length}
use Rattle.calendar.specs.Dates.{month_lengths, place_in, day_in}
use Rattle.calendar.specs.declared.Date.{Date}
use Rattle.calendar.specs.declared.Place.{Place}

unfoldable pub sum : List ℕ → ℕ
sum [] = 0
sum (l ∷ ls) = l + sum ls

-- a day of a month that there is
pub record Placed (ls : List ℕ) (day : ℕ) (p : Place) : Type 0 where
  pub month : p.months < length ls
  pub first : 1 ≤ p.day
  pub last : p.day ≤ get_or ls p.months 0
  pub back : day_in ls p.months p.day ≡ day

-- the number of a day of a month
pub record Numbered (ls : List ℕ) (k day : ℕ) : Type 0 where
  pub some : 1 ≤ day_in ls k day
  pub within : day_in ls k day ≤ sum ls
  pub place : place_in ls (day_in ls k day) ≡ record { months = k; day = day }

-- a date that the year has, in numbers
pub record Has (d : Date) : Type 0 where
  pub month : 1 ≤ d.month
  pub last_month : d.month ≤ 12
  pub day : 1 ≤ d.day
  pub last_day : d.day ≤ get_or (month_lengths d.year) (d.month - 1) 0
