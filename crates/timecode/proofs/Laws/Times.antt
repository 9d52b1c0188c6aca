-- A time that Write takes has digits that fit the format's runs, and the digits that stand in those runs say a time on the format's grid.
use Rattle.std.specs.Prelude.{◌≡◌, refl, true, false, ◌&&◌, List, ℕ, ◌/◌, ◌%◌, ◌≤◌, ◌<◌, leb, eqb}
use Rattle.std.proofs.Common.{arith, leb-true, ltb-true, eqb-true, le-leb, lt-ltb, eq-eqb}
use Rattle.timecode.specs.Formats.{is_x, table, look_up, row_of, known, interval, carries_year, last_year, days_in, year_carried, last_day_in, last_day, last_hundredth, day_length, in_range, on_format, carries_leap, second_carried, OnFormat}
use Rattle.timecode.specs.Frames.{same_time, time_in}
use Rattle.timecode.proofs.Laws.Table.{year-not-x, by-letter}
use Rattle.timecode.proofs.Laws.Tests.{by-test, and_left, and_right}
use Rattle.timecode.specs.Layout.{day_carried, seconds, minutes, hours, days, tenths, hundredths_digit, time_fields, flatten, added_in, second, minute, hour, time_numbers, all_digits, Small, decode}
use Rattle.timecode.specs.declared.Format.{Format}
use Rattle.timecode.specs.declared.Time.{Time}
use Rattle.timecode.specs.Laws.Times.{at, FitsLetter, Grid}

-- ---- two times are one

pub time-path : (t u : Time) → t.year ≡ u.year → t.day ≡ u.day → t.hundredths ≡ u.hundredths → t ≡ u
time-path t u y p q = λ i. record { year = y i; day = p i; hundredths = q i }

pub same-is : (t u : Time) → same_time t u ≡ true → t ≡ u
same-is t u h =
    let y = eqb t.year u.year in
    let d = eqb t.day u.day in
    let c = eqb t.hundredths u.hundredths in
    let k = and_right y (d && c) h in
    time-path t u (eqb-true t.year u.year (and_left y (d && c) h)) (eqb-true t.day u.day (and_left d c k)) (eqb-true t.hundredths u.hundredths (and_right d c k))

pub same_self : (t : Time) → same_time t t ≡ true
same_self t = rw (eq-eqb t.year t.year refl, eq-eqb t.day t.day refl, eq-eqb t.hundredths t.hundredths refl)

-- ---- a time on the format

second-carried : (f : Format) (t : Time) → second_carried f t ≡ true → carries_leap f ≡ false → t.hundredths < day_length
unfolding second_carried
second-carried f t h m = ltb-true t.hundredths day_length (rw m at h)

-- a year has 365 or 366 days
pub days-range : (year : ℕ) → (365 ≤ days_in year) × (days_in year ≤ last_day)
unfolding days_in
days-range year = by-test (eqb (year % 4) 0) (λ y. rw y (omega arith)) (λ m. rw m (omega arith))

pub last-range : (f : Format) (year : ℕ) → (1 ≤ last_day_in f year) × (last_day_in f year ≤ last_day)
unfolding last_day_in
last-range f year =
    by-test (is_x f)
    (λ x. rw x (omega arith))
    (λ n. by-test (carries_year f) (λ y. rw (n, y) (omega (arith, days-range year))) (λ m. rw (n, m) (omega arith)))

-- number 2 passes a day that the year has
pub day-in-year : (f : Format) (t : Time) → on_format f t ≡ true → t.day ≤ last_day_in f t.year
unfolding on_format in_range
day-in-year f t h =
    let last = last_day_in f t.year in
    let range = and_left (leb 1 t.day && (leb t.day last && leb t.hundredths last_hundredth)) (eqb (t.hundredths % interval f) 0) h in
    leb-true t.day (last_day_in f t.year) (and_left (leb t.day last) (leb t.hundredths last_hundredth) (and_right (leb 1 t.day) (leb t.day last && leb t.hundredths last_hundredth) range))

pub on-format : (f : Format) (t : Time) → year_carried f t.year ≡ true → on_format f t ≡ true → second_carried f t ≡ true → OnFormat f t
unfolding on_format in_range
on-format f t y h s =
    let last = last_day_in f t.year in
    let range = and_left (leb 1 t.day && (leb t.day last && leb t.hundredths last_hundredth)) (eqb (t.hundredths % interval f) 0) h in
    let ends = and_right (leb 1 t.day) (leb t.day last && leb t.hundredths last_hundredth) range in
    record {
      year_is = y;
      first = leb-true 1 t.day (and_left (leb 1 t.day) (leb t.day last && leb t.hundredths last_hundredth) range);
      within_year = day-in-year f t h;
      last = omega (arith, day-in-year f t h, last-range f t.year);
      below = leb-true t.hundredths last_hundredth (and_right (leb t.day last) (leb t.hundredths last_hundredth) ends);
      grid = eqb-true (t.hundredths % interval f) 0 (and_right (leb 1 t.day && (leb t.day last && leb t.hundredths last_hundredth)) (eqb (t.hundredths % interval f) 0) h);
      carried = second-carried f t s;
    }

pub is-on-format : (f : Format) (t : Time) → OnFormat f t → on_format f t ≡ true
unfolding on_format in_range
is-on-format f t o = rw (le-leb 1 t.day o.first, le-leb t.day (last_day_in f t.year) o.within_year, le-leb t.hundredths last_hundredth o.below, eq-eqb (t.hundredths % interval f) 0 o.grid)

pub is_carried : (f : Format) (t : Time) → OnFormat f t → second_carried f t ≡ true
unfolding second_carried
is_carried f t o = by-test (carries_leap f) (λ y. rw y) (λ m. rw m (lt-ltb t.hundredths day_length (o.carried m)))

-- ---- the year

-- where the format carries the year it is at most 99, elsewhere it is 0
pub year-small : (f : Format) (year : ℕ) → year_carried f year ≡ true → carries_year f ≡ true → year ≤ last_year
unfolding year_carried
year-small f year h y = leb-true year last_year (rw y at h)

pub year-none : (f : Format) (year : ℕ) → year_carried f year ≡ true → carries_year f ≡ false → year ≡ 0
unfolding year_carried
year-none f year h m = eqb-true year 0 (rw m at h)

pub year-carried : (f : Format) (year : ℕ) → (carries_year f ≡ true → year ≤ last_year) → (carries_year f ≡ false → year ≡ 0) → year_carried f year ≡ true
unfolding year_carried
year-carried f year a b = by-test (carries_year f) (λ y. rw y (le-leb year last_year (a y))) (λ m. rw m (eq-eqb year 0 (b m)))

pub year-below : (f : Format) (year : ℕ) → year_carried f year ≡ true → year ≤ last_year
year-below f year h = by-test (carries_year f) (year-small f year h) (λ m. omega (arith, year-none f year h m))

-- the year's last day where the format carries the year, where it does not, and in X
pub last-known : (f : Format) (year : ℕ) → carries_year f ≡ true → last_day_in f year ≡ days_in year
unfolding last_day_in
last-known f year y = rw (year-not-x f y, y)

pub last-unknown : (f : Format) (year : ℕ) → is_x f ≡ false → carries_year f ≡ false → last_day_in f year ≡ last_day
unfolding last_day_in
last-unknown f year n m = rw (n, m)

pub last-x : (f : Format) (year : ℕ) → is_x f ≡ true → last_day_in f year ≡ 1
unfolding last_day_in
last-x f year x = rw x

-- the one day of X
pub only-day : (f : Format) (t : Time) → OnFormat f t → is_x f ≡ true → t.day ≡ 1
only-day f t o x = omega (arith, o.first, o.within_year, last-x f t.year x)

-- the day in the digits
pub carried-day : (f : Format) (t : Time) → is_x f ≡ false → day_carried f t ≡ t.day
unfolding day_carried
carried-day f t n = rw n

pub carried-small : (f : Format) (t : Time) → day_carried f t ≤ t.day
unfolding day_carried
carried-small f t = by-test (is_x f) (λ x. rw x (omega arith)) (λ n. rw n (omega arith))

-- ---- digits

-- seconds, minutes and hours before the added second
pub none-added : (c : ℕ) → c < day_length → (second c ≡ c / 100 % 60) × (minute c ≡ c / 100 / 60 % 60) × (hour c ≡ c / 100 / 60 / 60)
none-added c h = let z : added_in c ≡ 0 = omega arith in rw z (omega arith)

-- the added second is 23:59:60
pub one-added : (c : ℕ) → day_length ≤ c → c ≤ last_hundredth → (second c ≡ 60) × (minute c ≡ 59) × (hour c ≡ 23)
one-added c a b =
    let z : added_in c ≡ 1 = omega arith in
    let q : c / 100 ≡ 86400 = omega arith in
    rw (z, q) (refl, refl, refl)

fits : (f : Format) → known f ≡ true → FitsLetter f.letter
unfolding time_fields seconds minutes hours days tenths hundredths_digit time_numbers day_carried is_x interval row_of look_up table carries_leap
fits =
    by-letter FitsLetter (λ e t o. omega arith) (λ e t o. omega arith)
    (λ e t o. rw ((none-added t.hundredths (o.carried refl)).0, (none-added t.hundredths (o.carried refl)).1, (none-added t.hundredths (o.carried refl)).2) (omega arith))
    (λ e t o. rw ((none-added t.hundredths (o.carried refl)).0, (none-added t.hundredths (o.carried refl)).1, (none-added t.hundredths (o.carried refl)).2) (omega arith))
    (λ e t o. omega arith)
    (λ e t o. rw ((none-added t.hundredths (o.carried refl)).0, (none-added t.hundredths (o.carried refl)).1, (none-added t.hundredths (o.carried refl)).2) (omega arith))
    (λ e t o. rw ((none-added t.hundredths (o.carried refl)).0, (none-added t.hundredths (o.carried refl)).1, (none-added t.hundredths (o.carried refl)).2) (omega arith))

-- the digits of a time on the format fit their runs
pub time-small : (f : Format) (t : Time) → known f ≡ true → OnFormat f t → Small (flatten (time_fields f)) (all_digits (time_fields f) (time_numbers f t))
time-small f t k o = fits f k f.expression t o

grids : (f : Format) → known f ≡ true → Grid f.letter
unfolding time_fields seconds minutes hours days tenths hundredths_digit time_in is_x interval row_of look_up table
grids = by-letter Grid (λ e frame s. omega arith) (λ e frame s. omega arith) (λ e frame s. omega arith) (λ e frame s. omega arith) (λ e frame s. omega arith) (λ e frame s. omega arith) (λ e frame s. omega arith)

-- the interval divides the hundredths that the digits say
pub time-grid : (f : Format) (frame : List ℕ) → known f ≡ true → Small (flatten (time_fields f)) (decode (flatten (time_fields f)) frame) → (time_in f frame).hundredths % interval f ≡ 0
time-grid f frame k s = grids f k f.expression frame s
