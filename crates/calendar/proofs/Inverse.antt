-- Month and day from day of year, and back: each undoes the other, by induction over the lengths of the months.
use Rattle.std.specs.Prelude.{◌≡◌, refl, true, ◌&&◌, List, [], ◌∷◌, ℕ, zero, suc, ◌+◌, ◌-◌, ◌%◌, ◌<◌, ◌≤◌, leb, eqb, get_or, length, Result, Ok, Err}
use Rattle.std.proofs.Common.{ap, ◌∙◌, subst, arith, leb-true, leb-false, le-leb}
use Rattle.std.proofs.lemmas.Bool.{lt-leb}
use Rattle.timecode.specs.Formats.{days_in}
use Rattle.timecode.specs.Laws.Checks.{Taken}
use Rattle.timecode.proofs.Laws.Checks.{all-passed}
use Rattle.timecode.proofs.Laws.Tests.{by-test, and_left, and_right}
use Rattle.timecode.specs.declared.Refusal.{Refusal}
use Rattle.timecode.specs.declared.Refusal.TheVariants.{InvalidYear, InvalidDate}
use Rattle.calendar.specs.Dates.{is_year, is_leap, month_lengths, place_in, day_in, has_day, has_date, date_at, date_of, day_number, day_of}
use Rattle.calendar.specs.declared.Date.{Date}
use Rattle.calendar.specs.declared.Place.{Place}
use Rattle.calendar.specs.Inverse.{sum, Placed, Numbered, Has}

placed : (ls : List ℕ) (day : ℕ) → 1 ≤ day → day ≤ sum ls → Placed ls day (place_in ls day)
unfolding sum place_in day_in
placed [] day h k = absurd (omega arith)
placed (l ∷ ls) day h k =
    by-test (leb day l)
    (λ y. rw y (record { month = omega arith; first = h; last = leb-true day l y; back = refl }))
    (λ n.
    let past = leb-false day l n in
    let more = placed ls (day - l) (omega arith) (omega arith) in
    rw n (record { month = omega (arith, more.month); first = more.first; last = more.last; back = ap (λ (x : ℕ). l + x) more.back ∙ again l day past }))
  where
    again : (l day : ℕ) → l < day → l + (day - l) ≡ day
    again l day h = omega arith

numbered : (ls : List ℕ) (k day : ℕ) → k < length ls → 1 ≤ day → day ≤ get_or ls k 0 → Numbered ls k day
unfolding sum place_in day_in
numbered [] k day b h e = absurd (omega arith)
numbered (l ∷ ls) zero day b h e = record { some = h; within = omega arith; place = rw (le-leb day l e) }
numbered (l ∷ ls) (suc k) day b h e =
    let more = numbered ls k day (omega arith) h e in
    let less : l + day_in ls k day - l ≡ day_in ls k day = omega arith in
    record {
      some = omega (arith, more.some);
      within = omega (arith, more.within);
      place = rw (lt-leb (l + day_in ls k day) l (omega (arith, more.some)), less, more.place);
    }

year-sum : (year : ℕ) → sum (month_lengths year) ≡ days_in year
unfolding sum month_lengths days_in
year-sum year = by-test (eqb (year % 4) 0) (λ y. rw y) (λ n. rw n)

pub twelve : (year : ℕ) → length (month_lengths year) ≡ 12
unfolding month_lengths
twelve year = refl

-- no month is longer than 31 days
pub short-month : (year k : ℕ) → get_or (month_lengths year) k 0 ≤ 31
unfolding month_lengths
short-month year zero = omega arith
short-month year (suc zero) = by-test (is_leap year) (λ y. rw y (omega arith)) (λ n. rw n (omega arith))
short-month year (suc (suc zero)) = omega arith
short-month year (suc (suc (suc zero))) = omega arith
short-month year (suc (suc (suc (suc zero)))) = omega arith
short-month year (suc (suc (suc (suc (suc zero))))) = omega arith
short-month year (suc (suc (suc (suc (suc (suc zero)))))) = omega arith
short-month year (suc (suc (suc (suc (suc (suc (suc zero))))))) = omega arith
short-month year (suc (suc (suc (suc (suc (suc (suc (suc zero)))))))) = omega arith
short-month year (suc (suc (suc (suc (suc (suc (suc (suc (suc zero))))))))) = omega arith
short-month year (suc (suc (suc (suc (suc (suc (suc (suc (suc (suc zero)))))))))) = omega arith
short-month year (suc (suc (suc (suc (suc (suc (suc (suc (suc (suc (suc zero))))))))))) = omega arith
short-month year (suc (suc (suc (suc (suc (suc (suc (suc (suc (suc (suc (suc k)))))))))))) = omega arith

-- the place of a day that the year has
pub place-range : (year day : ℕ) → has_day year day ≡ true → ((place_in (month_lengths year) day).months < 12) × ((place_in (month_lengths year) day).day ≤ 31)
unfolding has_day
place-range year day h =
    let low = leb-true 1 day (and_left (leb 1 day) (leb day (days_in year)) h) in
    let high = leb-true day (days_in year) (and_right (leb 1 day) (leb day (days_in year)) h) in
    let p = placed (month_lengths year) day low (omega (arith, year-sum year)) in
    (omega (arith, p.month, twelve year), omega (arith, p.last, short-month year (place_in (month_lengths year) day).months))

-- ---- the checks taken apart

no-path : ◌≡◌ {A = ℕ} 0 1 → ⊥
no-path z = omega arith

dated : (x : Date) → Taken Err (Ok x)
dated x r h = no-path cc

counted : (n : ℕ) → Taken Err (Ok n)
counted n r h = no-path cc

pub has : (d : Date) → has_date d ≡ true → Has d
unfolding has_date
has d h =
    let a = leb 1 d.month in
    let b = leb d.month 12 in
    let e = leb 1 d.day in
    let f = leb d.day (get_or (month_lengths d.year) (d.month - 1) 0) in
    let bef = and_right a (b && (e && f)) h in
    let ef = and_right b (e && f) bef in
    record { month = leb-true 1 d.month (and_left a (b && (e && f)) h); last_month = leb-true d.month 12 (and_left b (e && f) bef); day = leb-true 1 d.day (and_left e f ef); last_day = leb-true d.day (get_or (month_lengths d.year) (d.month - 1) 0) (and_right e f ef) }

has-date : (d : Date) → Has d → has_date d ≡ true
unfolding has_date
has-date d h = rw (le-leb 1 d.month h.month, le-leb d.month 12 h.last_month, le-leb 1 d.day h.day, le-leb d.day (get_or (month_lengths d.year) (d.month - 1) 0) h.last_day)

pub number-range : (d : Date) → Has d → (1 ≤ day_number d) × (day_number d ≤ days_in d.year)
number-range d h =
    let n = numbered (month_lengths d.year) (d.month - 1) d.day (omega (arith, h.month, h.last_month, twelve d.year)) h.day h.last_day in
    (n.some, omega (arith, n.within, year-sum d.year))

-- ---- both ways

date-placed : (year day : ℕ) (p : Place) → is_year year ≡ true → Placed (month_lengths year) day p → day_of (date_at year p) ≡ Ok day
unfolding day_of
date-placed year day p y s =
    let same : 1 + p.months - 1 ≡ p.months = omega arith in
    let d = date_at year p in
    let h : Has (date_at year p) = record { month = omega arith; last_month = omega (arith, s.month, twelve year); day = s.first; last_day = rw same s.last } in
    rw (y, has-date (date_at year p) h, same) (ap Ok s.back)

-- month and day from day of year, and back
pub date-and-back : (year day : ℕ) (d : Date) → date_of year day ≡ Ok d → day_of d ≡ Ok day
unfolding date_of has_day
date-and-back year day d h =
    let p = place_in (month_lengths year) day in
    let all = all-passed Err ((InvalidYear, is_year year) ∷ (InvalidDate, has_day year day) ∷ []) (Ok (date_at year p)) (Ok d) (dated d) h in
    let low = leb-true 1 day (and_left (leb 1 day) (leb day (days_in year)) (all.0 1)) in
    let high = leb-true day (days_in year) (and_right (leb 1 day) (leb day (days_in year)) (all.0 1)) in
    let same : date_at year p ≡ d = on (date_at year p) d all.1 in
    subst (λ (x : Date). day_of x ≡ Ok day) same (date-placed year day p (all.0 0) (placed (month_lengths year) day low (omega (arith, year-sum year))))
  where
    on : (a b : Date) → ◌≡◌ {A = Result Date Refusal} (Ok a) (Ok b) → a ≡ b
    on a b e = cc

-- day of year from month and day, and back
pub day-and-back : (d : Date) (day : ℕ) → day_of d ≡ Ok day → date_of d.year day ≡ Ok d
unfolding day_of date_of has_day
day-and-back d day h =
    let all = all-passed Err ((InvalidYear, is_year d.year) ∷ (InvalidDate, has_date d) ∷ []) (Ok (day_number d)) (Ok day) (counted day) h in
    let e : day_number d ≡ day = one (day_number d) day all.1 in
    let g = has d (all.0 1) in
    let r = number-range d g in
    let n = numbered (month_lengths d.year) (d.month - 1) d.day (omega (arith, g.month, g.last_month, twelve d.year)) g.day g.last_day in
    let month : 1 + (d.month - 1) ≡ d.month = omega (arith, g.month) in
    rw (← e, all.0 0, le-leb 1 (day_number d) r.0, le-leb (day_number d) (days_in d.year) r.1, n.place, month)
  where
    one : (a b : ℕ) → ◌≡◌ {A = Result ℕ Refusal} (Ok a) (Ok b) → a ≡ b
    one a b e = cc
