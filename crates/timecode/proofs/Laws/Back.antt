-- The step back against the step: each undoes the other for every format, time, year length and kind that it takes.
use Rattle.timecode.specs.declared.Refusal.{Refusal}
use Rattle.std.specs.Prelude.{true, ◌&&◌, ◌≡◌, refl, ℕ, ◌+◌, ◌-◌, ◌%◌, ◌≤◌, eqb, Result, Ok}
use Rattle.std.proofs.Common.{sym, ap, ◌∙◌, subst, inl, inr, arith, eqb-true, le-leb, eq-eqb, ne_eqb}
use Rattle.std.proofs.Math.Nat.{add-mod_right}
use Rattle.std.proofs.lemmas.Bool.{eqb-false}
use Rattle.timecode.specs.Formats.{interval, carries_year, last_year, days_in, year_carried, OnFormat}
use Rattle.timecode.specs.Frames.{length_in, in_year, day_after, turn_day, year_after, year_of_day_after, day_end, same_day, next_day, following, check_step, step_by, step_of, Follows, day_before, year_before, year_of_time_before, same_day_before, last_before, preceding, step_back_by, step_back_of, Precedes}
use Rattle.timecode.specs.Laws.Stepping.{Went, length_for, OfYear, Lands}
use Rattle.timecode.proofs.Laws.Stepping.{went_to, step-answers, answers-alike, of-year, days-length, went, year-range, one-interval, end-on-grid, usual-end, day-end-range, day-after-inside, turn-length, turn-range, in-turn, lands, within-last, step-on-format}
use Rattle.timecode.proofs.Laws.Table.{interval-range, year-not-x}
use Rattle.timecode.proofs.Laws.Tests.{by-test, clash, and_left}
use Rattle.timecode.proofs.Laws.Times.{time-path, days-range, year-small, year-carried, year-below}
use Rattle.timecode.specs.declared.Format.{Format}
use Rattle.timecode.specs.declared.Time.{Time}
use Rattle.timecode.specs.Laws.Back.{Undone, length_before, Comes, Redone}

-- ---- days

day-before-inside : (day length : ℕ) → 1 ≤ day → day ≤ length → (1 ≤ day_before day length) × (day_before day length ≤ length)
unfolding day_before
day-before-inside day length a b = by-test (eqb day 1) (λ y. rw y (omega arith)) (λ m. let n = eqb-false day 1 m in rw m (omega arith))

before-after : (day length : ℕ) → 1 ≤ day → day ≤ length → day_before (day_after day length) length ≡ day
unfolding day_before day_after
before-after day length a b =
    by-test (eqb day length)
    (λ y. rw y (sym (eqb-true day length y)))
    (λ m. rw (m, ne_eqb (day + 1) 1 (λ e. omega arith)) (omega arith))

after-before : (day length : ℕ) → 1 ≤ day → day ≤ length → day_after (day_before day length) length ≡ day
unfolding day_before day_after
after-before day length a b =
    by-test (eqb day 1)
    (λ y. rw (y, eq-eqb length length refl) (sym (eqb-true day 1 y)))
    (λ m. let n = eqb-false day 1 m in rw (m, ne_eqb (day - 1) length (λ e. omega arith)) (omega arith))

-- ---- years

before-after-year : (year : ℕ) → year_before (year_after year) ≡ year
unfolding year_before year_after
before-after-year year =
    by-test (eqb year last_year)
    (λ y. rw y (sym (eqb-true year last_year y)))
    (λ m. rw (m, ne_eqb (year + 1) 0 (λ e. omega arith)) (omega arith))

after-before-year : (year : ℕ) → year ≤ last_year → year_after (year_before year) ≡ year
unfolding year_before year_after
after-before-year year h =
    by-test (eqb year 0)
    (λ y. rw y (sym (eqb-true year 0 y)))
    (λ m. let n = eqb-false year 0 m in rw (m, ne_eqb (year - 1) last_year (λ e. omega arith)) (omega arith))

year-before-small : (year : ℕ) → year ≤ last_year → year_before year ≤ last_year
unfolding year_before
year-before-small year h = by-test (eqb year 0) (λ y. rw y (omega arith)) (λ m. rw m (omega arith))

-- the year of the time before is the one that the step back looks at
pub preceding-year : (f : Format) (u : Time) (length kind : ℕ) → (preceding f u length kind).year ≡ year_of_time_before f u
unfolding preceding year_of_time_before
preceding-year f u length kind =
    by-test (eqb u.hundredths 0)
    (λ y. rw y)
    (λ m. by-test (carries_year f) (λ c. by-test (eqb u.day 1) (λ d. rw (m, c, d)) (λ d. rw (m, c, d))) (λ c. rw (m, c)))

before-next-year : (f : Format) (t : Time) (length : ℕ) → 1 ≤ t.day → year_of_time_before f (next_day f t length) ≡ t.year
unfolding year_of_time_before year_of_day_after day_after
before-next-year f t length a =
    by-test (carries_year f)
    (λ y.
    let turn = turn-length f length (year-not-x f y) in
    by-test (eqb t.day length)
    (λ e. rw (y, turn, e) (before-after-year t.year))
    (λ n. rw (y, turn, n, ne_eqb (t.day + 1) 1 (λ e. omega arith))))
    (λ m. rw m)

next-before-year : (f : Format) (u : Time) (length kind : ℕ) → year_carried f u.year ≡ true → 1 ≤ u.day → u.day ≤ length → u.hundredths ≡ 0 → year_of_day_after f (last_before f u length kind) length ≡ u.year
unfolding year_of_time_before year_of_day_after day_before
next-before-year f u length kind h a b z =
    by-test (carries_year f)
    (λ y.
    let turn = turn-length f length (year-not-x f y) in
    by-test (eqb u.day 1)
    (λ e. rw (y, turn, e, eq-eqb u.hundredths 0 z, eq-eqb length length refl) (after-before-year u.year (year-below f u.year h)))
    (λ n. let d = eqb-false u.day 1 n in rw (y, turn, n, ne_eqb (u.day - 1) length (λ e. omega arith))))
    (λ m. rw m)

before-year-carried : (f : Format) (u : Time) → year_carried f u.year ≡ true → year_carried f (year_of_time_before f u) ≡ true
unfolding year_of_time_before
before-year-carried f u h =
    by-test (carries_year f && (eqb u.day 1 && eqb u.hundredths 0))
    (λ e.
    let y = and_left (carries_year f) (eqb u.day 1 && eqb u.hundredths 0) e in
    rw e (year-carried f (year_before u.year) (λ c. year-before-small u.year (year-small f u.year h y)) (λ m. clash y m)))
    (λ n. rw n h)

-- ---- a step and then a step back

less-added : (a b : ℕ) → a + b - b ≡ a
less-added a b = omega arith

less-end : (a b x : ℕ) → a + b ≡ x → x - b ≡ a
less-end a b x h = omega arith

undone : (f : Format) (t : Time) (length kind : ℕ) (u : Time) → Went f t length kind (following f t length kind) u → Lands f t length kind u → Undone f t length kind u
unfolding preceding
undone f t length kind u w (inl p) =
    let none = ne_eqb (t.hundredths + interval f) 0 (λ e. omega (arith, interval-range f)) in
    subst (Undone f t length kind) p.0
    (w.inside, p.1, rw none (time-path (same_day_before f (same_day f t)) t refl refl (less-added t.hundredths (interval f))))
undone f t length kind u w (inr p) =
    let turn = in-turn f t length w.from w.inside in
    subst (Undone f t length kind) p.0 (
      omega (arith, (day-after-inside t.day (turn_day f length) w.from.first turn).1, turn-range f length (year-range length w.length_is).0),
      omega (arith, p.1, interval-range f),
      time-path (last_before f (next_day f t length) length kind) t (before-next-year f t length w.from.first) (before-after t.day (turn_day f length) w.from.first turn) (less-end t.hundredths (interval f) (day_end f kind) p.1),
    )

pub step_back : (f : Format) (t : Time) (given kind : ℕ) (u : Time) → step_of f t given kind ≡ Ok u → step_back_of f u given kind ≡ Ok t
unfolding step_back_of
step_back f t given kind u h =
    let length = length_for f t given in
    let w = went f t given kind u h in
    let b = undone f t length kind u w (lands f t length kind u w) in
    let y : year_of_time_before f u ≡ t.year = sym (preceding-year f u length kind) ∙ ap (λ (x : Time). x.year) b.2 in
    ap (λ (x : ℕ). step_back_by f u (length_in f x given) kind) y
    ∙ step-answers f u length kind w.format (step-on-format f t u (given, kind, h)) w.length_is b.0 w.kind_is b.1 (Ok (preceding f u length kind))
    ∙ ap Ok b.2

-- number 11 is alike for both steps: where the format carries the year, day 1 is in every year
lengths-alike : (f : Format) (t : Time) (given : ℕ) → in_year t (length_before f t given) ≡ in_year t (length_for f t given)
unfolding length_in year_of_time_before in_year
lengths-alike f t given =
    by-test (carries_year f)
    (λ y.
    by-test (eqb t.day 1 && eqb t.hundredths 0)
    (λ e.
    let d = eqb-true t.day 1 (and_left (eqb t.day 1) (eqb t.hundredths 0) e) in
    let a = days-range (year_before t.year) in
    let b = days-range t.year in
    rw (y, e, days-length (year_before t.year), days-length t.year, le-leb t.day (days_in (year_before t.year)) (omega arith), le-leb t.day (days_in t.year) (omega arith)))
    (λ n. rw (y, n)))
    (λ m. rw m)

pub checks-alike : (f : Format) (t : Time) (given kind : ℕ) (answer : Result Time Refusal) → check_step f t (length_before f t given) kind answer ≡ check_step f t (length_for f t given) kind answer
checks-alike f t given kind answer = rw (lengths-alike f t given)

-- a step that was taken is taken again with the same length and kind
pub step-again : (f : Format) (t u : Time) (given kind : ℕ) → step_of f t given kind ≡ Ok u → step_of f u given kind ≡ Ok (following f u (length_for f u given) kind)
unfolding step_of step_back_of
step-again f t u given kind h =
    let before = length_before f u given in
    let next = Ok (following f u (length_for f u given) kind) in
    sym (checks-alike f u given kind next) ∙ answers-alike f u before kind (preceding f u before kind) t (step_back f t given kind u h) next

-- ---- a step back and then a step

came : (f : Format) (u : Time) (given kind : ℕ) (t : Time) → step_back_of f u given kind ≡ Ok t → Went f u (length_before f u given) kind (preceding f u (length_before f u given) kind) t
unfolding step_back_of
came f u given kind t h = went_to f u (length_before f u given) kind (preceding f u (length_before f u given) kind) t h

comes : (f : Format) (u : Time) (length kind : ℕ) (t : Time) → Went f u length kind (preceding f u length kind) t → Comes f u length kind t
unfolding preceding
comes f u length kind t w =
    let to = w.to in
    by-test (eqb u.hundredths 0)
    (λ y. inr (rw y at to, eqb-true u.hundredths 0 y))
    (λ m. inl (
      rw m at to,
      one-interval (interval f) u.hundredths w.from.grid (omega (arith, eqb-false u.hundredths 0 m)),
    ))

less-grid : (c s : ℕ) → s ≤ c → c % s ≡ 0 → (c - s) % s ≡ 0
less-grid c s h g = sym (add-mod_right (c - s) s) ∙ ap (λ (x : ℕ). x % s) (again c s h) ∙ g
  where
    again : (c s : ℕ) → s ≤ c → c - s + s ≡ c
    again c s h = omega arith

-- the interval fits into every day
interval-inside : (f : Format) (u : Time) (length kind : ℕ) (v t : Time) → Went f u length kind v t → interval f ≤ day_end f kind
interval-inside f u length kind v t w = one-interval (interval f) (day_end f kind) (end-on-grid f w.format kind w.kind_is) (omega (arith, w.before))

redone : (f : Format) (u : Time) (length kind : ℕ) (t : Time) → OfYear f (year_of_time_before f u) length → Went f u length kind (preceding f u length kind) t → Comes f u length kind t → Redone f u length kind t
unfolding following
redone f u length kind t l w (inl p) =
    let o = w.from in
    let s = interval-range f in
    let sum : u.hundredths - interval f + interval f ≡ u.hundredths = omega (arith, p.1) in
    subst (Redone f u length kind) p.0 (
      record { year_is = o.year_is; first = o.first; within_year = o.within_year; last = o.last; below = omega (arith, o.below); grid = less-grid u.hundredths (interval f) p.1 o.grid; carried = λ m. omega (arith, o.carried m) },
      w.inside,
      omega (arith, w.before),
      rw (sum, ne_eqb u.hundredths (day_end f kind) (λ e. omega (arith, w.before))) refl,
    )
redone f u length kind t l w (inr p) =
    let s = interval-range f in
    let r = year-range length w.length_is in
    let i = interval-inside f u length kind (preceding f u length kind) t w in
    let turn = in-turn f u length w.from w.inside in
    let d = day-before-inside u.day (turn_day f length) w.from.first turn in
    let within = turn-range f length r.0 in
    let sum : day_end f kind - interval f + interval f ≡ day_end f kind = omega (arith, i) in
    subst (Redone f u length kind) p.0 (
      record {
        year_is = before-year-carried f u w.from.year_is;
        first = d.0;
        within_year = within-last f (year_of_time_before f u) length (day_before u.day (turn_day f length)) l d.1 r.1;
        last = omega (arith, d.1, r.1);
        below = omega (arith, day-end-range f kind);
        grid = less-grid (day_end f kind) (interval f) i (end-on-grid f w.format kind w.kind_is);
        carried = λ m. omega (arith, usual-end f kind m);
      },
      omega (arith, d.1),
      omega (arith, i),
      rw (sum, eq-eqb (day_end f kind) (day_end f kind) refl) (time-path (next_day f (last_before f u length kind) length) u (next-before-year f u length kind w.from.year_is w.from.first w.inside p.1) (after-before u.day (turn_day f length) w.from.first turn) (sym p.1)),
    )

pub back_step : (f : Format) (u : Time) (given kind : ℕ) (t : Time) → step_back_of f u given kind ≡ Ok t → step_of f t given kind ≡ Ok u
unfolding step_of
back_step f u given kind t h =
    let length = length_before f u given in
    let w = came f u given kind t h in
    let b = redone f u length kind t (of-year f (year_of_time_before f u) given) w (comes f u length kind t w) in
    let y : t.year ≡ year_of_time_before f u = ap (λ (x : Time). x.year) (sym w.to) ∙ preceding-year f u length kind in
    ap (λ (x : ℕ). step_by f t (length_in f x given) kind) y
    ∙ step-answers f t length kind w.format b.0 w.length_is b.1 w.kind_is b.2 (Ok (following f t length kind))
    ∙ ap Ok b.3

-- ---- what else both steps share

-- the time before is on the format
pub back-on-format : (f : Format) (t u : Time) → Precedes f t u → OnFormat f t
back-on-format f t u s = (went f t s.0 s.1 u (back_step f u s.0 s.1 t s.2)).from

pub follows-precedes : (f : Format) (t u : Time) → Follows f t u → Precedes f t u
follows-precedes f t u s = (s.0, s.1, step_back f t s.0 s.1 u s.2)

pub precedes-follows : (f : Format) (t u : Time) → Precedes f t u → Follows f t u
precedes-follows f t u s = (s.0, s.1, back_step f u s.0 s.1 t s.2)

-- where the format carries the year, the length that is given does not matter
pub any-length-back : (f : Format) (t : Time) (a b kind : ℕ) → carries_year f ≡ true → step_back_of f t a kind ≡ step_back_of f t b kind
unfolding step_back_of
any-length-back f t a b kind y = ap (λ (n : ℕ). step_back_by f t n kind) (of-year f (year_of_time_before f t) a y ∙ sym (of-year f (year_of_time_before f t) b y))
