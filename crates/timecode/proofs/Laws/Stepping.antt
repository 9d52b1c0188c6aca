-- Step taken apart: a step of a time on the format is on the format, next after is some step, and the times that follow one.
use Rattle.std.specs.Prelude.{◌≡◌, refl, Bool, true, false, ◌&&◌, List, [], ◌∷◌, ◌⊎◌, ℕ, suc, ◌+◌, ◌*◌, ◌/◌, ◌%◌, ◌≤◌, ◌<◌, leb, ltb, eqb, Result, Ok, Err}
use Rattle.std.proofs.Common.{sym, ap, ◌∙◌, subst, inl, inr, mul-le-mul_left, arith, leb-true, ltb-true, eqb-true, le-leb, lt-ltb, ne_eqb}
use Rattle.std.proofs.Math.Nat.{add-mod_right, zero-mod, div-add-mod, lt_of_mul-lt-mul_left}
use Rattle.std.proofs.lemmas.Bool.{eqb-false}
use Rattle.timecode.specs.Formats.{member, is_x, table, look_up, row_of, known, interval, carries_year, last_day, day_length, last_year, days_in, year_carried, last_day_in, on_format, carries_leap, OnFormat}
use Rattle.timecode.specs.Answers.{checks}
use Rattle.timecode.specs.Frames.{year_lengths, length_in, in_year, day_after, turn_day, year_after, year_of_day_after, second_added, second_taken, kinds, day_length_of, day_end, on_day, same_day, next_day, following, check_step, step_by, step_of, Follows, steps_to, any, next_after, LeapTurn, Turn, time_checks, step_checks}
use Rattle.timecode.proofs.Laws.Checks.{all-passed, refused-alike, refused-later, next}
use Rattle.timecode.specs.Laws.Table.{every_format}
use Rattle.timecode.proofs.Laws.Table.{year-not-x, of-every}
use Rattle.timecode.proofs.Laws.Tests.{by-test, clash, and_left, and_right, or-other, or-first, or-second}
use Rattle.timecode.proofs.Laws.Times.{same-is, same_self, last-range, day-in-year, on-format, is-on-format, is_carried, year-small, year-carried, last-known, last-unknown, last-x, only-day}
use Rattle.timecode.specs.declared.Format.{Format}
use Rattle.timecode.specs.declared.Refusal.TheVariants.{InvalidYearLength, InvalidKind}
use Rattle.timecode.specs.declared.Refusal.{Refusal}
use Rattle.timecode.specs.declared.Time.{Time}
use Rattle.timecode.specs.Laws.Stepping.{Went, length_for, OfYear, every, IsDayEnd, Lands, Alike}

-- ---- the checks of both steps

pub went_to : (f : Format) (t : Time) (length kind : ℕ) (v u : Time) → check_step f t length kind (Ok v) ≡ Ok u → Went f t length kind v u
unfolding in_year on_day
went_to f t length kind v u h =
    let all = all-passed Err (step_checks f t length kind) (Ok v) (Ok u) (next u) h in
    let passed = all.0 in
    let last = all.1 in
    record {
      format = passed 0;
      from = on-format f t (passed 1) (passed 2) (passed 3);
      length_is = and_left (member length year_lengths) (leb t.day length) (passed 4);
      inside = leb-true t.day length (and_right (member length year_lengths) (leb t.day length) (passed 4));
      kind_is = and_left (member kind kinds) (ltb t.hundredths (day_end f kind)) (passed 5);
      before = ltb-true t.hundredths (day_end f kind) (and_right (member kind kinds) (ltb t.hundredths (day_end f kind)) (passed 5));
      to = cc;
    }

-- both steps answer where the checks are passed
pub step-answers : (f : Format) (t : Time) (length kind : ℕ) → known f ≡ true → OnFormat f t → member length year_lengths ≡ true → t.day ≤ length → member kind kinds ≡ true → t.hundredths < day_end f kind
    → (answer : Result Time Refusal) → check_step f t length kind answer ≡ answer
unfolding in_year on_day
step-answers f t length kind k o l i m b answer = rw (k, o.year_is, is-on-format f t o, is_carried f t o, l, le-leb t.day length i, m, lt-ltb t.hundredths (day_end f kind) b)

pub answers-alike : (f : Format) (t : Time) (length kind : ℕ) (v u : Time) → check_step f t length kind (Ok v) ≡ Ok u → (answer : Result Time Refusal) → check_step f t length kind answer ≡ answer
answers-alike f t length kind v u h answer =
    let w = went_to f t length kind v u h in
    step-answers f t length kind w.format w.from w.length_is w.inside w.kind_is w.before answer

-- and refuse alike where one is not
pub refuses-alike : (f : Format) (t : Time) (length kind : ℕ) (v : Time) (r : Refusal) → check_step f t length kind (Ok v) ≡ Err r → (answer : Result Time Refusal) → check_step f t length kind answer ≡ Err r
refuses-alike f t length kind v r h answer = refused-alike Err (step_checks f t length kind) (Ok v) answer (Err r) (λ e. next v r (sym e)) h

-- ---- the length of the year

pub of-year : (f : Format) (year given : ℕ) → OfYear f year (length_in f year given)
unfolding length_in
of-year f year given y = rw y

pub as-given : (f : Format) (year given : ℕ) → carries_year f ≡ false → length_in f year given ≡ given
unfolding length_in
as-given f year given m = rw m

pub days-length : (year : ℕ) → member (days_in year) year_lengths ≡ true
unfolding days_in
days-length year = by-test (eqb (year % 4) 0) (λ y. rw y) (λ m. rw m)

pub length-in : (f : Format) (year given : ℕ) → member given year_lengths ≡ true → member (length_in f year given) year_lengths ≡ true
unfolding length_in
length-in f year given h = by-test (carries_year f) (λ y. rw y (days-length year)) (λ m. rw m h)

-- where the format carries the year, number 11 passes every day that number 2 passes
pub own-length : (f : Format) (t : Time) (given : ℕ) → carries_year f ≡ true → on_format f t ≡ true → in_year t (length_for f t given) ≡ true
unfolding in_year
own-length f t given y h = rw (of-year f t.year given y, days-length t.year) (le-leb t.day (days_in t.year) (omega (arith, day-in-year f t h, last-known f t.year y)))

pub never-refuses-length : (f : Format) (t : Time) (given kind : ℕ) → carries_year f ≡ true → step_of f t given kind ≡ Err InvalidYearLength → ⊥
unfolding step_of
never-refuses-length f t given kind y h =
    let length = length_for f t given in
    let answer = Ok (following f t length kind) in
    let first = refused-later (time_checks f t) (checks Err ((InvalidYearLength, in_year t length) ∷ (InvalidKind, on_day f t kind) ∷ []) answer) InvalidYearLength refl h in
    let later = refused-later ((InvalidKind, on_day f t kind) ∷ []) answer InvalidYearLength refl (rw (own-length f t given y (first.0 2)) at first.1) in
    next (following f t length kind) InvalidYearLength (sym later.1)

-- the year's last day is in its length where 366 is given
last-in-length : (f : Format) (year : ℕ) → last_day_in f year ≤ length_in f year 366
last-in-length f year =
    by-test (carries_year f)
    (λ y. omega (arith, last-known f year y, of-year f year 366 y))
    (λ m. omega (arith, last-range f year, as-given f year 366 m))

pub went : (f : Format) (t : Time) (given kind : ℕ) (u : Time) → step_of f t given kind ≡ Ok u → Went f t (length_for f t given) kind (following f t (length_for f t given) kind) u
unfolding step_of
went f t given kind u h = went_to f t (length_for f t given) kind (following f t (length_for f t given) kind) u h

-- a day with a second added has room for every time that Write takes
longest-day : (f : Format) (t : Time) → OnFormat f t → t.hundredths < day_end f second_added
unfolding day_end day_length_of
longest-day f t o = by-test (carries_leap f) (λ y. rw y (omega (arith, o.below))) (λ m. rw m (o.carried m))

-- Step takes a time on the format with 366 and a second added always
pub goes : (f : Format) (t : Time) → known f ≡ true → OnFormat f t → step_of f t 366 second_added ≡ Ok (following f t (length_for f t 366) second_added)
unfolding step_of
goes f t k o =
    step-answers f t (length_for f t 366) second_added k o (length-in f t.year 366 refl) (omega (arith, o.within_year, last-in-length f t.year)) refl (longest-day f t o) (Ok (following f t (length_for f t 366) second_added))

-- ---- next after is some step

steps-to-is : (s : Result Time Refusal) (u : Time) → steps_to s u ≡ true → s ≡ Ok u
steps-to-is (Ok v) u h = ap Ok (same-is v u h)
steps-to-is (Err r) u h = clash h refl

is-given : (s : Result Time Refusal) (u : Time) → s ≡ Ok u → steps_to s u ≡ true
is-given s u h = rw h (same_self u)

any-one : (p : ℕ → Bool) (xs : List ℕ) → any p xs ≡ true → (x : ℕ) × (p x ≡ true)
any-one p [] h = clash h refl
any-one p (x ∷ xs) h = by-test (p x) (λ y. (x, y)) (λ m. any-one p xs (or-other (p x) (any p xs) m h))

one-any : (p : ℕ → Bool) (xs : List ℕ) (x : ℕ) → member x xs ≡ true → p x ≡ true → any p xs ≡ true
one-any p [] x m h = clash m refl
one-any p (y ∷ ys) x m h =
    by-test (eqb x y)
    (λ e. or-first (p y) (any p ys) (rw (eqb-true x y e) at h))
    (λ n. or-second (p y) (any p ys) (one-any p ys x (or-other (eqb x y) (member x ys) n m) h))

pub next-follows : (f : Format) (t u : Time) → next_after f t u ≡ true → Follows f t u
unfolding next_after
next-follows f t u h =
    let y = any-one (λ length. any (λ kind. steps_to (step_of f t length kind) u) kinds) year_lengths h in
    let k = any-one (λ kind. steps_to (step_of f t y.0 kind) u) kinds y.1 in
    (y.0, k.0, steps-to-is (step_of f t y.0 k.0) u k.1)

-- where the format carries the year, the length that is given does not matter
pub any-length : (f : Format) (t : Time) (a b kind : ℕ) → carries_year f ≡ true → step_of f t a kind ≡ step_of f t b kind
unfolding step_of
any-length f t a b kind y = ap (λ (n : ℕ). step_by f t n kind) (of-year f t.year a y ∙ sym (of-year f t.year b y))

step-found : (f : Format) (t u : Time) (given kind : ℕ) → member given year_lengths ≡ true → member kind kinds ≡ true → step_of f t given kind ≡ Ok u → next_after f t u ≡ true
unfolding next_after
step-found f t u given kind l k s =
    one-any (λ length. any (λ kind. steps_to (step_of f t length kind) u) kinds) year_lengths given l
    (one-any (λ kind. steps_to (step_of f t given kind) u) kinds kind k (is-given (step_of f t given kind) u s))

pub follows_next : (f : Format) (t u : Time) → Follows f t u → next_after f t u ≡ true
follows_next f t u s =
    let w = went f t s.0 s.1 u s.2 in
    by-test (carries_year f)
    (λ y. step-found f t u 365 s.1 refl w.kind_is (any-length f t 365 s.0 s.1 y ∙ s.2))
    (λ m. step-found f t u s.0 s.1 (rw (as-given f t.year s.0 m) at w.length_is) w.kind_is s.2)

-- ---- a step stays on the format

pub year_is : (length : ℕ) → member length year_lengths ≡ true → (length ≡ 365) ⊎ (length ≡ 366)
year_is length h =
    by-test (eqb length 365)
    (λ y. inl (eqb-true length 365 y))
    (λ m. by-test (eqb length 366) (λ y. inr (eqb-true length 366 y)) (λ n. clash (rw (m, n) at h) refl))

pub year-range : (length : ℕ) → member length year_lengths ≡ true → (1 ≤ length) × (length ≤ last_day)
year-range length h = go (year_is length h)
  where
    go : (length ≡ 365) ⊎ (length ≡ 366) → (1 ≤ length) × (length ≤ last_day)
    go (inl e) = omega arith
    go (inr e) = omega arith

pub one_of : (p : ℕ → Bool) (xs : List ℕ) → every p xs ≡ true → (x : ℕ) → member x xs ≡ true → p x ≡ true
one_of p [] h x m = clash m refl
one_of p (y ∷ ys) h x m =
    by-test (eqb x y)
    (λ e. rw (eqb-true x y e) (and_left (p y) (every p ys) h))
    (λ n. one_of p ys (and_right (p y) (every p ys) h) x (or-other (eqb x y) (member x ys) n m))

-- every interval divides every day's end
all-on-grid : every_format (λ f. every (λ kind. eqb (day_end f kind % interval f) 0) kinds) ≡ true
unfolding every_format table row_of look_up interval day_end day_length_of carries_leap
all-on-grid = refl

next_multiple : (s x c : ℕ) → x % s ≡ 0 → c % s ≡ 0 → c < x → c + s ≤ x
next_multiple s x c p q h =
    let a = div-add-mod c s in
    let b = div-add-mod x s in
    let l : c / s < x / s = lt_of_mul-lt-mul_left s (omega arith) in
    let m : s * suc (c / s) ≤ s * (x / s) = mul-le-mul_left s l in
    omega arith

-- a number above 0 that S divides is at least S
pub one-interval : (s x : ℕ) → x % s ≡ 0 → 0 < x → s ≤ x
one-interval s x g h = omega (arith, next_multiple s x 0 g (zero-mod s) h)

pub end-on-grid : (f : Format) → known f ≡ true → (kind : ℕ) → member kind kinds ≡ true → day_end f kind % interval f ≡ 0
end-on-grid f k kind m =
    let e = of-every (λ f. every (λ kind. eqb (day_end f kind % interval f) 0) kinds) all-on-grid f k in
    eqb-true (day_end f kind % interval f) 0 (one_of (λ kind. eqb (day_end f kind % interval f) 0) kinds e kind m)

-- on the grid c + S does not pass the day's end but reaches it
pub carries : (f : Format) → known f ≡ true → (kind : ℕ) → member kind kinds ≡ true → (c : ℕ) → c < day_end f kind → c % interval f ≡ 0 → c + interval f ≤ day_end f kind
carries f k kind m c h g = next_multiple (interval f) (day_end f kind) c (end-on-grid f k kind m) g h

ends : (kind : ℕ) → IsDayEnd (day_length_of kind)
unfolding day_length_of
ends kind =
    by-test (eqb kind second_added)
    (λ y. rw y (inr (inl refl)))
    (λ m. by-test (eqb kind second_taken) (λ y. rw (m, y) (inr (inr refl))) (λ n. rw (m, n) (inl refl)))

end-range : (x : ℕ) → IsDayEnd x → (8639900 ≤ x) × (x ≤ 8640100)
end-range x (inl p) = omega arith
end-range x (inr (inl p)) = omega arith
end-range x (inr (inr p)) = omega arith

pub usual-end : (f : Format) (kind : ℕ) → carries_leap f ≡ false → day_end f kind ≡ day_length
unfolding day_end
usual-end f kind m = rw m

leap-end : (f : Format) (kind : ℕ) → carries_leap f ≡ true → day_end f kind ≡ day_length_of kind
unfolding day_end
leap-end f kind y = rw y

pub day-end-range : (f : Format) (kind : ℕ) → (8639900 ≤ day_end f kind) × (day_end f kind ≤ 8640100)
day-end-range f kind =
    by-test (carries_leap f)
    (λ y. omega (arith, leap-end f kind y, end-range (day_length_of kind) (ends kind)))
    (λ m. omega (arith, usual-end f kind m))

pub day-after-inside : (day length : ℕ) → 1 ≤ day → day ≤ length → (1 ≤ day_after day length) × (day_after day length ≤ length)
unfolding day_after
day-after-inside day length a b = by-test (eqb day length) (λ y. rw y (omega arith)) (λ m. let n = eqb-false day length m in rw m (omega arith))

-- ---- the day after which day 1 comes

turn-x : (f : Format) (length : ℕ) → is_x f ≡ true → turn_day f length ≡ 1
unfolding turn_day
turn-x f length x = rw x

pub turn-length : (f : Format) (length : ℕ) → is_x f ≡ false → turn_day f length ≡ length
unfolding turn_day
turn-length f length n = rw n

pub turn-range : (f : Format) (length : ℕ) → 1 ≤ length → (1 ≤ turn_day f length) × (turn_day f length ≤ length)
turn-range f length h = by-test (is_x f) (λ x. omega (arith, turn-x f length x)) (λ n. omega (arith, turn-length f length n))

pub in-turn : (f : Format) (t : Time) (length : ℕ) → OnFormat f t → t.day ≤ length → t.day ≤ turn_day f length
in-turn f t length o h = by-test (is_x f) (λ x. omega (arith, only-day f t o x, turn-x f length x)) (λ n. omega (arith, turn-length f length n))

pub lands : (f : Format) (t : Time) (length kind : ℕ) (u : Time) → Went f t length kind (following f t length kind) u → Lands f t length kind u
unfolding following
lands f t length kind u w =
    let to = w.to in
    by-test (eqb (t.hundredths + interval f) (day_end f kind))
    (λ y. inr (rw y at to, eqb-true (t.hundredths + interval f) (day_end f kind) y))
    (λ m. inl (
      rw m at to,
      omega (arith, eqb-false (t.hundredths + interval f) (day_end f kind) m, carries f w.format kind w.kind_is t.hundredths w.before w.from.grid),
    ))

-- the year after a year that the format carries is one too
year-after-carried : (f : Format) (year : ℕ) → carries_year f ≡ true → year ≤ last_year → year_after year ≤ last_year
unfolding year_after
year-after-carried f year y h = by-test (eqb year last_year) (λ e. rw e (omega arith)) (λ n. let d = eqb-false year last_year n in rw n (omega arith))

-- the year of the day after is one that the format carries, and it has that day
next-year-carried : (f : Format) (t : Time) (length : ℕ) → year_carried f t.year ≡ true → year_carried f (year_of_day_after f t length) ≡ true
unfolding year_of_day_after
next-year-carried f t length h =
    by-test (carries_year f && eqb t.day length)
    (λ e.
    let y = and_left (carries_year f) (eqb t.day length) e in
    rw e (year-carried f (year_after t.year) (λ c. year-after-carried f t.year y (year-small f t.year h y)) (λ m. clash y m)))
    (λ n. rw n h)

same-year : (f : Format) (t : Time) (length : ℕ) → eqb t.day (turn_day f length) ≡ false → year_of_day_after f t length ≡ t.year
unfolding year_of_day_after
same-year f t length n =
    by-test (carries_year f)
    (λ y. let other : eqb t.day length ≡ false = rw (turn-length f length (year-not-x f y)) at n in rw (y, other))
    (λ m. rw m)

-- a day before which no day 1 comes is one that the year has
pub within-last : (f : Format) (year length day : ℕ) → OfYear f year length → day ≤ turn_day f length → length ≤ last_day → day ≤ last_day_in f year
within-last f year length day l a b =
    by-test (is_x f)
    (λ x. omega (arith, turn-x f length x, last-x f year x))
    (λ n.
    by-test (carries_year f)
    (λ y. omega (arith, turn-length f length n, last-known f year y, l y))
    (λ m. omega (arith, turn-length f length n, last-unknown f year n m)))

next-in-year : (f : Format) (t : Time) (length : ℕ) → OfYear f t.year length → t.day ≤ turn_day f length → length ≤ last_day → day_after t.day (turn_day f length) ≤ last_day_in f (year_of_day_after f t length)
unfolding day_after
next-in-year f t length l a b =
    by-test (eqb t.day (turn_day f length))
    (λ e. rw e (omega (arith, last-range f (year_of_day_after f t length))))
    (λ n. let d = eqb-false t.day (turn_day f length) n in rw (n, same-year f t length n) (within-last f t.year length (t.day + 1) l (omega arith) b))

landed-on : (f : Format) (t : Time) (length kind : ℕ) (u : Time) → OfYear f t.year length → Went f t length kind (following f t length kind) u → Lands f t length kind u → OnFormat f u
landed-on f t length kind u l w (inl p) =
    let o = w.from in
    subst (OnFormat f) p.0
    (record {
      year_is = o.year_is;
      first = o.first;
      within_year = o.within_year;
      last = o.last;
      below = omega (arith, p.1, day-end-range f kind);
      grid = add-mod_right t.hundredths (interval f) ∙ o.grid;
      carried = λ m. omega (arith, p.1, usual-end f kind m);
    })
landed-on f t length kind u l w (inr p) =
    let turn = in-turn f t length w.from w.inside in
    let d = day-after-inside t.day (turn_day f length) w.from.first turn in
    let r = year-range length w.length_is in
    subst (OnFormat f) p.0
    (record {
      year_is = next-year-carried f t length w.from.year_is;
      first = d.0;
      within_year = next-in-year f t length l turn r.1;
      last = omega (arith, d.1, r.1, turn-range f length r.0);
      below = omega arith;
      grid = zero-mod (interval f);
      carried = λ m. omega arith;
    })

-- a step of a time on the format is on the format
pub step-on-format : (f : Format) (t u : Time) → Follows f t u → OnFormat f u
step-on-format f t u s =
    let w = went f t s.0 s.1 u s.2 in
    let length = length_for f t s.0 in
    landed-on f t length s.1 u (of-year f t.year s.0) w (lands f t length s.1 u w)

-- ---- the times that follow one

alike-back : (f : Format) (u v : Time) → Alike f u v → Alike f v u
alike-back f u v (inl p) = inl (sym p)
alike-back f u v (inr (inl p)) = inr (inr p)
alike-back f u v (inr (inr p)) = inr (inl p)

both-lengths : (f : Format) (t : Time) → carries_year f ≡ false → t.day ≤ 365 → Alike f (next_day f t 365) (next_day f t 366)
unfolding day_after turn_day year_of_day_after
both-lengths f t k h =
    by-test (is_x f)
    (λ x. rw (k, x) (inl refl))
    (λ w.
    by-test (eqb t.day 365)
    (λ y.
    let p = eqb-true t.day 365 y in
    rw (k, w, y, ne_eqb t.day 366 (λ q. omega arith)) (inr (inl (inl (record { is_new_year = refl; new_midnight = refl; is_leap_day = omega arith; leap_midnight = refl })))))
    (λ m.
    let n = eqb-false t.day 365 m in
    rw (k, w, m, ne_eqb t.day 366 (λ q. omega arith)) (inl refl)))

unknown-lengths : (f : Format) (t : Time) → carries_year f ≡ false → (y z : ℕ) → (y ≡ 365) ⊎ (y ≡ 366) → (z ≡ 365) ⊎ (z ≡ 366) → t.day ≤ y → t.day ≤ z → Alike f (next_day f t y) (next_day f t z)
unknown-lengths f t m y z (inl p) (inl q) h k = inl (ap (next_day f t) (p ∙ sym q))
unknown-lengths f t m y z (inl p) (inr q) h k = rw (p, q) (both-lengths f t m (omega arith))
unknown-lengths f t m y z (inr p) (inl q) h k = rw (p, q) (alike-back f (next_day f t 365) (next_day f t 366) (both-lengths f t m (omega arith)))
unknown-lengths f t m y z (inr p) (inr q) h k = inl (ap (next_day f t) (p ∙ sym q))

-- a year that is carried has one length
lengths : (f : Format) (t : Time) (y z : ℕ) → OfYear f t.year y → OfYear f t.year z → (y ≡ 365) ⊎ (y ≡ 366) → (z ≡ 365) ⊎ (z ≡ 366) → t.day ≤ y → t.day ≤ z → Alike f (next_day f t y) (next_day f t z)
lengths f t y z a b p q h k =
    by-test (carries_year f)
    (λ c. inl (ap (next_day f t) (a c ∙ sym (b c))))
    (λ m. unknown-lengths f t m y z p q h k)

-- a day's end before another's is that of a taken second or the usual one
sooner : (x y : ℕ) → IsDayEnd x → IsDayEnd y → x < y → (x ≡ 8639900) ⊎ (x ≡ day_length)
sooner x y (inl p) e l = inr p
sooner x y (inr (inl p)) e l = let z : ⊥ = omega (arith, end-range y e) in absurd z
sooner x y (inr (inr p)) e l = inl p

sooner-end : (f : Format) (k j : ℕ) → day_end f k < day_end f j → (carries_leap f ≡ true) × ((day_end f k ≡ 8639900) ⊎ (day_end f k ≡ day_length))
sooner-end f k j l =
    by-test (carries_leap f)
    (λ y. (y, rw (leap-end f k y) (sooner (day_length_of k) (day_length_of j) (ends k) (ends j) (rw (leap-end f k y, leap-end f j y) at l))))
    (λ m. let z : ⊥ = omega (arith, usual-end f k m, usual-end f j m) in absurd z)

kinds-apart : (f : Format) (t : Time) (y k j : ℕ) → t.hundredths + interval f < day_end f j → t.hundredths + interval f ≡ day_end f k → LeapTurn f (same_day f t) (next_day f t y)
kinds-apart f t y k j a b =
    let e = sooner-end f k j (omega arith) in
    record { carried = e.0; late = rw (← b) at e.1; midnight = refl }

-- two times that follow one are the same, day 1 and day 366 at midnight, or the last second or the added one and midnight
pub two-that-follow : (f : Format) (t u v : Time) → Follows f t u → Follows f t v → (u ≡ v) ⊎ (Turn f u v ⊎ Turn f v u)
two-that-follow f t u v s r = go (lands f t y s.1 u a) (lands f t z r.1 v b)
  where
    y : ℕ
    y = length_for f t s.0

    z : ℕ
    z = length_for f t r.0

    a : Went f t y s.1 (following f t y s.1) u
    a = went f t s.0 s.1 u s.2

    b : Went f t z r.1 (following f t z r.1) v
    b = went f t r.0 r.1 v r.2

    go : Lands f t y s.1 u → Lands f t z r.1 v → Alike f u v
    go (inl p) (inl q) = inl (sym p.0 ∙ q.0)
    go (inl p) (inr q) = rw (← p.0, ← q.0) (inr (inl (inr (kinds-apart f t z r.1 s.1 p.1 q.1))))
    go (inr p) (inl q) = rw (← p.0, ← q.0) (inr (inr (inr (kinds-apart f t y s.1 r.1 q.1 p.1))))
    go (inr p) (inr q) = rw (← p.0, ← q.0) (lengths f t y z (of-year f t.year s.0) (of-year f t.year r.0) (year_is y a.length_is) (year_is z b.length_is) a.inside b.inside)
