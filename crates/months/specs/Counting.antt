-- The loops over the months of a year.
use Rattle.std.specs.Prelude.{◌≡◌, refl, true, List, ◌∷◌, ℕ, suc, ◌+◌, ◌*◌, ◌-◌, ◌<◌, ◌≤◌, get_or, length, take, drop}
use Rattle.std.proofs.Common.{sym, ap, ◌∙◌, zero-add, add-zero, arith, le-leb, get_or-take, drop_of_length-le, drop-cons}
use Rattle.std.proofs.lemmas.Bool.{lt-leb}
use Rattle.std.proofs.Math.Seq.{length-take-le}
use Rattle.calendar.specs.Dates.{month_lengths, place_in, day_in, has_day}
use Rattle.calendar.proofs.Inverse.{short-month, twelve, place-range}
use Rattle.calendar.specs.declared.Place.{Place}

-- ---- the months that a day lies behind

abbrev onward : ℕ → Place → Place
onward k p = record { months = k + p.months; day = p.day }

pub record Passed (ls : List ℕ) (day months rest : ℕ) : Type 0 where
  pub few : months ≤ length ls
  pub place : place_in ls day ≡ onward months (place_in (drop months ls) rest)

place-path : (a b c d : ℕ) → a ≡ c → b ≡ d → ◌≡◌ {A = Place} (record { months = a; day = b }) (record { months = c; day = d })
place-path a b c d p q = rw (p, q)

pub passed_start : (ls : List ℕ) (day : ℕ) → Passed ls day 0 day
passed_start ls day = record { few = omega arith; place = place-path (place_in ls day).months (place_in ls day).day (0 + (place_in ls day).months) (place_in ls day).day (sym (zero-add (place_in ls day).months)) refl }

pub passed-turn : (ls : List ℕ) (day months rest : ℕ) → months < length ls → get_or ls months 0 < rest → Passed ls day months rest → Passed ls day (months + 1) (rest - get_or ls months 0)
unfolding place_in
passed-turn ls day months rest h past s =
    let l = get_or ls months 0 in
    let next : suc months ≡ months + 1 = omega arith in
    let first : drop months ls ≡ get_or ls months 0 ∷ drop (months + 1) ls = rw next at (drop-cons ls months 0 h) in
    let p = place_in (drop (months + 1) ls) (rest - get_or ls months 0) in
    let place = s.place in
    record {
      few = omega arith;
      place = (rw (first, lt-leb rest (get_or ls months 0) past) at place) ∙ place-path (months + suc p.months) p.day (months + 1 + p.months) p.day (omega arith) refl;
    }

pub passed-found : (ls : List ℕ) (day months rest : ℕ) → months < length ls → rest ≤ get_or ls months 0 → Passed ls day months rest → ◌≡◌ {A = Place} (record { months = months; day = rest }) (place_in ls day)
unfolding place_in
passed-found ls day months rest h within s =
    let place = s.place in
    sym ((rw (drop-cons ls months 0 h, le-leb rest (get_or ls months 0) within) at place) ∙ place-path (months + 0) rest months rest (add-zero months) refl)

pub passed-end : (ls : List ℕ) (day months rest : ℕ) → length ls ≤ months → Passed ls day months rest → ◌≡◌ {A = Place} (record { months = months; day = rest }) (place_in ls day)
unfolding place_in
passed-end ls day months rest h s =
    let place = s.place in
    sym ((rw (drop_of_length-le ls {i = months} h) at place) ∙ place-path (months + 0) rest months rest (add-zero months) refl)

-- ---- the days of so many months

pub record Summed (ls : List ℕ) (months day total i : ℕ) : Type 0 where
  pub few : i ≤ months
  pub small : total ≤ 31 * i
  pub sum : day_in ls months day ≡ total + day_in (drop i ls) (months - i) day

pub summed-start : (ls : List ℕ) (months day : ℕ) → Summed ls months day 0 0
summed-start ls months day =
    let whole : months - 0 ≡ months = omega arith in
    record { few = omega arith; small = omega arith; sum = rw whole (sym (zero-add (day_in ls months day))) }

pub summed_turn : (year months day total i : ℕ) → i < months → months < 12 → Summed (month_lengths year) months day total i → Summed (month_lengths year) months day (total + get_or (month_lengths year) i 0) (i + 1)
unfolding day_in
summed_turn year months day total i h few s =
    let ls = month_lengths year in
    let l = get_or (month_lengths year) i 0 in
    let next : suc i ≡ i + 1 = omega arith in
    let more : months - i ≡ suc (months - (i + 1)) = omega arith in
    let first : drop i (month_lengths year) ≡ get_or (month_lengths year) i 0 ∷ drop (i + 1) (month_lengths year) = rw next at (drop-cons (month_lengths year) i 0 (omega (arith, twelve year))) in
    let sum = s.sum in
    record {
      few = omega arith;
      small = omega (arith, s.small, short-month year i);
      sum = (rw (first, more) at sum) ∙ again total (get_or (month_lengths year) i 0) (day_in (drop (i + 1) (month_lengths year)) (months - (i + 1)) day);
    }
  where
    again : (a b c : ℕ) → a + (b + c) ≡ a + b + c
    again a b c = omega arith

pub summed-end : (ls : List ℕ) (months day total i : ℕ) → months ≤ i → Summed ls months day total i → total + day ≡ day_in ls months day
unfolding day_in
summed-end ls months day total i h s =
    let none : months - i ≡ 0 = omega (arith, s.few) in
    let sum = s.sum in
    sym (rw none at sum)

-- ---- the lengths that the program has

module _ (ls : List ℕ) (year : ℕ) (are : ls ≡ month_lengths year) where
  pub twelve-of : length ls ≡ 12
  twelve-of = ap length are ∙ twelve year

  pub taken-long : (months : ℕ) → months < 12 → length (take months ls) ≡ months
  taken-long months h = length-take-le months ls (omega (arith, twelve-of))

  pub short-of : (months i : ℕ) → i < months → get_or (take months ls) i 0 ≤ 31
  short-of months i h = rw (get_or-take months ls i 0 h, are) (short-month year i)

  pub summed-on : (months day total i : ℕ) → i < months → months < 12 → Summed (month_lengths year) months day total i → Summed (month_lengths year) months day (total + get_or (take months ls) i 0) (i + 1)
  summed-on months day total i h few s = rw (get_or-take months ls i 0 h, are) (summed_turn year months day total i h few s)

  pub found_in : (day months rest : ℕ) → months < length ls → rest ≤ get_or ls months 0 → Passed ls day months rest → ◌≡◌ {A = Place} (record { months = months; day = rest }) (place_in (month_lengths year) day)
  found_in day months rest h within s = passed-found ls day months rest h within s ∙ ap (λ (xs : List ℕ). place_in xs day) are

  pub found-not : (day months rest : ℕ) → length ls ≤ months → Passed ls day months rest → ◌≡◌ {A = Place} (record { months = months; day = rest }) (place_in (month_lengths year) day)
  found-not day months rest h s = passed-end ls day months rest h s ∙ ap (λ (xs : List ℕ). place_in xs day) are

pub place-small : (year day : ℕ) (p : Place) → has_day year day ≡ true → p ≡ place_in (month_lengths year) day → (p.months < 12) × (p.day ≤ 31)
place-small year day p h e = rw e (place-range year day h)
