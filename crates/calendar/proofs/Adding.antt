-- Windows added one by one to an empty calendar: it holds those that were taken, in their order, and at most 32; a refused one leaves it as it was.
use Rattle.timecode.specs.Answers.{done}
use Rattle.std.specs.Prelude.{◌≡◌, refl, true, List, [], ◌∷◌, ◌++◌, ℕ, ◌%◌, ◌≤◌, ltb, eqb, length, take, Result, Ok, Err}
use Rattle.std.proofs.Common.{sym, ap, ◌∙◌, append-nil, append_assoc, add-one, arith, leb-true, ltb-true, length-set, take-suc-set, length-take-le}
use Rattle.std.proofs.lemmas.List.{length-replicate}
use Rattle.timecode.specs.Formats.{days_in}
use Rattle.timecode.proofs.Laws.Checks.{done-taken, all-passed}
use Rattle.timecode.proofs.Laws.Tests.{by-test, and_left, and_right}
use Rattle.timecode.specs.declared.Refusal.{Refusal}
use Rattle.calendar.specs.Dates.{is_year, has_date}
use Rattle.calendar.proofs.Inverse.{has, number-range}
use Rattle.calendar.specs.Keys.{Small}
use Rattle.calendar.proofs.Keys.{key_back}
use Rattle.calendar.specs.Moments.{earlier, is_hundredth}
use Rattle.calendar.specs.Windows.{key_of, time_of, windows_in, windows_of, moment_of, window_of, add_answer, add_of, empty_calendar, window_checks}
use Rattle.calendar.specs.declared.Calendar.{Calendar}
use Rattle.calendar.specs.declared.DateTime.{DateTime}
use Rattle.calendar.specs.declared.Window.{Window}
use Rattle.calendar.specs.Adding.{Booking, added, taken_by, taken, Passes, Made, One, EachEnds}

pub days-few : (year : ℕ) → days_in year ≤ 366
unfolding days_in
days-few year = by-test (eqb (year % 4) 0) (λ y. rw y (omega arith)) (λ n. rw n (omega arith))

pub moment-small : (d : DateTime) → is_year d.date.year ≡ true → is_hundredth d.hundredths ≡ true → has_date d.date ≡ true → Small (moment_of d)
moment-small d y c h =
    let range = number-range d.date (has d.date h) in
    record {
      year = omega (arith, leb-true d.date.year 99 y);
      day = omega (arith, range.1, days-few d.date.year);
      hundredths = omega (arith, leb-true d.hundredths 8640099 c);
    }

pub passes-all : (count : ℕ) (s e : DateTime) → add_answer count s e ≡ done → Passes count s e
unfolding add_answer
passes-all count s e h =
    let passed = (all-passed Err (window_checks count s e) done done done-taken h).0 in
    record {
      start = moment-small s (and_left (is_year s.date.year) (is_year e.date.year) (passed 0)) (and_left (is_hundredth s.hundredths) (is_hundredth e.hundredths) (passed 1)) (and_left (has_date s.date) (has_date e.date) (passed 2));
      end = moment-small e (and_right (is_year s.date.year) (is_year e.date.year) (passed 0)) (and_right (is_hundredth s.hundredths) (is_hundredth e.hundredths) (passed 1)) (and_right (has_date s.date) (has_date e.date) (passed 2));
      room = ltb-true count 32 (and_left (ltb count 32) (earlier (moment_of s) (moment_of e)) (passed 3));
      order = and_right (ltb count 32) (earlier (moment_of s) (moment_of e)) (passed 3);
    }

-- ---- one window added

empty-made : Made empty_calendar
empty-made = record { few = omega arith; starts = length-replicate {A = ℕ} 32 0; ends = length-replicate {A = ℕ} 32 0 }

windows-last : (ss es : List ℕ) (a b : ℕ) → length ss ≡ length es → windows_in (ss ++ (a ∷ [])) (es ++ (b ∷ [])) ≡ windows_in ss es ++ (record { start = time_of a; end = time_of b } ∷ [])
unfolding windows_in
windows-last [] [] a b h = refl
windows-last [] (e ∷ es) a b h = absurd (omega arith)
windows-last (s ∷ ss) [] a b h = absurd (omega arith)
windows-last (s ∷ ss) (e ∷ es) a b h = ap (λ (ws : List Window). record { start = time_of s; end = time_of e } ∷ ws) (windows-last ss es a b (omega arith))

one-by : (c : Calendar) (s e : DateTime) → Made c → (a : Result Unit Refusal) → add_answer c.count s e ≡ a → One c s e
unfolding add_of
one-by c s e m (Ok u) h =
    let p = passes-all c.count s e h in
    let room = p.room in
    let start = key_of (moment_of s) in
    let end = key_of (moment_of e) in
    let first = take-suc-set c.starts c.count start (omega (arith, m.starts)) in
    let second = take-suc-set c.ends c.count end (omega (arith, m.ends)) in
    let long : length (take c.count c.starts) ≡ length (take c.count c.ends) = length-take-le c.count c.starts (omega (arith, m.starts)) ∙ sym (length-take-le c.count c.ends (omega (arith, m.ends))) in
    let last = windows-last (take c.count c.starts) (take c.count c.ends) start end long in
    record {
      made = rw h (record { few = omega arith; starts = length-set c.starts c.count start ∙ m.starts; ends = length-set c.ends c.count end ∙ m.ends });
      windows = rw (h, add-one c.count, first, second) (rw (key_back (moment_of s) p.start, key_back (moment_of e) p.end) at last);
    }
one-by c s e m (Err r) h = record { made = rw h (record { few = m.few; starts = m.starts; ends = m.ends }); windows = rw h (sym (append-nil (windows_of c))) }

-- ---- all of them

all-added : (c : Calendar) (bs : List Booking) → Made c → Made (added c bs) × (windows_of (added c bs) ≡ windows_of c ++ taken c bs)
unfolding added taken
all-added c [] m = (m, sym (append-nil (windows_of c)))
all-added c (b ∷ bs) m =
    let one = one-by c b.from b.to m (add_answer c.count b.from b.to) refl in
    let more = all-added (add_of c b.from b.to).calendar bs one.made in
    let own = taken_by (add_answer c.count b.from b.to) (window_of b.from b.to) in
    (more.0, more.1 ∙ ap (λ (ws : List Window). ws ++ taken (add_of c b.from b.to).calendar bs) one.windows ∙ append_assoc (windows_of c) own (taken (add_of c b.from b.to).calendar bs))

no_more : (ss es : List ℕ) → length (windows_in ss es) ≤ length ss
unfolding windows_in
no_more [] es = omega arith
no_more (s ∷ ss) [] = omega arith
no_more (s ∷ ss) (e ∷ es) = omega (arith, no_more ss es)

-- From an empty calendar: the windows are those that were taken, in the order of adding, and they are at most 32.
pub made-by-adding : (bs : List Booking) → (windows_of (added empty_calendar bs) ≡ taken empty_calendar bs) × (length (windows_of (added empty_calendar bs)) ≤ 32)
unfolding windows_in
made-by-adding bs =
    let all = all-added empty_calendar bs empty-made in
    let c = added empty_calendar bs in
    (all.1, omega (arith, no_more (take c.count c.starts) (take c.count c.ends), length-take-le c.count c.starts (omega (arith, all.0.few, all.0.starts)), all.0.few))

one-ends : (count : ℕ) (s e : DateTime) (a : Result Unit Refusal) (ws : List Window) → add_answer count s e ≡ a → EachEnds ws → EachEnds (taken_by a (window_of s e) ++ ws)
one-ends count s e (Ok u) ws h rest = ((passes-all count s e h).order, rest)
one-ends count s e (Err x) ws h rest = rest

each-taken : (c : Calendar) (bs : List Booking) → EachEnds (taken c bs)
unfolding taken
each-taken c [] = tt
each-taken c (b ∷ bs) = one-ends c.count b.from b.to (add_answer c.count b.from b.to) (taken (add_of c b.from b.to).calendar bs) refl (each-taken (add_of c b.from b.to).calendar bs)

pub each-ends-after : (bs : List Booking) → EachEnds (windows_of (added empty_calendar bs))
each-ends-after bs = rw (made-by-adding bs).0 (each-taken empty_calendar bs)

-- A refused add leaves the calendar as it was.
pub refused-stays : (c : Calendar) (s e : DateTime) (r : Refusal) → (add_of c s e).answer ≡ Err r → (add_of c s e).calendar ≡ c
unfolding add_of
refused-stays c s e r h = by_answer (add_answer c.count s e) refl
  where
    by_answer : (a : Result Unit Refusal) → add_answer c.count s e ≡ a → (add_of c s e).calendar ≡ c
    by_answer (Ok u) is = absurd (done-taken r (sym (rw is at h)))
    by_answer (Err x) is = rw is
