-- The checks of adding, in their order, and each way out.
use Rattle.calendar.specs.declared.WindowKeys.{WindowKeys}
use Rattle.std.specs.Prelude.{◌≡◌, refl, Bool, true, false, ◌&&◌, ℕ, ◌+◌, ◌<◌, ◌≤◌, ltb, set, Result, Ok, Err}
use Rattle.std.proofs.Common.{sym, ◌∙◌, arith, lt-ltb, le-ltb}
use Rattle.std.proofs.Math.Path.{ap}
use Rattle.timecode.specs.Answers.{check, done}
use Rattle.timecode.proofs.Laws.Tests.{and_left, and_right}
use Rattle.timecode.specs.declared.Refusal.{Refusal}
use Rattle.timecode.specs.declared.Refusal.TheVariants.{InvalidTime, InvalidYear, InvalidWindow, InvalidDate}
use Rattle.timecode.specs.declared.Time.{Time}
use Rattle.calendar.specs.Dates.{is_year, has_date}
use Rattle.calendar.specs.Keys.{Small}
use Rattle.calendar.proofs.Keys.{key-order}
use Rattle.calendar.specs.Moments.{earlier, is_hundredth}
use Rattle.calendar.proofs.Adding.{passes-all}
use Rattle.calendar.specs.Windows.{key_of, moment_of, window_of, add_answer, add_of, keyed_by, keys}
use Rattle.calendar.specs.declared.Added.{Added}
use Rattle.calendar.specs.declared.Calendar.{Calendar}
use Rattle.calendar.specs.declared.DateTime.{DateTime}
use Rattle.calendar.specs.declared.Window.{Window}

abbrev pub days_answer : DateTime → DateTime → Result Unit Refusal
days_answer s e = check Err InvalidDate (has_date s.date && has_date e.date) done

abbrev pub hundredths_answer : DateTime → DateTime → Result Unit Refusal
hundredths_answer s e = check Err InvalidTime (is_hundredth s.hundredths && is_hundredth e.hundredths) (days_answer s e)

abbrev pub dates_answer : DateTime → DateTime → Result Unit Refusal
dates_answer s e = check Err InvalidYear (is_year s.date.year && is_year e.date.year) (hundredths_answer s e)

-- 21 alone
abbrev pub window_answer : ℕ → Window → Result Unit Refusal
window_answer count w = check Err InvalidWindow (ltb count 32 && earlier w.start w.end) done

goes : (a b d : Bool) (last : Result Unit Refusal) → check Err InvalidYear a (check Err InvalidTime b (check Err InvalidDate d done)) ≡ done → (d ≡ true) × (check Err InvalidYear a (check Err InvalidTime b (check Err InvalidDate d last)) ≡ last)
goes true true true last h = (refl, refl)
goes true true false last h = let z : ◌≡◌ {A = ℕ} 0 1 = cc in absurd (omega arith)
goes true false d last h = let z : ◌≡◌ {A = ℕ} 0 1 = cc in absurd (omega arith)
goes false b d last h = let z : ◌≡◌ {A = ℕ} 0 1 = cc in absurd (omega arith)

stops : (a b d : Bool) (last : Result Unit Refusal) (x : Refusal) → check Err InvalidYear a (check Err InvalidTime b (check Err InvalidDate d done)) ≡ Err x → check Err InvalidYear a (check Err InvalidTime b (check Err InvalidDate d last)) ≡ Err x
stops true true true last x h = let z : ◌≡◌ {A = ℕ} 0 1 = cc in absurd (omega arith)
stops true true false last x h = h
stops true false d last x h = h
stops false b d last x h = h

module _ (s e : DateTime) where
  pub dates-are : dates_answer s e ≡ done → (has_date s.date ≡ true) × (has_date e.date ≡ true)
  dates-are h =
      let d = (goes (is_year s.date.year && is_year e.date.year) (is_hundredth s.hundredths && is_hundredth e.hundredths) (has_date s.date && has_date e.date) done h).0 in
      (and_left (has_date s.date) (has_date e.date) d, and_right (has_date s.date) (has_date e.date) d)

  pub book-keys : (count : ℕ) (w : Window) (r : Result WindowKeys Refusal) → dates_answer s e ≡ done → w ≡ window_of s e → r ≡ keyed_by (window_answer count w) w → r ≡ keyed_by (add_answer count s e) (window_of s e)
  unfolding add_answer
  book-keys count w r h is keys =
      let g = (goes (is_year s.date.year && is_year e.date.year) (is_hundredth s.hundredths && is_hundredth e.hundredths) (has_date s.date && has_date e.date) (window_answer count (window_of s e)) h).1 in
      rw g (keys ∙ ap (λ (v : Window). keyed_by (window_answer count v) v) is)

  pub book-refused : (count : ℕ) (x : Refusal) (r : Result WindowKeys Refusal) → dates_answer s e ≡ Err x → r ≡ Err x → r ≡ keyed_by (add_answer count s e) (window_of s e)
  unfolding add_answer
  book-refused count x r h is =
      let g = stops (is_year s.date.year && is_year e.date.year) (is_hundredth s.hundredths && is_hundredth e.hundredths) (has_date s.date && has_date e.date) (window_answer count (window_of s e)) x h in
      rw g is

pub window-path : (s e : DateTime) (a b : Time) → a ≡ moment_of s → b ≡ moment_of e → ◌≡◌ {A = Window} (record { start = a; end = b }) (window_of s e)
window-path s e a b p q = rw (p, q)

-- ---- 21

module _ (count : ℕ) (w : Window) (start end : ℕ) (small : Small w.start × Small w.end) (starts : start ≡ key_of w.start) (ends : end ≡ key_of w.end) where
  ordered : ltb start end ≡ earlier w.start w.end
  ordered = rw (starts, ends) (sym (key-order w.start w.end small.0 small.1))

  pub keys-taken : count < 32 → start < end → keys start end ≡ keyed_by (window_answer count w) w
  keys-taken h k = let there : earlier w.start w.end ≡ true = sym ordered ∙ lt-ltb start end k in rw (lt-ltb count 32 h, there, starts, ends)

  pub keys-backwards : end ≤ start → count < 32 → Err InvalidWindow ≡ keyed_by (window_answer count w) w
  keys-backwards k h = let there : earlier w.start w.end ≡ false = sym ordered ∙ le-ltb start end k in rw (lt-ltb count 32 h, there)

pub keys-full : (count : ℕ) (w : Window) → 32 ≤ count → Err InvalidWindow ≡ keyed_by (window_answer count w) w
keys-full count w h = rw (le-ltb count 32 h)

-- ---- adding: what is booked is taken, and there is room for it

pub record Booked (count : ℕ) (s e : DateTime) (start end : ℕ) : Type 0 where
  pub done : add_answer count s e ≡ done
  pub room : count < 32
  pub start_is : start ≡ key_of (moment_of s)
  pub end_is : end ≡ key_of (moment_of e)

pub booked : (count : ℕ) (s e : DateTime) (start end : ℕ) → keys start end ≡ keyed_by (add_answer count s e) (window_of s e) → Booked count s e start end
booked count s e start end h = by_answer (add_answer count s e) refl
  where
    first : Result WindowKeys Refusal → ℕ
    first (Ok k) = k.start
    first (Err x) = 0

    second : Result WindowKeys Refusal → ℕ
    second (Ok k) = k.end
    second (Err x) = 0

    by_answer : (a : Result Unit Refusal) → add_answer count s e ≡ a → Booked count s e start end
    by_answer (Ok u) is =
        let same : keys start end ≡ keys (key_of (moment_of s)) (key_of (moment_of e)) = rw is at h in
        record { done = is; room = (passes-all count s e is).room; start_is = ap first same; end_is = ap second same }
    by_answer (Err x) is = let same : keys start end ≡ Err x = rw is at h in let z : ◌≡◌ {A = ℕ} 0 1 = cc in absurd (omega arith)

pub add-taken : (c next : Calendar) (s e : DateTime) (start end : ℕ) → keys start end ≡ keyed_by (add_answer c.count s e) (window_of s e) → next ≡ record { count = c.count + 1; starts = set c.starts c.count start; ends = set c.ends c.count end } → ◌≡◌ {A = Added} (record { calendar = next; answer = done }) (add_of c s e)
unfolding add_of
add-taken c next s e start end h is = let b = booked c.count s e start end h in rw (b.done, is, b.start_is, b.end_is)

pub refused-by : (count : ℕ) (s e : DateTime) (x : Refusal) → Err x ≡ keyed_by (add_answer count s e) (window_of s e) → add_answer count s e ≡ Err x
refused-by count s e x h = by_answer (add_answer count s e) refl
  where
    why : Result WindowKeys Refusal → Result Unit Refusal
    why (Ok k) = done
    why (Err r) = Err r

    by_answer : (a : Result Unit Refusal) → add_answer count s e ≡ a → add_answer count s e ≡ Err x
    by_answer (Ok u) is = let same : Err x ≡ keys (key_of (moment_of s)) (key_of (moment_of e)) = rw is at h in let z : ◌≡◌ {A = ℕ} 0 1 = cc in absurd (omega arith)
    by_answer (Err r) is = is ∙ ap why (sym (let same : Err x ≡ Err r = rw is at h in same))

pub add-refused : (c : Calendar) (s e : DateTime) (x : Refusal) → Err x ≡ keyed_by (add_answer c.count s e) (window_of s e) → ◌≡◌ {A = Added} (record { calendar = c; answer = Err x }) (add_of c s e)
unfolding add_of
add-refused c s e x h = rw (refused-by c.count s e x h)
