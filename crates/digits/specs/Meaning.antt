-- What the digits of a frame say, by their place in the list of runs, and that this is what Read says of the frame.
use Rattle.timecode.specs.declared.Refusal.{Refusal}
use Rattle.timecode.specs.declared.Reading.{Reading}
use Rattle.std.specs.Prelude.{◌≡◌, Bool, true, false, cond, ◌&&◌, List, [], ◌∷◌, ◌++◌, ℕ, zero, suc, ◌+◌, ◌*◌, ◌-◌, ◌/◌, ◌^◌, ◌<◌, ◌≤◌, leb, eqb, get_or, Result, Err}
use Rattle.std.proofs.Math.Path.{refl, ap}
use Rattle.std.proofs.Common.{sym, ◌∙◌, add-zero, add-suc, suc-add, not-suc-le-zero, add-one, leb-true}
use native.Mathlib.Omega.{arith}
use Rattle.timecode.specs.Answers.{checks, accepted}
use Rattle.timecode.specs.Formats.{is_x, carries_leap, carries_year, last_day, days_in, last_day_in}
use Rattle.timecode.specs.Frames.{are_digits, last_second, day_in, is_time, time_in, seconds_agree, digit_checks}
use Rattle.timecode.proofs.Laws.Tests.{by-test, and_left, and_right}
use Rattle.timecode.proofs.Laws.Times.{days-range}
use Rattle.timecode.specs.Layout.{Run, seconds, minutes, hours, days, tenths, hundredths_digit, has_seconds, straight_seconds, control, years, time_fields, flatten, digit_in, number_in, decode}
use Rattle.timecode.specs.declared.Format.{Format}
use Rattle.timecode.specs.declared.Refusal.TheVariants.{InvalidDigit, SecondsDiffer}
use Rattle.timecode.specs.declared.Time.{Time}
use Rattle.layout.specs.Tables.{widths_of}
use Rattle.layout.specs.Runs.{code_range, code_control, code_fields, code_runs, code-number}
use Rattle.digits.specs.Splitting.{straight-width}

-- the number of the two digits from j on
abbrev pub pair_at : List ℕ → ℕ → ℕ
pair_at ds j = get_or ds j 0 + 10 * get_or ds (j + 1) 0

abbrev pub day_from : List ℕ → ℕ
day_from ds = get_or ds 6 0 + 10 * (get_or ds 7 0 + 10 * get_or ds 8 0)

-- the n digits from j on are at most 9
unfoldable pub digits_from : ℕ → ℕ → List ℕ → Bool
digits_from zero j ds = true
digits_from (suc n) j ds = leb (get_or ds j 0) 9 && digits_from n (suc j) ds

-- the last second of a minute, where the leap second is carried or not
unfoldable pub last_second_of : Bool → ℕ → ℕ → ℕ
last_second_of leap hour minute = cond (leap && (eqb hour 23 && eqb minute 59)) 60 59

-- the last day of a year that is carried, or of any
abbrev pub last_day_of : Bool → ℕ → ℕ
last_day_of year y = cond year (days_in y) last_day

unfoldable pub is_time_of : Bool → Bool → List ℕ → Bool
is_time_of leap year ds = (digits_from 11 0 ds && digits_from 2 18 ds) && (leb (pair_at ds 4) 23 && (leb (pair_at ds 2) 59 && (leb (pair_at ds 0) (last_second_of leap (pair_at ds 4) (pair_at ds 2)) && (leb 1 (day_from ds) && leb (day_from ds) (last_day_of year (pair_at ds 18))))))

unfoldable pub time_from : List ℕ → Time
time_from ds = record { year = pair_at ds 18; day = day_from ds; hundredths = ((pair_at ds 4 * 60 + pair_at ds 2) * 60 + pair_at ds 0) * 100 + get_or ds 9 0 * 10 + get_or ds 10 0 }

-- straight binary seconds are carried where their first run has elements
unfoldable pub agree_of : List ℕ → List ℕ → Bool
agree_of ws ds = cond (eqb (get_or ws 11 0) 0) true (eqb (get_or ds 11 0 + 512 * get_or ds 12 0) ((time_from ds).hundredths / 100))

unfoldable pub control_from : List ℕ → List ℕ → ℕ
control_from ws ds = get_or ds 13 0 + 2 ^ get_or ws 13 0 * (get_or ds 14 0 + 2 ^ get_or ws 14 0 * (get_or ds 15 0 + 2 ^ get_or ws 15 0 * (get_or ds 16 0 + 2 ^ get_or ws 16 0 * get_or ds 17 0)))

unfoldable pub meaning_of : Bool → Bool → List ℕ → List ℕ → Result Reading Refusal
meaning_of leap year ws ds =
    checks Err
    ((InvalidDigit, is_time_of leap year ds)  -- 7
    ∷ (SecondsDiffer, agree_of ws ds)  -- 8
    ∷ [])
    (accepted (time_from ds) (control_from ws ds))

-- ---- a frame's digits say what the frame says

digits-parts : (frame : List ℕ) (rs qs : List Run) → are_digits frame (rs ++ qs) ≡ (are_digits frame rs && are_digits frame qs)
digits-parts frame [] qs = refl
digits-parts frame (r ∷ rs) qs = by-test (leb (digit_in frame r) 9) (λ y. rw y (digits-parts frame rs qs)) (λ n. rw n)

module _ (f : Format) (frame : List ℕ) where
  abbrev ds : List ℕ
  ds = decode (code_runs f) frame

  second_is : pair_at ds 0 ≡ number_in frame (seconds f)
  unfolding code_runs code_fields time_fields seconds minutes hours days tenths hundredths_digit straight_seconds code_control years
  second_is = omega arith

  minute_is : pair_at ds 2 ≡ number_in frame (minutes f)
  unfolding code_runs code_fields time_fields seconds minutes hours days tenths hundredths_digit straight_seconds code_control years
  minute_is = omega arith

  hour_is : pair_at ds 4 ≡ number_in frame (hours f)
  unfolding code_runs code_fields time_fields seconds minutes hours days tenths hundredths_digit straight_seconds code_control years
  hour_is = omega arith

  day_is : day_from ds ≡ number_in frame (days f)
  unfolding code_runs code_fields time_fields seconds minutes hours days tenths hundredths_digit straight_seconds code_control years
  day_is = omega arith

  tenth-is : get_or ds 9 0 ≡ number_in frame (tenths f)
  unfolding code_runs code_fields time_fields seconds minutes hours days tenths hundredths_digit straight_seconds code_control years
  tenth-is = omega arith

  hundredth_is : get_or ds 10 0 ≡ number_in frame (hundredths_digit f)
  unfolding code_runs code_fields time_fields seconds minutes hours days tenths hundredths_digit straight_seconds code_control years
  hundredth_is = omega arith

  time-digits-are : digits_from 11 0 ds ≡ are_digits frame (flatten (time_fields f))
  unfolding digits_from code_runs code_fields time_fields seconds minutes hours days tenths hundredths_digit straight_seconds code_control years
  time-digits-are = refl

  year-digits-are : digits_from 2 18 ds ≡ are_digits frame (years f)
  unfolding digits_from code_runs code_fields time_fields seconds minutes hours days tenths hundredths_digit straight_seconds code_control years
  year-digits-are = refl

  digits_are : (digits_from 11 0 ds && digits_from 2 18 ds) ≡ are_digits frame (flatten (time_fields f) ++ years f)
  digits_are = rw (time-digits-are, year-digits-are) (sym (digits-parts frame (flatten (time_fields f)) (years f)))

  year_is : pair_at ds 18 ≡ number_in frame (years f)
  unfolding code_runs code_fields time_fields seconds minutes hours days tenths hundredths_digit straight_seconds code_control years
  year_is = omega arith

  control-code : control_from (widths_of f) ds ≡ number_in frame (code_control f)
  unfolding control_from widths_of code_runs code_fields time_fields seconds minutes hours days tenths hundredths_digit straight_seconds code_control code_range years
  control-code =
      ap
      (λ (n : ℕ).
      digit_in frame (code_range f 50)
      + (code_range f 50).radix * (digit_in frame (code_range f 60) + (code_range f 60).radix * (digit_in frame (code_range f 70) + (code_range f 70).radix * (digit_in frame (code_range f 80) + (code_range f 80).radix * n))))
      (last (digit_in frame (code_range f 90)) (code_range f 90).radix)
    where
      last : (x r : ℕ) → x ≡ x + r * 0
      last x r = omega arith

  control_is : control_from (widths_of f) ds ≡ number_in frame (control f)
  control_is = control-code ∙ code-number f frame

  straight-is : has_seconds f ≡ true → get_or ds 11 0 + 512 * get_or ds 12 0 ≡ number_in frame (straight_seconds f)
  unfolding code_runs code_fields time_fields seconds minutes hours days tenths hundredths_digit straight_seconds code_control years
  straight-is y = rw y (omega arith)

  time_is : is_x f ≡ false → time_from ds ≡ time_in f frame
  unfolding time_from time_in day_in
  time_is x =
      rw x (
      λ i.
      record {
        year = year_is i;
        day = day_is i;
        hundredths = ((hour_is i * 60 + minute_is i) * 60 + second_is i) * 100 + tenth-is i * 10 + hundredth_is i;
      })

  is-time-is : is_x f ≡ false → is_time_of (carries_leap f) (carries_year f) ds ≡ is_time f frame
  unfolding is_time_of is_time last_second_of last_second last_day_in day_in
  is-time-is x = rw (x, digits_are, hour_is, minute_is, second_is, day_is, year_is)

  agree-is : is_x f ≡ false → agree_of (widths_of f) ds ≡ seconds_agree f frame
  unfolding agree_of seconds_agree
  agree-is x = by-test (has_seconds f) (λ y. rw (straight-width f, y, straight-is y, time_is x)) (λ m. rw (straight-width f, m))

  pub meaning-is : is_x f ≡ false → meaning_of (carries_leap f) (carries_year f) (widths_of f) ds ≡ checks Err (digit_checks f frame) (accepted (time_in f frame) (number_in frame (control f)))
  unfolding meaning_of
  meaning-is x = rw (is-time-is x, agree-is x, time_is x, control_is)

-- ---- a turn of the loop over the digits of the time

pub digits-turn : (ds : List ℕ) (j : ℕ) → j < 11 → digits_from (11 - j) j ds ≡ (leb (get_or ds j 0) 9 && digits_from (11 - (j + 1)) (j + 1) ds)
unfolding digits_from
digits-turn ds j h = let m : 11 - j ≡ suc (11 - (j + 1)) = omega arith in rw (m, add-one j)

pub digits-end : (ds : List ℕ) (j : ℕ) → 11 ≤ j → digits_from (11 - j) j ds ≡ true
unfolding digits_from
digits-end ds j h = let m : 11 - j ≡ 0 = omega arith in rw m

-- ---- what the test of a time leaves

pub record Bounds (ds : List ℕ) : Type 0 where
  pub hour : pair_at ds 4 ≤ 23
  pub minute : pair_at ds 2 ≤ 59
  pub second : pair_at ds 0 ≤ 60
  pub day : day_from ds ≤ 366
  pub tenth : get_or ds 9 0 ≤ 9
  pub hundredth : get_or ds 10 0 ≤ 9
  pub year : digits_from 2 18 ds ≡ true

digits-small : (n j : ℕ) (ds : List ℕ) → digits_from n j ds ≡ true → (k : ℕ) → k < n → get_or ds (j + k) 0 ≤ 9
unfolding digits_from
digits-small zero j ds h k l = absurd (not-suc-le-zero l)
digits-small (suc n) j ds h zero l = rw (add-zero j) (leb-true (get_or ds j 0) 9 (and_left (leb (get_or ds j 0) 9) (digits_from n (suc j) ds) h))
digits-small (suc n) j ds h (suc k) l = rw (add-suc j k, ← suc-add j k) (digits-small n (suc j) ds (and_right (leb (get_or ds j 0) 9) (digits_from n (suc j) ds) h) k (omega arith))

last-second-60 : (leap : Bool) (h m : ℕ) → last_second_of leap h m ≤ 60
unfolding last_second_of
last-second-60 leap h m = by-test (leap && (eqb h 23 && eqb m 59)) (λ y. rw y (omega arith)) (λ n. rw n (omega arith))

last-day-366 : (year : Bool) (y : ℕ) → last_day_of year y ≤ 366
last-day-366 year y = by-test year (λ h. rw h (days-range y).1) (λ n. rw n (omega arith))

-- the year's digits make a number below 100
pub year-99 : (ds : List ℕ) → digits_from 2 18 ds ≡ true → pair_at ds 18 ≤ 99
year-99 ds h = let digit = digits-small 2 18 ds h in omega (arith, digit 0 (omega arith), digit 1 (omega arith))

pub time-bounds : (leap year : Bool) (ds : List ℕ) → is_time_of leap year ds ≡ true → Bounds ds
unfolding is_time_of
time-bounds leap year ds h =
    let H = leb (pair_at ds 4) 23 in
    let M = leb (pair_at ds 2) 59 in
    let last = last_second_of leap (pair_at ds 4) (pair_at ds 2) in
    let S = leb (pair_at ds 0) last in
    let F = leb 1 (day_from ds) in
    let L = leb (day_from ds) (last_day_of year (pair_at ds 18)) in
    let both = digits_from 11 0 ds && digits_from 2 18 ds in
    let digits_are = and_left both (H && (M && (S && (F && L)))) h in
    let a = and_right both (H && (M && (S && (F && L)))) h in
    let b = and_right H (M && (S && (F && L))) a in
    let c = and_right M (S && (F && L)) b in
    let digits = digits-small 11 0 ds (and_left (digits_from 11 0 ds) (digits_from 2 18 ds) digits_are) in
    record {
      hour = leb-true (pair_at ds 4) 23 (and_left H (M && (S && (F && L))) a);
      minute = leb-true (pair_at ds 2) 59 (and_left M (S && (F && L)) b);
      second = omega (arith, leb-true (pair_at ds 0) last (and_left S (F && L) c), last-second-60 leap (pair_at ds 4) (pair_at ds 2));
      day = omega (arith, leb-true (day_from ds) (last_day_of year (pair_at ds 18)) (and_right F L (and_right S (F && L) c)), last-day-366 year (pair_at ds 18));
      tenth = digits 9 (omega arith);
      hundredth = digits 10 (omega arith);
      year = and_right (digits_from 11 0 ds) (digits_from 2 18 ds) digits_are;
    }
