-- Read accepts exactly the bytes as which a time and a control word are written, and gives those.
use Rattle.std.specs.Prelude.{◌≡◌, Bool, true, false, ◌&&◌, List, [], ◌∷◌, ◌++◌, map, ℕ, zero, suc, ◌+◌, ◌*◌, ◌/◌, ◌%◌, ◌<◌, ◌≤◌, leb, eqb, get_or, length, Result, Err}
use Rattle.std.proofs.Math.Path.{refl, ap}
use Rattle.std.proofs.Common.{sym, ◌∙◌, subst, subst₂, inl, inr, not-suc-le-zero, add-zero, zero-add, add-suc, suc-add, mod-eq_of_lt, arith, leb-true, leb-false, eqb-true}
use Rattle.std.proofs.Math.Nat.{mod-one}
use Rattle.timecode.specs.Answers.{refusal_number, accepted}
use Rattle.timecode.specs.Formats.{is_x, known, size, carries_year, control_places, year_carried, last_day_in, last_hundredth, day_length, carries_control, carries_leap, OnFormat}
use Rattle.timecode.specs.Frames.{day_in, written, marks_agree, element_fits, check_elements, are_digits, last_second, is_time, time_in, seconds_agree, read_of, Valid, frame_checks, digit_checks}
use Rattle.timecode.proofs.Laws.Checks.{passed, all-passed, accepted-taken, same_reading, refused-up-to}
use Rattle.timecode.specs.Laws.Digits.{Below, capacity, joined}
use Rattle.timecode.proofs.Laws.Digits.{joined-lt, digits-agree, number-joined}
use Rattle.timecode.specs.Laws.Fields.{Binary}
use Rattle.timecode.proofs.Laws.Fields.{fields-together, digits-back, are-digits, binary-positive, binary-capacity, binary-below}
use Rattle.timecode.proofs.Laws.Runs.{Clean, fits-agree, clean-bits, encode-decode, small-decoded, small-front, small-back}
use Rattle.timecode.proofs.Laws.Table.{layout-proper}
use Rattle.timecode.proofs.Laws.Tests.{by-test, clash, and_left, and_right}
use Rattle.timecode.proofs.Laws.Times.{last-range, year-carried, none-added, one-added, time-grid}
use Rattle.timecode.specs.Layout.{day_carried, Run, binary_if, seconds, minutes, hours, days, tenths, hundredths_digit, has_seconds, straight_seconds, control, years, time_fields, fields, flatten, runs, second, minute, hour, time_numbers, numbers, field_digits, all_digits, filler, encode, value, number_in, Small, decode}
use Rattle.timecode.specs.declared.Format.{Format}
use Rattle.timecode.specs.declared.Reading.{Reading}
use Rattle.timecode.specs.declared.Refusal.TheVariants.{MisplacedMark, InvalidElement}
use Rattle.timecode.specs.declared.Refusal.{Refusal}
use Rattle.timecode.specs.declared.Time.{Time}
use Rattle.timecode.specs.Laws.Reading.{InMinute, IsTime}

-- ---- elements that offend

elements-passed : (fillers : ℕ → ℕ) (rs : List Run) (ss : List ℕ) (i : ℕ) (a : Result Reading Refusal) (t : Time) (w : ℕ) → check_elements fillers rs i ss a ≡ accepted t w
    → ((k : ℕ) → k < length ss → element_fits fillers rs (i + k) (get_or ss k 0) ≡ true) × (a ≡ accepted t w)
unfolding check_elements
elements-passed fillers rs [] i a t w h = (λ k l. absurd (not-suc-le-zero l), h)
elements-passed fillers rs (s ∷ ss) i a t w h =
    let marks = passed Err (MisplacedMark i) (marks_agree fillers rs i s) _ (accepted t w) (accepted-taken t w) h in
    let here = passed Err (InvalidElement i) (element_fits fillers rs i s) _ (accepted t w) (accepted-taken t w) marks.1 in
    let later = elements-passed fillers rs ss (suc i) a t w here.1 in
    (clean here.0 later.0, later.1)
  where
    clean : element_fits fillers rs i s ≡ true → ((k : ℕ) → k < length ss → element_fits fillers rs (suc i + k) (get_or ss k 0) ≡ true) → (k : ℕ) → k < suc (length ss) → element_fits fillers rs (i + k) (get_or (s ∷ ss) k 0) ≡ true
    clean z c zero l = rw (add-zero i) z
    clean z c (suc k) l = rw (add-suc i k, ← suc-add i k) (c k (omega arith))

pub elements-pass : (fillers : ℕ → ℕ) (rs : List Run) (ss : List ℕ) (i : ℕ) (a : Result Reading Refusal) → ((k : ℕ) → k < length ss → element_fits fillers rs (i + k) (get_or ss k 0) ≡ true) → check_elements fillers rs i ss a ≡ a
unfolding check_elements
elements-pass fillers rs [] i a c = refl
elements-pass fillers rs (s ∷ ss) i a c =
    let z : element_fits fillers rs i s ≡ true = rw (add-zero i) at (c 0 (omega arith)) in
    rw (fits-agree 0 fillers rs i s z, z) (elements-pass fillers rs ss (suc i) a (λ k l. rw (suc-add i k, ← add-suc i k) (c (suc k) (omega arith))))

-- ---- what Read accepts was written

in-minute : (f : Format) (h m s : ℕ) → leb s (last_second f h m) ≡ true → InMinute f h m s
unfolding last_second
in-minute f h m s k =
    by-test (carries_leap f && (eqb h 23 && eqb m 59))
    (λ y.
    let last = and_right (carries_leap f) (eqb h 23 && eqb m 59) y in
    let b : s ≤ 60 = leb-true s 60 (rw y at k) in
    by-test (leb s 59)
    (λ z. inl (leb-true s 59 z))
    (λ z. inr (and_left (carries_leap f) (eqb h 23 && eqb m 59) y, eqb-true h 23 (and_left (eqb h 23) (eqb m 59) last), eqb-true m 59 (and_right (eqb h 23) (eqb m 59) last), omega (arith, leb-false s 59 z))))
    (λ n. inl (leb-true s 59 (rw n at k)))

module _ (f : Format) (h m s t u c : ℕ) (a : h ≤ 23) (b : m ≤ 59) (d : t ≤ 9) (e : u ≤ 9) (q : c ≡ ((h * 60 + m) * 60 + s) * 100 + t * 10 + u) where
  -- hours, minutes, seconds, tenths and hundredths of the hundredths that they make
  clock : InMinute f h m s → (second c ≡ s) × (minute c ≡ m) × (hour c ≡ h) × (c / 10 % 10 ≡ t) × (c % 10 ≡ u)
  clock (inl p) = let l : c < day_length = omega arith in rw ((none-added c l).0, (none-added c l).1, (none-added c l).2) (omega arith)
  clock (inr p) = let l : day_length ≤ c = omega arith in let n : c ≤ last_hundredth = omega arith in rw ((one-added c l n).0, (one-added c l n).1, (one-added c l n).2) (omega arith)

  in-day : InMinute f h m s → (c ≤ last_hundredth) × (carries_leap f ≡ false → c < day_length)
  in-day (inl p) = (omega arith, λ n. omega arith)
  in-day (inr p) = (omega arith, λ n. clash p.0 n)

pub is-time : (f : Format) (frame : List ℕ) → is_time f frame ≡ true → IsTime f frame
unfolding is_time
is-time f frame h =
    let H = leb (number_in frame (hours f)) 23 in
    let M = leb (number_in frame (minutes f)) 59 in
    let S = leb (number_in frame (seconds f)) (last_second f (number_in frame (hours f)) (number_in frame (minutes f))) in
    let F = leb 1 (day_in f frame) in
    let L = leb (day_in f frame) (last_day_in f (number_in frame (years f))) in
    let a = and_right (are_digits frame (flatten (time_fields f) ++ years f)) (H && (M && (S && (F && L)))) h in
    let b = and_right H (M && (S && (F && L))) a in
    let c = and_right M (S && (F && L)) b in
    let d = and_right S (F && L) c in
    record {
      digits = are-digits frame (flatten (time_fields f) ++ years f) (and_left (are_digits frame (flatten (time_fields f) ++ years f)) (H && (M && (S && (F && L)))) h);
      hour_is = leb-true (number_in frame (hours f)) 23 (and_left H (M && (S && (F && L))) a);
      minute_is = leb-true (number_in frame (minutes f)) 59 (and_left M (S && (F && L)) b);
      second_is = in-minute f (number_in frame (hours f)) (number_in frame (minutes f)) (number_in frame (seconds f)) (and_left S (F && L) c);
      first = leb-true 1 (day_in f frame) (and_left F L d);
      last = leb-true (day_in f frame) (last_day_in f (number_in frame (years f))) (and_right F L d);
    }

pub straight-binary : (f : Format) → Binary (straight_seconds f)
unfolding straight_seconds
straight-binary f = (refl, (refl, tt))

nines-binary : (b : Bool) (starts : List ℕ) → Binary (map (λ (start : ℕ). binary_if b start 9) starts)
nines-binary b [] = tt
nines-binary b (start ∷ starts) = (refl, nines-binary b starts)

pub control-binary : (f : Format) → Binary (control f)
unfolding control
control-binary f = nines-binary (carries_control f) (control_places f)

pub straight-wide : (f : Format) → has_seconds f ≡ true → capacity (straight_seconds f) ≡ 131072
unfolding straight_seconds
straight-wide f y = rw y

straight-absent : (f : Format) → has_seconds f ≡ false → capacity (straight_seconds f) ≡ 1
unfolding straight_seconds
straight-absent f m = rw m

seconds-agree : (f : Format) (frame : List ℕ) → seconds_agree f frame ≡ true → has_seconds f ≡ true → number_in frame (straight_seconds f) ≡ (time_in f frame).hundredths / 100
unfolding seconds_agree
seconds-agree f frame h y = eqb-true (number_in frame (straight_seconds f)) ((time_in f frame).hundredths / 100) (rw y at h)

-- the day in the digits is the one that they say
day-said : (f : Format) (frame : List ℕ) → day_carried f (time_in f frame) ≡ number_in frame (days f)
unfolding day_carried time_in day_in days value
day-said f frame = by-test (is_x f) (λ x. rw x) (λ n. rw n)

years-absent : (f : Format) (frame : List ℕ) → carries_year f ≡ false → number_in frame (years f) ≡ 0
unfolding years value
years-absent f frame m = rw m

module _ (f : Format) (frame : List ℕ) (k : known f ≡ true) (n : length frame ≡ size f) (clean : Clean (size f) (filler f) (runs f) frame) (time : IsTime f frame) (agree : seconds_agree f frame ≡ true) where
  small : Small (runs f) (decode (runs f) frame)
  small = small-decoded frame (runs f) (clean-bits (size f) (filler f) (runs f) frame (layout-proper f k) clean)

  time-part : Small (flatten (time_fields f)) (decode (flatten (time_fields f)) frame)
  unfolding runs fields time_fields seconds minutes hours days tenths hundredths_digit
  time-part = small-front frame (flatten (time_fields f)) (straight_seconds f ++ (control f ++ (years f ++ []))) small

  other-part : Small (straight_seconds f ++ (control f ++ (years f ++ []))) (decode (straight_seconds f ++ (control f ++ (years f ++ []))) frame)
  unfolding runs fields time_fields seconds minutes hours days tenths hundredths_digit
  other-part = small-back frame (flatten (time_fields f)) (straight_seconds f ++ (control f ++ (years f ++ []))) small

  straight-below : Below (straight_seconds f) (decode (straight_seconds f) frame)
  straight-below = binary-below (straight_seconds f) (decode (straight_seconds f) frame) (straight-binary f) (small-front frame (straight_seconds f) (control f ++ (years f ++ [])) other-part)

  control-below : Below (control f) (decode (control f) frame)
  control-below =
      binary-below (control f) (decode (control f) frame) (control-binary f)
      (small-front frame (control f) (years f ++ []) (small-back frame (straight_seconds f) (control f ++ (years f ++ [])) other-part))

  -- SBS holds the seconds of the time, as far as it is carried
  straight-agrees : joined (straight_seconds f) (decode (straight_seconds f) frame) ≡ (time_in f frame).hundredths / 100 % capacity (straight_seconds f)
  straight-agrees =
      let below = joined-lt (straight_seconds f) (decode (straight_seconds f) frame) straight-below in
      by-test (has_seconds f)
      (λ y.
      let q = sym (number-joined frame (straight_seconds f)) ∙ seconds-agree f frame agree y in
      q ∙ sym (mod-eq_of_lt (rw q at below)))
      (λ m.
      let one = straight-absent f m in
      let zero_is : joined (straight_seconds f) (decode (straight_seconds f) frame) ≡ 0 = omega (arith, below, one) in
      zero_is ∙ sym (ap (λ (x : ℕ). (time_in f frame).hundredths / 100 % x) one ∙ mod-one ((time_in f frame).hundredths / 100)))

  abbrev read-time : Time
  read-time = time_in f frame

  abbrev read-control : ℕ
  read-control = number_in frame (control f)

  digits_same : all_digits (fields f) (numbers f read-time read-control) ≡ decode (runs f) frame
  unfolding runs fields time_fields numbers time_numbers time_in seconds minutes hours days tenths hundredths_digit years
  digits_same =
      let c =
      clock f (number_in frame (hours f)) (number_in frame (minutes f)) (number_in frame (seconds f)) (number_in frame (tenths f)) (number_in frame (hundredths_digit f)) read-time.hundredths time.hour_is time.minute_is (omega (arith, time.digits)) (omega (arith, time.digits)) refl time.second_is in
      fields-together frame (fields f) (numbers f read-time read-control) (
        ap (field_digits (seconds f)) c.0 ∙ digits-back frame (seconds f) (omega (arith, time.digits)),
        (
          ap (field_digits (minutes f)) c.1 ∙ digits-back frame (minutes f) (omega (arith, time.digits)),
          (
            ap (field_digits (hours f)) c.2 ∙ digits-back frame (hours f) (omega (arith, time.digits)),
            (
              ap (field_digits (days f)) (day-said f frame) ∙ digits-back frame (days f) (omega (arith, time.digits)),
              (
                ap (field_digits (tenths f)) c.3 ∙ digits-back frame (tenths f) (omega (arith, time.digits)),
                (
                  ap (field_digits (hundredths_digit f)) c.4 ∙ digits-back frame (hundredths_digit f) (omega (arith, time.digits)),
                  (
                    digits-agree (straight_seconds f) (decode (straight_seconds f) frame) (read-time.hundredths / 100) (binary-positive (straight_seconds f) (straight-binary f)) straight-below straight-agrees,
                    (digits-back frame (control f) control-below, (digits-back frame (years f) (omega (arith, time.digits)), tt)),
                  ),
                ),
              ),
            ),
          ),
        ),
      )

  -- the year's digits say at most 99, and 0 where the format does not carry them
  read-year : year_carried f (number_in frame (years f)) ≡ true
  unfolding time_fields tenths hundredths_digit seconds minutes hours days years
  read-year = year-carried f (number_in frame (years f)) (λ y. omega (arith, time.digits)) (years-absent f frame)

  read-on-format : OnFormat f read-time
  unfolding time_in time_fields tenths hundredths_digit seconds minutes hours days years
  read-on-format =
      let d =
      in-day f (number_in frame (hours f)) (number_in frame (minutes f)) (number_in frame (seconds f)) (number_in frame (tenths f)) (number_in frame (hundredths_digit f)) read-time.hundredths time.hour_is time.minute_is (omega (arith, time.digits)) (omega (arith, time.digits)) refl time.second_is in
      record { year_is = read-year; first = time.first; within_year = time.last; last = omega (arith, time.last, last-range f (number_in frame (years f))); below = d.0; grid = time-grid f frame k time-part; carried = d.1 }

  read-valid : Valid f read-time read-control
  read-valid =
      record {
        format = k;
        time = read-on-format;
        room = subst (λ (x : ℕ). read-control < x) (binary-capacity (control f) (control-binary f)) (rw (number-joined frame (control f)) (joined-lt (control f) (decode (control f) frame) control-below));
      }

  read-written : written f read-time read-control ≡ frame
  unfolding written
  read-written = ap (encode (size f) (filler f) (runs f)) digits_same ∙ encode-decode (size f) (filler f) (runs f) frame (layout-proper f k) n clean

pub accepted-was-written : (f : Format) (frame : List ℕ) (t : Time) (w : ℕ) → read_of f frame ≡ accepted t w → Valid f t w × (written f t w ≡ frame)
unfolding read_of
accepted-was-written f frame t w h =
    let a = all-passed Err (frame_checks f frame) _ (accepted t w) (accepted-taken t w) h in
    let d = elements-passed (filler f) (runs f) frame 0 _ t w a.1 in
    let e = all-passed Err (digit_checks f frame) _ (accepted t w) (accepted-taken t w) d.1 in
    let same = same_reading (time_in f frame) t (number_in frame (control f)) w e.1 in
    let n = eqb-true (length frame) (size f) (a.0 1) in
    let clean : Clean (size f) (filler f) (runs f) frame = λ i l. rw (zero-add i) at (d.0 i (omega arith)) in
    subst₂ (λ (x : Time) (y : ℕ). Valid f x y × (written f x y ≡ frame)) same.0 same.1
    (read-valid f frame (a.0 0) n clean (is-time f frame (e.0 0)) (e.0 1), read-written f frame (a.0 0) n clean (is-time f frame (e.0 0)) (e.0 1))

-- ---- the numbers that Read refuses with

pub elements-up-to : (fillers : ℕ → ℕ) (rs : List Run) (ss : List ℕ) (i : ℕ) (a : Result Reading Refusal) (r : Refusal) → (a ≡ Err r → refusal_number r ≤ 8) → check_elements fillers rs i ss a ≡ Err r → refusal_number r ≤ 8
unfolding check_elements
elements-up-to fillers rs [] i a r later = later
elements-up-to fillers rs (s ∷ ss) i a r later =
    refused-up-to 8 (MisplacedMark i) (marks_agree fillers rs i s) _ r (omega arith)
    (refused-up-to 8 (InvalidElement i) (element_fits fillers rs i s) _ r (omega arith)
    (elements-up-to fillers rs ss (suc i) a r later))
