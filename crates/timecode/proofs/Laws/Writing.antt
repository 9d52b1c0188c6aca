-- What is written is accepted, and read as it was written. Demand 2 follows, and Write's answer taken apart.
use Rattle.timecode.specs.Answers.{accepted, done}
use Rattle.std.specs.Prelude.{◌≡◌, true, false, ◌&&◌, ℕ, zero, suc, ◌+◌, ◌*◌, ◌/◌, ◌%◌, ◌^◌, ◌≤◌, ◌<◌, leb, eqb, length, Err}
use Rattle.std.proofs.Math.Path.{refl, ap₂}
use Rattle.std.proofs.Common.{sym, ◌∙◌, subst, zero-add, arith}
use mathlib.Core.List.{List, [], ◌∷◌, ◌++◌}
use Rattle.std.proofs.Math.Decide.{dec_lt}
use borrow.Author.Tests.{ltb-true, eqb-true, lt-ltb, le-leb, eq-eqb}
use Rattle.timecode.specs.Formats.{is_x, size, carries_year, last_day_in, last_hundredth, day_length, carries_leap, OnFormat}
use Rattle.timecode.specs.Frames.{total_width, control_fits, written, write_of, write_leaves, are_symbols, are_digits, last_second, day_in, is_time, time_in, seconds_agree, read_of, Valid, write_checks, frame_checks, digit_checks}
use Rattle.timecode.proofs.Laws.Checks.{done-taken, all-passed, all_pass}
use Rattle.timecode.specs.Laws.Fields.{Each, AreDigits}
use Rattle.timecode.proofs.Laws.Fields.{fields-apart, fields-together, number-back, digits_are, binary-positive, binary-capacity, binary-small}
use Rattle.timecode.proofs.Laws.Reading.{elements-pass, straight-binary, control-binary, straight-wide}
use Rattle.timecode.proofs.Laws.Runs.{length-encode, small-length, small-append, decode-encode, encode-clean}
use Rattle.timecode.proofs.Laws.Table.{layout-proper}
use Rattle.timecode.proofs.Laws.Tests.{by-test}
use Rattle.timecode.proofs.Laws.Times.{only-day, carried-day, carried-small, time-path, on-format, is-on-format, is_carried, year-small, year-none, year-below, one-added, time-small}
use Rattle.timecode.specs.Layout.{Run, day_carried, seconds, minutes, hours, days, tenths, hundredths_digit, has_seconds, straight_seconds, control, years, time_fields, fields, flatten, runs, second, minute, hour, time_numbers, numbers, field_digits, all_digits, in_run, is_mark, filler, symbol_at, tabulate, encode, number_in, Small, decode}
use Rattle.timecode.specs.declared.Format.{Format}
use Rattle.timecode.specs.declared.Time.{Time}

-- ---- each symbol of a written frame is at most 3

filler-symbol : (f : Format) (i : ℕ) → filler f i ≤ 3
unfolding filler
filler-symbol f i =
    by-test (is_x f)
    (λ x. by-test (eqb i 0) (λ y. rw (x, y) (omega arith)) (λ m. rw (x, m) (omega arith)))
    (λ n. by-test (is_mark i) (λ y. rw (n, y) (omega arith)) (λ m. rw (n, m) (omega arith)))

pub symbol-small : (f : Format) (rs : List Run) (xs : List ℕ) (i : ℕ) → symbol_at (filler f) rs xs i ≤ 3
unfolding symbol_at
symbol-small f [] xs i = filler-symbol f i
symbol-small f (r ∷ rs) [] i = filler-symbol f i
symbol-small f (r ∷ rs) (x ∷ xs) i = by-test (in_run r i) (λ y. rw y (omega arith)) (λ m. rw m (symbol-small f rs xs i))

pub symbols-tabulate : (n i : ℕ) (g : ℕ → ℕ) → ((k : ℕ) → g k ≤ 3) → are_symbols (tabulate n i g) ≡ true
symbols-tabulate zero i g h = refl
symbols-tabulate (suc n) i g h = rw (le-leb (g i) 3 (h i)) (symbols-tabulate n (suc i) g h)

pub length-written : (f : Format) (t : Time) (w : ℕ) → length (written f t w) ≡ size f
unfolding written
length-written f t w = length-encode (size f) (filler f) (runs f) (all_digits (fields f) (numbers f t w))

pub written-symbols : (f : Format) (t : Time) (w : ℕ) → are_symbols (written f t w) ≡ true
unfolding written encode
written-symbols f t w = symbols-tabulate (size f) 0 (symbol_at (filler f) (runs f) (all_digits (fields f) (numbers f t w))) (symbol-small f (runs f) (all_digits (fields f) (numbers f t w)))

-- the year's digits fit their runs
pub years-small : (f : Format) (t : Time) → OnFormat f t → Small (years f) (field_digits (years f) t.year)
unfolding years
years-small f t o =
    by-test (carries_year f)
    (λ y. rw y (omega (arith, year-small f t.year o.year_is y)))
    (λ m. rw (m, year-none f t.year o.year_is m) (omega arith))

time-digits : (f : Format) (t : Time) → AreDigits (all_digits (time_fields f ++ (years f ∷ [])) (time_numbers f t ++ (t.year ∷ [])))
unfolding time_fields time_numbers seconds minutes hours days tenths hundredths_digit years
time-digits f t = omega arith

least-last : (f : Format) (h m : ℕ) → 59 ≤ last_second f h m
unfolding last_second
least-last f h m = by-test (carries_leap f && (eqb h 23 && eqb m 59)) (λ y. rw y (omega arith)) (λ n. rw n (omega arith))

-- the second of c is at most the last of its minute
second-last : (f : Format) (c : ℕ) → c ≤ last_hundredth → (carries_leap f ≡ false → c < day_length) → leb (second c) (last_second f (hour c) (minute c)) ≡ true
unfolding last_second
second-last f c b carried = go (dec_lt c day_length)
  where
    go : Dec (c < day_length) → leb (second c) (last_second f (hour c) (minute c)) ≡ true
    go (yes l) = le-leb (second c) (last_second f (hour c) (minute c)) (omega (arith, least-last f (hour c) (minute c)))
    go (no l) =
        let y : carries_leap f ≡ true = by-test (carries_leap f) (λ y. y) (λ n. let z : ⊥ = omega (arith, carried n) in absurd z) in
        let a : day_length ≤ c = omega arith in
        rw (y, (one-added c a b).0, (one-added c a b).1, (one-added c a b).2) refl

module _ (f : Format) (t : Time) (w : ℕ) (v : Valid f t w) where
  abbrev frame : List ℕ
  frame = written f t w

  pub written_small : Small (runs f) (all_digits (fields f) (numbers f t w))
  unfolding runs fields time_fields numbers time_numbers seconds minutes hours days tenths hundredths_digit
  written_small =
      small-append (flatten (time_fields f)) (straight_seconds f ++ (control f ++ (years f ++ []))) (all_digits (time_fields f) (time_numbers f t)) (field_digits (straight_seconds f) (t.hundredths / 100) ++ (field_digits (control f) w ++ (field_digits (years f) t.year ++ [])))
      (time-small f t v.format v.time)
      (small-append (straight_seconds f) (control f ++ (years f ++ [])) (field_digits (straight_seconds f) (t.hundredths / 100)) (field_digits (control f) w ++ (field_digits (years f) t.year ++ [])) (binary-small (straight_seconds f) (t.hundredths / 100) (straight-binary f))
      (small-append (control f) (years f ++ []) (field_digits (control f) w) (field_digits (years f) t.year ++ []) (binary-small (control f) w (control-binary f))
      (small-append (years f) [] (field_digits (years f) t.year) [] (years-small f t v.time) tt)))

  decoded : Each (λ d x. decode d frame ≡ field_digits d x) (fields f) (numbers f t w)
  unfolding written fields time_fields numbers time_numbers runs
  decoded = fields-apart frame (fields f) (numbers f t w) refl (decode-encode (size f) (filler f) (runs f) (all_digits (fields f) (numbers f t w)) (layout-proper f v.format) written_small)

  second_back : number_in frame (seconds f) ≡ second t.hundredths
  unfolding fields time_fields numbers time_numbers seconds
  second_back = number-back frame (seconds f) (second t.hundredths) (omega arith) (omega (arith, v.time.below)) decoded.0

  minute-back : number_in frame (minutes f) ≡ minute t.hundredths
  unfolding fields time_fields numbers time_numbers minutes
  minute-back = number-back frame (minutes f) (minute t.hundredths) (omega arith) (omega arith) decoded.1.0

  hour-back : number_in frame (hours f) ≡ hour t.hundredths
  unfolding fields time_fields numbers time_numbers hours
  hour-back = number-back frame (hours f) (hour t.hundredths) (omega arith) (omega (arith, v.time.below)) decoded.1.1.0

  days-back : number_in frame (days f) ≡ day_carried f t
  unfolding fields time_fields numbers time_numbers days
  days-back = number-back frame (days f) (day_carried f t) (omega arith) (omega (arith, v.time.last, carried-small f t)) decoded.1.1.1.0

  day-back : day_in f frame ≡ t.day
  unfolding day_in
  day-back = by-test (is_x f) (λ x. rw x (sym (only-day f t v.time x))) (λ n. rw n (days-back ∙ carried-day f t n))

  tenth-back : number_in frame (tenths f) ≡ t.hundredths / 10 % 10
  unfolding fields time_fields numbers time_numbers tenths
  tenth-back = number-back frame (tenths f) (t.hundredths / 10 % 10) (omega arith) (omega arith) decoded.1.1.1.1.0

  hundredth-back : number_in frame (hundredths_digit f) ≡ t.hundredths % 10
  unfolding fields time_fields numbers time_numbers hundredths_digit
  hundredth-back = number-back frame (hundredths_digit f) (t.hundredths % 10) (omega arith) (omega arith) decoded.1.1.1.1.1.0

  straight-back : has_seconds f ≡ true → number_in frame (straight_seconds f) ≡ t.hundredths / 100
  unfolding fields time_fields numbers time_numbers
  straight-back y =
      number-back frame (straight_seconds f) (t.hundredths / 100) (binary-positive (straight_seconds f) (straight-binary f)) (omega (arith, straight-wide f y, v.time.below)) decoded.1.1.1.1.1.1.0

  control-back : number_in frame (control f) ≡ w
  unfolding fields time_fields numbers time_numbers
  control-back =
      number-back frame (control f) w (binary-positive (control f) (control-binary f)) (rw (binary-capacity (control f) (control-binary f)) v.room) decoded.1.1.1.1.1.1.1.0

  year-back : number_in frame (years f) ≡ t.year
  unfolding fields time_fields numbers time_numbers years
  year-back = number-back frame (years f) t.year (omega arith) (omega (arith, year-below f t.year v.time.year_is)) decoded.1.1.1.1.1.1.1.1.0

  time-back : time_in f frame ≡ t
  unfolding time_in
  time-back = time-path (time_in f frame) t year-back day-back clock-back
    where
      clock-back : ((number_in frame (hours f) * 60 + number_in frame (minutes f)) * 60 + number_in frame (seconds f)) * 100 + number_in frame (tenths f) * 10 + number_in frame (hundredths_digit f) ≡ t.hundredths
      clock-back = rw (hour-back, minute-back, second_back, tenth-back, hundredth-back) (omega (arith, v.time.below))

  time-decoded : all_digits (time_fields f ++ (years f ∷ [])) (time_numbers f t ++ (t.year ∷ [])) ≡ decode (flatten (time_fields f) ++ years f) frame
  unfolding fields time_fields numbers time_numbers seconds minutes hours days tenths hundredths_digit years
  time-decoded =
      fields-together frame (time_fields f ++ (years f ∷ [])) (time_numbers f t ++ (t.year ∷ []))
      (sym decoded.0, (sym decoded.1.0, (sym decoded.1.1.0, (sym decoded.1.1.1.0, (sym decoded.1.1.1.1.0, (sym decoded.1.1.1.1.1.0, (sym decoded.1.1.1.1.1.1.1.1.0, tt)))))))

  digits-pass : are_digits frame (flatten (time_fields f) ++ years f) ≡ true
  digits-pass = digits_are frame (flatten (time_fields f) ++ years f) (subst AreDigits time-decoded (time-digits f t))

  time-passes : is_time f frame ≡ true
  unfolding is_time
  time-passes =
      rw (
        digits-pass,
        hour-back,
        minute-back,
        second_back,
        day-back,
        year-back,
        le-leb (hour t.hundredths) 23 (omega (arith, v.time.below)),
        le-leb (minute t.hundredths) 59 (omega arith),
        second-last f t.hundredths v.time.below v.time.carried,
        le-leb 1 t.day v.time.first,
        le-leb t.day (last_day_in f t.year) v.time.within_year,
      )

  seconds-pass : seconds_agree f frame ≡ true
  unfolding seconds_agree
  seconds-pass =
      by-test (has_seconds f)
      (λ y. rw (y, time-back) (eq-eqb (number_in frame (straight_seconds f)) (t.hundredths / 100) (straight-back y)))
      (λ m. rw m)

  pub written-is-accepted : read_of f frame ≡ accepted t w
  unfolding read_of written
  written-is-accepted =
      all_pass Err (frame_checks f frame) _ (v.format, (eq-eqb (length frame) (size f) (length-written f t w), (written-symbols f t w, tt)))
      ∙ elements-pass (filler f) (runs f) frame 0 _ (λ i h. rw (zero-add i) (encode-clean (size f) (filler f) (runs f) (all_digits (fields f) (numbers f t w)) (small-length (runs f) (all_digits (fields f) (numbers f t w)) written_small) i (rw (length-written f t w) at h)))
      ∙ all_pass Err (digit_checks f frame) _ (time-passes, (seconds-pass, tt))
      ∙ ap₂ accepted time-back control-back

-- ---- Write's answer

pub taken : (f : Format) (t : Time) (w : ℕ) (lent : List ℕ) → write_of f t w lent ≡ done → Valid f t w × (length lent ≡ size f)
unfolding write_of control_fits
taken f t w lent h =
    let passed = (all-passed Err (write_checks f t w lent) done done done-taken h).0 in (
      record { format = passed 0; time = on-format f t (passed 1) (passed 2) (passed 3); room = ltb-true w (2 ^ total_width (control f)) (passed 4) },
      eqb-true (length lent) (size f) (passed 5),
    )

pub takes : (f : Format) (t : Time) (w : ℕ) (lent : List ℕ) → Valid f t w → length lent ≡ size f → write_of f t w lent ≡ done
unfolding write_of control_fits
takes f t w lent v n =
    rw (v.format, v.time.year_is, is-on-format f t v.time, is_carried f t v.time, lt-ltb w (2 ^ total_width (control f)) v.room, eq-eqb (length lent) (size f) n)

pub leaves : (f : Format) (t : Time) (w : ℕ) (lent : List ℕ) → write_of f t w lent ≡ done → write_leaves f t w lent ≡ written f t w
unfolding write_leaves
leaves f t w lent h = rw h
