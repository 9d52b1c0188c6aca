-- `row_in` gives each letter the row of document 01's table, and with the year document 02's: by computation for the seven, and for any other letter by what is left of the table.
use mathlib.Core.Path.{◌≡◌, refl, ap}
use mathlib.Core.Bool.{true, false}
use native.Mathlib.Omega.{arith}
use Rattle.timecode.specs.Formats.{Row, A, B, D, E, G, H, X, table, look_up, row_of, known, size, interval, carries_leap, carries_year, carries_control, carries_seconds, control_places, is_x}
use Rattle.timecode.specs.Layout.{seconds, minutes, hours, days, tenths, hundredths_digit, has_seconds, straight_seconds, years, time_fields}
use Rattle.layout.specs.Runs.{code_range, code_control, code_fields, code_runs}
use Rattle.layout.specs.Tables.{widths_of, run_widths, is_carried}
use Rattle.layout.specs.Letters.{in_row, earlier-row, later-row, no_year, year-of, other-year, Other, other_row, other-widths, other-leap, as-carried}
use Rattle.layout.proofs.row_in.Goals as goal

pub returns-in-65 : goal.returns-in-65
unfolding known size interval carries_leap row_of look_up table widths_of code_runs code_fields time_fields seconds minutes hours days tenths hundredths_digit straight_seconds has_seconds carries_seconds code_control code_range carries_control carries_year control_places years is_x run_widths is_carried
returns-in-65 c =
    rw (c.in-65.is, c.if-year.true)
    (λ e y.
    let n : carries_year (record { letter = A; expression = e }) ≡ true = y in
    record { elements_are = refl; interval_is = refl; expressions_are = later-row e (year-of A e n); leap_is = refl; year_is = n; widths_are = rw n (as-carried 842751 _ refl refl refl refl); digits_are = refl; controls_are = refl; years_are = refl; marks_are = refl })

pub returns-in-65-2 : goal.returns-in-65-2
unfolding known size interval carries_leap row_of look_up table widths_of code_runs code_fields time_fields seconds minutes hours days tenths hundredths_digit straight_seconds has_seconds carries_seconds code_control code_range carries_control carries_year control_places years is_x run_widths is_carried
returns-in-65-2 c =
    rw (c.in-65.is, c.if-year.false)
    (λ e y.
    let n : carries_year (record { letter = A; expression = e }) ≡ false = y in
    record { elements_are = refl; interval_is = refl; expressions_are = earlier-row e (no_year A e refl n); leap_is = refl; year_is = n; widths_are = rw n (as-carried 64511 _ refl refl refl refl); digits_are = refl; controls_are = refl; years_are = refl; marks_are = refl })

pub returns-in-66 : goal.returns-in-66
unfolding known size interval carries_leap row_of look_up table widths_of code_runs code_fields time_fields seconds minutes hours days tenths hundredths_digit straight_seconds has_seconds carries_seconds code_control code_range carries_control carries_year control_places years is_x run_widths is_carried
returns-in-66 c =
    rw (c.in-66.is, c.if-year-2.true)
    (λ e y.
    let n : carries_year (record { letter = B; expression = e }) ≡ true = y in
    record { elements_are = refl; interval_is = refl; expressions_are = later-row e (year-of B e n); leap_is = refl; year_is = n; widths_are = rw n (as-carried 842239 _ refl refl refl refl); digits_are = refl; controls_are = refl; years_are = refl; marks_are = refl })

pub returns-in-66-2 : goal.returns-in-66-2
unfolding known size interval carries_leap row_of look_up table widths_of code_runs code_fields time_fields seconds minutes hours days tenths hundredths_digit straight_seconds has_seconds carries_seconds code_control code_range carries_control carries_year control_places years is_x run_widths is_carried
returns-in-66-2 c =
    rw (c.in-66.is, c.if-year-2.false)
    (λ e y.
    let n : carries_year (record { letter = B; expression = e }) ≡ false = y in
    record { elements_are = refl; interval_is = refl; expressions_are = earlier-row e (no_year B e refl n); leap_is = refl; year_is = n; widths_are = rw n (as-carried 63999 _ refl refl refl refl); digits_are = refl; controls_are = refl; years_are = refl; marks_are = refl })

pub returns-in-68 : goal.returns-in-68
unfolding known size interval carries_leap row_of look_up table widths_of code_runs code_fields time_fields seconds minutes hours days tenths hundredths_digit straight_seconds has_seconds carries_seconds code_control code_range carries_control carries_year control_places years is_x run_widths is_carried
returns-in-68 c = rw c.in-68.is (λ e y. let n = other-year D e (λ q. omega arith) (λ q. omega arith) in record { elements_are = refl; interval_is = refl; expressions_are = in_row 2 1 2 refl e; leap_is = refl; year_is = n; widths_are = rw n (as-carried 8688 _ refl refl refl refl); digits_are = refl; controls_are = refl; years_are = refl; marks_are = refl })

pub returns-in-69 : goal.returns-in-69
unfolding known size interval carries_leap row_of look_up table widths_of code_runs code_fields time_fields seconds minutes hours days tenths hundredths_digit straight_seconds has_seconds carries_seconds code_control code_range carries_control carries_year control_places years is_x run_widths is_carried
returns-in-69 c = rw c.in-69.is (λ e y. let n = other-year E e (λ q. omega arith) (λ q. omega arith) in record { elements_are = refl; interval_is = refl; expressions_are = in_row 2 1 2 refl e; leap_is = refl; year_is = n; widths_are = rw n (as-carried 254462 _ refl refl refl refl); digits_are = refl; controls_are = refl; years_are = refl; marks_are = refl })

pub returns-in-71 : goal.returns-in-71
unfolding known size interval carries_leap row_of look_up table widths_of code_runs code_fields time_fields seconds minutes hours days tenths hundredths_digit straight_seconds has_seconds carries_seconds code_control code_range carries_control carries_year control_places years is_x run_widths is_carried
returns-in-71 c = rw c.in-71.is (λ e y. let n = other-year G e (λ q. omega arith) (λ q. omega arith) in record { elements_are = refl; interval_is = refl; expressions_are = in_row 2 1 2 refl e; leap_is = refl; year_is = n; widths_are = rw n (as-carried 247807 _ refl refl refl refl); digits_are = refl; controls_are = refl; years_are = refl; marks_are = refl })

pub returns-in-72 : goal.returns-in-72
unfolding known size interval carries_leap row_of look_up table widths_of code_runs code_fields time_fields seconds minutes hours days tenths hundredths_digit straight_seconds has_seconds carries_seconds code_control code_range carries_control carries_year control_places years is_x run_widths is_carried
returns-in-72 c = rw c.in-72.is (λ e y. let n = other-year H e (λ q. omega arith) (λ q. omega arith) in record { elements_are = refl; interval_is = refl; expressions_are = in_row 2 1 2 refl e; leap_is = refl; year_is = n; widths_are = rw n (as-carried 8700 _ refl refl refl refl); digits_are = refl; controls_are = refl; years_are = refl; marks_are = refl })

pub returns-in-88 : goal.returns-in-88
unfolding known size interval carries_leap row_of look_up table widths_of code_runs code_fields time_fields seconds minutes hours days tenths hundredths_digit straight_seconds has_seconds carries_seconds code_control code_range carries_control carries_year control_places years is_x run_widths is_carried
returns-in-88 c = rw c.in-88.is (λ e y. let n = other-year X e (λ q. omega arith) (λ q. omega arith) in record { elements_are = refl; interval_is = refl; expressions_are = in_row 1 2 2 refl e; leap_is = refl; year_is = n; widths_are = rw n (as-carried 63 _ refl refl refl refl); digits_are = refl; controls_are = refl; years_are = refl; marks_are = refl })

pub returns-in_default : goal.returns-in_default
unfolding known size interval row_of run_widths is_carried
returns-in_default c =
    let l = c.args.letter in
    let o : Other c.args.letter =
    record {
      not_a = λ q. omega arith;
      not_b = λ q. omega arith;
      not_d = λ q. omega arith;
      not_e = λ q. omega arith;
      not_g = λ q. omega arith;
      not_h = λ q. omega arith;
      not_x = λ q. omega arith;
    } in
    let none = other_row l o in
    λ e y.
    let n = other-year l e o.not_a o.not_b in
    record {
      elements_are = ap (λ (r : Row). r.elements) none;
      interval_is = ap (λ (r : Row). r.interval) none;
      expressions_are = rw none (in_row 0 1 0 refl e);
      leap_is = other-leap l e o;
      year_is = n;
      widths_are = rw (n, other-widths l o) (as-carried 496 _ refl refl refl refl);
      digits_are = refl;
      controls_are = refl;
      years_are = refl;
      marks_are = refl;
    }
