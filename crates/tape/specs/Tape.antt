-- The one format of letter X, and its frame as it is written: run by run over what fills the rest.
use Rattle.std.specs.Prelude.{◌≡◌, refl, true, false, cond, ◌&&◌, List, [], ◌∷◌, ℕ, ◌+◌, ◌-◌, ◌/◌, ◌%◌, ◌^◌, ◌<◌, leb, ltb, eqb, get_or, length, set}
use Rattle.std.proofs.Common.{sym, ap, ◌∙◌, zero-add, arith, eqb-true, leb-true, le-leb, ltb-true, ltb-false, lt-ltb, le-ltb, length-set, ext_get_or, get_or-set_same, get_or-set_other}
use Rattle.std.proofs.lemmas.Bool.{eqb-false}
use Rattle.timecode.specs.Formats.{member, X, table, look_up, row_of, known, size, is_x, carries_control, carries_seconds, carries_year, control_places, day_length, carries_leap}
use Rattle.timecode.specs.Frames.{written, Valid}
use Rattle.timecode.proofs.Laws.Runs.{get_d-encode, length-encode, get_d_tabulate, length-tabulate}
use Rattle.timecode.proofs.Laws.Tests.{by-test, clash}
use Rattle.timecode.proofs.Laws.Times.{none-added}
use Rattle.timecode.specs.Layout.{Run, seconds, minutes, hours, days, tenths, hundredths_digit, has_seconds, straight_seconds, control, years, time_fields, fields, runs, day_carried, time_numbers, numbers, filler, symbol_at, tabulate, encode}
use Rattle.timecode.specs.declared.Format.{Format}
use Rattle.timecode.specs.declared.Time.{Time}

abbrev pub tape : Format
tape = record { letter = X; expression = 2 }

two : (e : ℕ) → member e (2 ∷ []) ≡ true → e ≡ 2
two e h = by-test (eqb e 2) (λ y. eqb-true e 2 y) (λ m. clash (rw m at h) refl)

-- a known format of letter X is that one
pub is-tape : (f : Format) → is_x f ≡ true → known f ≡ true → f ≡ tape
unfolding known is_x row_of look_up table
is-tape f x k = λ i. record { letter = letter-is i; expression = only i }
  where
    letter-is : f.letter ≡ X
    letter-is = eqb-true f.letter X x

    only : f.expression ≡ 2
    only = two f.expression (rw letter-is at k)

-- a run of a digit with its highest weight first
abbrev pub falling_run : ℕ → ℕ → Run
falling_run start width = record { start = start; width = width; radix = 10; falls = true }

-- units and tens of seconds, of minutes and of hours; the other runs of X have no elements
abbrev pub tape_runs : List Run
tape_runs = falling_run 17 4 ∷ falling_run 14 3 ∷ falling_run 10 4 ∷ falling_run 7 3 ∷ falling_run 3 4 ∷ falling_run 1 2 ∷ []

-- their digits, from the seconds since midnight
abbrev pub tape_digits : ℕ → List ℕ
tape_digits s = s % 60 % 10 ∷ s % 60 / 10 % 10 ∷ s / 60 % 60 % 10 ∷ s / 60 % 60 / 10 % 10 ∷ s / 60 / 60 % 10 ∷ s / 60 / 60 / 10 % 10 ∷ []

pub tape-written : (t : Time) (w : ℕ) → t.hundredths < day_length → encode 25 (filler tape) tape_runs (tape_digits (t.hundredths / 100)) ≡ written tape t w
unfolding written size encode symbol_at filler runs fields time_fields seconds minutes hours days tenths hundredths_digit straight_seconds has_seconds carries_seconds control carries_control carries_year control_places years time_numbers numbers day_carried is_x row_of look_up table
tape-written t w h =
    let usual = none-added t.hundredths h in
    rw (usual.0, usual.1, usual.2) refl

no-leap : (f : Format) → is_x f ≡ true → carries_leap f ≡ false
unfolding is_x carries_leap
no-leap f x = rw (eqb-true f.letter X x)

-- what Write is to leave, in a format of letter X
pub is-written : (f : Format) (t : Time) (w : ℕ) (frame : List ℕ) → is_x f ≡ true → Valid f t w → frame ≡ encode 25 (filler tape) tape_runs (tape_digits (t.hundredths / 100)) → frame ≡ written f t w
is-written f t w frame x v e = e ∙ tape-written t w (v.time.carried (no-leap f x)) ∙ ap (λ (g : Format). written g t w) (sym (is-tape f x v.format))

-- ---- a digit is put over what stood there

-- after a digit's first j elements are put
pub record DigitPut (start width digit : ℕ) (before : List ℕ) (j : ℕ) (after : List ℕ) : Type 0 where
  pub long : length after ≡ length before
  pub elements : (i : ℕ) → get_or after i 0 ≡ cond (leb start i && ltb i (start + j)) (digit / 2 ^ (start + width - 1 - i) % 2) (get_or before i 0)

pub digit-start : (start width digit : ℕ) (xs : List ℕ) → DigitPut start width digit xs 0 xs
digit-start start width digit xs =
    record {
      long = refl;
      elements = λ i. by-test (leb start i) (λ y. let l = leb-true start i y in rw (y, le-ltb i (start + 0) (omega arith))) (λ m. rw m);
    }

pub digit-turn : (start width digit j b : ℕ) (before xs : List ℕ) → start + j < length xs → b ≡ digit / 2 ^ (width - 1 - j) % 2 → DigitPut start width digit before j xs → DigitPut start width digit before (j + 1) (set xs (start + j) b)
digit-turn start width digit j b before xs inside bit put =
    record {
      long = length-set xs (start + j) b ∙ put.long;
      elements = λ i. by-test (eqb i (start + j)) (λ y. here i (eqb-true i (start + j) y)) (λ m. other i (eqb-false i (start + j) m));
    }
  where
    here : (i : ℕ) → i ≡ start + j → get_or (set xs (start + j) b) i 0 ≡ cond (leb start i && ltb i (start + (j + 1))) (digit / 2 ^ (start + width - 1 - i) % 2) (get_or before i 0)
    here i e =
        let weight : width - 1 - j ≡ start + width - 1 - i = omega arith in
        rw (le-leb start i (omega arith), lt-ltb i (start + (j + 1)) (omega arith), e) (get_or-set_same xs (start + j) b 0 inside ∙ bit ∙ ap (λ (k : ℕ). digit / 2 ^ k % 2) (rw (← e) weight))

    other : (i : ℕ) → (i ≡ start + j → ⊥) → get_or (set xs (start + j) b) i 0 ≡ cond (leb start i && ltb i (start + (j + 1))) (digit / 2 ^ (start + width - 1 - i) % 2) (get_or before i 0)
    other i n =
        get_or-set_other xs (start + j) i b 0 n
        ∙ put.elements i
        ∙ by-test (ltb i (start + j))
        (λ y. let l = ltb-true i (start + j) y in rw (y, lt-ltb i (start + (j + 1)) (omega arith)))
        (λ m. let l = ltb-false i (start + j) m in rw (m, le-ltb i (start + (j + 1)) (omega arith)))

-- ---- both digits of a number

-- a list with digits put over another, as far as they go the elements of a frame
pub record RunsPut (rs : List Run) (xs before after : List ℕ) : Type 0 where
  pub long : length after ≡ length before
  pub elements : (i : ℕ) → get_or after i 0 ≡ symbol_at (λ (k : ℕ). get_or before k 0) rs xs i

abbrev pub number_runs : ℕ → ℕ → List Run
number_runs start tens = falling_run (start + tens) 4 ∷ falling_run start tens ∷ []

abbrev pub number_digits : ℕ → List ℕ
number_digits number = number % 10 ∷ number / 10 % 10 ∷ []

pub number_put : (start tens number : ℕ) (before mid after : List ℕ) → DigitPut start tens (number / 10 % 10) before tens mid → DigitPut (start + tens) 4 (number % 10) mid 4 after → RunsPut (number_runs start tens) (number_digits number) before after
unfolding symbol_at
number_put start tens number before mid after p q = record { long = q.long ∙ p.long; elements = λ i. q.elements i ∙ rw (p.elements i) refl }

-- ---- the whole frame

-- where no digit stands: a mark first, and then threes
abbrev pub blank_at : ℕ → ℕ
blank_at i = cond (eqb i 0) 2 3

abbrev pub blank : List ℕ
blank = tabulate 25 0 blank_at

pub blank-long : (xs : List ℕ) → xs ≡ blank → length xs ≡ 25
blank-long xs e = ap length e ∙ length-tabulate 25 0 blank_at

blank-filler : (i : ℕ) → i < 25 → get_or blank i 0 ≡ filler tape i
unfolding filler is_x
blank-filler i h = get_d_tabulate 25 0 blank_at 0 i h ∙ ap blank_at (zero-add i)

pub tape-put : (s : ℕ) (hours minutes seconds : List ℕ) → RunsPut (number_runs 1 2) (number_digits (s / 60 / 60)) blank hours → RunsPut (number_runs 7 3) (number_digits (s / 60 % 60)) hours minutes → RunsPut (number_runs 14 3) (number_digits (s % 60)) minutes seconds
    → seconds ≡ encode 25 (filler tape) tape_runs (tape_digits s)
unfolding symbol_at
tape-put s hours minutes seconds p q r =
    let long : length seconds ≡ 25 = r.long ∙ q.long ∙ p.long ∙ length-tabulate 25 0 blank_at in
    ext_get_or 0 seconds (encode 25 (filler tape) tape_runs (tape_digits s)) (long ∙ sym (length-encode 25 (filler tape) tape_runs (tape_digits s)))
    (λ i l. r.elements i ∙ rw (q.elements i, p.elements i, blank-filler i (omega arith)) (sym (get_d-encode 25 (filler tape) tape_runs (tape_digits s) i (omega arith))))
