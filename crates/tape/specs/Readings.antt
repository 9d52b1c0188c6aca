-- What Read says of a frame of letter X: the lowest element that offends, or the time that its digits say.
use Rattle.timecode.specs.declared.Refusal.{Refusal}
use Rattle.timecode.specs.declared.Reading.{Reading}
use Rattle.std.specs.Prelude.{◌≡◌, Bool, true, false, cond, not, ◌&&◌, List, ℕ, zero, suc, ◌+◌, ◌*◌, ◌-◌, ◌^◌, ◌<◌, ◌≤◌, leb, ltb, eqb, get_or, length, drop, Result, Err}
use Rattle.std.proofs.Math.Path.{refl}
use Rattle.std.proofs.Common.{sym, ap, ◌∙◌, zero-add, add-one, arith, leb-true, le-leb, eq-eqb, ne_eqb, drop_of_length-le, pow_mono, drop-cons}
use Rattle.std.proofs.Math.Nat.{two-pow-succ}
use Rattle.timecode.specs.Answers.{check, accepted}
use Rattle.timecode.specs.Formats.{table, look_up, row_of, known, size, is_x, carries_control, carries_seconds, carries_year, carries_leap, control_places, last_day_in}
use Rattle.timecode.specs.Frames.{are_symbols, covered, marks_agree, element_fits, check_elements, last_second, day_in, is_time, time_in, seconds_agree, read_of}
use Rattle.timecode.proofs.Laws.Runs.{get_d_tabulate}
use Rattle.timecode.proofs.Laws.Tests.{by-test, and_left, and_right}
use Rattle.timecode.specs.Layout.{seconds, minutes, hours, days, tenths, hundredths_digit, has_seconds, straight_seconds, control, years, time_fields, fields, runs, filler, tabulate, value, digit_in}
use Rattle.timecode.specs.declared.Format.{Format}
use Rattle.timecode.specs.declared.Refusal.TheVariants.{UnknownSymbol, MisplacedMark, InvalidElement, InvalidDigit}
use Rattle.timecode.specs.declared.Time.{Time}
use Rattle.tape.specs.Tape.{tape, is-tape, falling_run}

-- ---- a digit, element by element

-- the number that a run's first j elements say
abbrev pub digit_of : List ℕ → ℕ → ℕ → ℕ
digit_of frame start j = digit_in frame (falling_run start j)

value_same : (w : ℕ) (g h : ℕ → ℕ) → ((b : ℕ) → g b ≡ h b) → value w g ≡ value w h
unfolding value
value_same zero g h e = refl
value_same (suc w) g h e = rw (e 0, value_same w (λ b. g (suc b)) (λ b. h (suc b)) (λ b. e (suc b)))

pub digit-more : (frame : List ℕ) (start j : ℕ) → digit_of frame start (j + 1) ≡ get_or frame (start + j) 0 + 2 * digit_of frame start j
unfolding value
digit-more frame start j =
    let first : suc j - 1 - 0 ≡ j = omega arith in
    rw (add-one j, first)
    (ap (λ (v : ℕ). get_or frame (start + j) 0 + 2 * v) (value_same j (λ b. get_or frame (start + (suc j - 1 - suc b)) 0) (λ b. get_or frame (start + (j - 1 - b)) 0) (λ b. let same : suc j - 1 - suc b ≡ j - 1 - b = omega arith in rw same)))

pub digit-none : (frame : List ℕ) (start : ℕ) → digit_of frame start 0 ≡ 0
unfolding value
digit-none frame start = refl

-- an element more at most doubles it and adds 255
pub digit-grows : (d j s : ℕ) → d + 255 ≤ 255 * 2 ^ j → s ≤ 255 → s + 2 * d + 255 ≤ 255 * 2 ^ (j + 1)
digit-grows d j s h b = rw (add-one j, two-pow-succ j) (omega arith)

pub digit-bound : (d j : ℕ) → d + 255 ≤ 255 * 2 ^ j → j ≤ 4 → d ≤ 3825
digit-bound d j h b = let p : 2 ^ j ≤ 16 = pow_mono {i = j} {j = 4} b in omega arith

-- ---- the time

-- no units over 9, and the number at most its last: then no tens are over 9 either
abbrev pub is_number : ℕ → ℕ → ℕ → Bool
is_number tens units last = leb units 9 && leb (units + 10 * tens) last

pub number-last : (tens units last : ℕ) → is_number tens units last ≡ true → units + 10 * tens ≤ last
number-last tens units last h = leb-true (units + 10 * tens) last (and_right (leb units 9) (leb (units + 10 * tens) last) h)

abbrev pub is_daytime : List ℕ → Bool
is_daytime frame = is_number (digit_of frame 1 2) (digit_of frame 3 4) 23 && (is_number (digit_of frame 7 3) (digit_of frame 10 4) 59 && is_number (digit_of frame 14 3) (digit_of frame 17 4) 59)

abbrev pub daytime : ℕ → ℕ → ℕ → Time
daytime hours minutes seconds = record { year = 0; day = 1; hundredths = ((hours * 60 + minutes) * 60 + seconds) * 100 }

abbrev pub daytime_in : List ℕ → Time
daytime_in frame = daytime (digit_of frame 3 4 + 10 * digit_of frame 1 2) (digit_of frame 10 4 + 10 * digit_of frame 7 3) (digit_of frame 17 4 + 10 * digit_of frame 14 3)

abbrev pub digits_meaning : ℕ → ℕ → ℕ → ℕ → ℕ → ℕ → Result Reading Refusal
digits_meaning ht hu mt mu st su = check Err InvalidDigit (is_number ht hu 23 && (is_number mt mu 59 && is_number st su 59)) (accepted (daytime (hu + 10 * ht) (mu + 10 * mt) (su + 10 * st)) 0)

-- 7, or the time
abbrev pub meaning_of : List ℕ → Result Reading Refusal
meaning_of frame = check Err InvalidDigit (is_daytime frame) (accepted (daytime_in frame) 0)

both_ways : (a b : Bool) → (a ≡ true → b ≡ true) → (b ≡ true → a ≡ true) → a ≡ b
both_ways true b h k = sym (h refl)
both_ways false true h k = k refl
both_ways false false h k = refl

both : (a b : Bool) → a ≡ true → b ≡ true → (a && b) ≡ true
both a b h k = rw (h, k)

-- the definition's test, for any digits
abbrev defined_test : ℕ → ℕ → ℕ → ℕ → ℕ → ℕ → Bool
defined_test su st mu mt hu ht =
    (leb su 9 && (leb st 9 && (leb mu 9 && (leb mt 9 && (leb hu 9 && (leb ht 9 && true))))))
    && (leb (hu + 10 * (ht + 10 * 0)) 23 && (leb (mu + 10 * (mt + 10 * 0)) 59 && (leb (su + 10 * (st + 10 * 0)) 59 && true)))

abbrev code_test : ℕ → ℕ → ℕ → ℕ → ℕ → ℕ → Bool
code_test su st mu mt hu ht = is_number ht hu 23 && (is_number mt mu 59 && is_number st su 59)

-- a number of two digits in range has no tens over 9
tens-small : (tens units last : ℕ) → last ≤ 99 → leb (units + 10 * tens) last ≡ true → leb tens 9 ≡ true
tens-small tens units last b h = let l = leb-true (units + 10 * tens) last h in le-leb tens 9 (omega arith)

same_number : (units tens last : ℕ) → leb (units + 10 * (tens + 10 * 0)) last ≡ leb (units + 10 * tens) last
same_number units tens last = let same : units + 10 * (tens + 10 * 0) ≡ units + 10 * tens = omega arith in rw same

same_test : (su st mu mt hu ht : ℕ) → defined_test su st mu mt hu ht ≡ code_test su st mu mt hu ht
same_test su st mu mt hu ht = rw (same_number hu ht 23, same_number mu mt 59, same_number su st 59) (both_ways _ _ forth back)
  where
    digits : Bool
    digits = leb su 9 && (leb st 9 && (leb mu 9 && (leb mt 9 && (leb hu 9 && (leb ht 9 && true)))))

    numbers : Bool
    numbers = leb (hu + 10 * ht) 23 && (leb (mu + 10 * mt) 59 && (leb (su + 10 * st) 59 && true))

    forth : (digits && numbers) ≡ true → code_test su st mu mt hu ht ≡ true
    forth h =
        let d = and_left digits numbers h in
        let n = and_right digits numbers h in
        let hour = and_left (leb (hu + 10 * ht) 23) _ n in
        let rest = and_right (leb (hu + 10 * ht) 23) _ n in
        let minute = and_left (leb (mu + 10 * mt) 59) _ rest in
        let second = and_left (leb (su + 10 * st) 59) true (and_right (leb (mu + 10 * mt) 59) _ rest) in
        let d1 = and_right (leb su 9) _ d in
        let d2 = and_right (leb st 9) _ d1 in
        let d3 = and_right (leb mu 9) _ d2 in
        let d4 = and_right (leb mt 9) _ d3 in
        rw (and_left (leb su 9) _ d, and_left (leb mu 9) _ d2, and_left (leb hu 9) _ d4, hour, minute, second) refl

    back : code_test su st mu mt hu ht ≡ true → (digits && numbers) ≡ true
    back h =
        let hour = and_left (is_number ht hu 23) _ h in
        let rest = and_right (is_number ht hu 23) _ h in
        let minute = and_left (is_number mt mu 59) _ rest in
        let second = and_right (is_number mt mu 59) _ rest in
        let a = and_right (leb hu 9) _ hour in
        let b = and_right (leb mu 9) _ minute in
        let c = and_right (leb su 9) _ second in
        rw (and_left (leb su 9) _ second, tens-small st su 59 (omega arith) c, and_left (leb mu 9) _ minute, tens-small mt mu 59 (omega arith) b, and_left (leb hu 9) _ hour, tens-small ht hu 23 (omega arith) a, a, b, c) refl

is-time : (frame : List ℕ) → is_time tape frame ≡ defined_test (digit_of frame 17 4) (digit_of frame 14 3) (digit_of frame 10 4) (digit_of frame 7 3) (digit_of frame 3 4) (digit_of frame 1 2)
unfolding is_time last_second day_in last_day_in carries_leap value time_fields seconds minutes hours days tenths hundredths_digit years carries_year is_x
is-time frame = refl

time-in : (frame : List ℕ) → time_in tape frame ≡ daytime_in frame
unfolding time_in day_in value seconds minutes hours days tenths hundredths_digit years carries_year is_x
time-in frame = ap (λ (c : ℕ). record { year = 0; day = 1; hundredths = c }) (omega arith)

-- Read of 25 elements checks 4, then the elements, then 7.
read-tape : (frame : List ℕ) → length frame ≡ 25 → read_of tape frame ≡ check Err UnknownSymbol (are_symbols frame) (check_elements (filler tape) (runs tape) 0 frame (meaning_of frame))
unfolding read_of known size row_of look_up table seconds_agree has_seconds carries_seconds control carries_control carries_year control_places is_x
read-tape frame long = rw (eq-eqb (length frame) 25 long, is-time frame, same_test (digit_of frame 17 4) (digit_of frame 14 3) (digit_of frame 10 4) (digit_of frame 7 3) (digit_of frame 3 4) (digit_of frame 1 2), time-in frame) refl

-- the same of every format of letter X
pub reads_so : (f : Format) (frame : List ℕ) → is_x f ≡ true → known f ≡ true → length frame ≡ 25 → read_of f frame ≡ check Err UnknownSymbol (are_symbols frame) (check_elements (filler tape) (runs tape) 0 frame (meaning_of frame))
reads_so f frame x k long = ap (λ (g : Format). read_of g frame) (is-tape f x k) ∙ read-tape frame long

-- ---- which element offends

all-covered : tabulate 25 0 (covered (runs tape)) ≡ tabulate 25 0 (λ i. leb 1 i && leb i 20)
unfolding runs fields time_fields seconds minutes hours days tenths hundredths_digit straight_seconds has_seconds carries_seconds control carries_control carries_year control_places years is_x row_of look_up table
all-covered = refl

covered-at : (i : ℕ) → i < 25 → covered (runs tape) i ≡ (leb 1 i && leb i 20)
covered-at i h =
    ap (covered (runs tape)) (sym (zero-add i))
    ∙ sym (get_d_tabulate 25 0 (covered (runs tape)) false i h)
    ∙ ap (λ (bs : List Bool). get_or bs i false) all-covered
    ∙ get_d_tabulate 25 0 (λ i. leb 1 i && leb i 20) false i h
    ∙ ap (λ (k : ℕ). leb 1 k && leb k 20) (zero-add i)

-- 5: a mark at 0, and nowhere else
abbrev pub mark_fits : ℕ → ℕ → Bool
mark_fits i s = cond (eqb i 0) (eqb s 2) (not (eqb s 2))

-- 6: a mark at 0, 0 or 1 at 1-20, 3 at 21-24
abbrev pub element_is : ℕ → ℕ → Bool
element_is i s = cond (eqb i 0) (eqb s 2) (cond (leb i 20) (ltb s 2) (eqb s 3))

marks_are : (i s : ℕ) → i < 25 → marks_agree (filler tape) (runs tape) i s ≡ mark_fits i s
unfolding marks_agree filler is_x
marks_are zero s h = rw (covered-at 0 h) refl
marks_are (suc i) s h = rw (covered-at (suc i) h, le-leb 1 (suc i) (omega arith), ne_eqb (suc i) 0 (λ e. omega arith)) (by-test (leb (suc i) 20) (λ y. rw y) (λ m. rw m))

elements_are : (i s : ℕ) → i < 25 → element_fits (filler tape) (runs tape) i s ≡ element_is i s
unfolding element_fits filler is_x
elements_are zero s h = rw (covered-at 0 h) refl
elements_are (suc i) s h = rw (covered-at (suc i) h, le-leb 1 (suc i) (omega arith), ne_eqb (suc i) 0 (λ e. omega arith)) (by-test (leb (suc i) 20) (λ y. rw y) (λ m. rw m))

-- the elements from i on
abbrev pub check_from : List ℕ → ℕ → Result Reading Refusal → Result Reading Refusal
check_from frame i answer = check_elements (filler tape) (runs tape) i (drop i frame) answer

module _ (frame : List ℕ) (i : ℕ) (answer : Result Reading Refusal) (long : length frame ≡ 25) (below : i < 25) where
  turn : check_from frame i answer ≡ check Err (MisplacedMark i) (mark_fits i (get_or frame i 0)) (check Err (InvalidElement i) (element_is i (get_or frame i 0)) (check_from frame (suc i) answer))
  unfolding check_elements
  turn = rw (drop-cons frame i 0 (omega arith), marks_are i (get_or frame i 0) below, elements_are i (get_or frame i 0) below) refl

  pub misplaced : mark_fits i (get_or frame i 0) ≡ false → check_from frame i answer ≡ Err (MisplacedMark i)
  misplaced m = turn ∙ rw m refl

  pub invalid : mark_fits i (get_or frame i 0) ≡ true → element_is i (get_or frame i 0) ≡ false → check_from frame i answer ≡ Err (InvalidElement i)
  invalid m e = turn ∙ rw (m, e) refl

  pub fits-here : mark_fits i (get_or frame i 0) ≡ true → element_is i (get_or frame i 0) ≡ true → check_from frame i answer ≡ check_from frame (i + 1) answer
  fits-here m e = turn ∙ rw (m, e, add-one i) refl

pub checked-all : (frame : List ℕ) (i : ℕ) (answer : Result Reading Refusal) → length frame ≤ i → check_from frame i answer ≡ answer
unfolding check_elements
checked-all frame i answer h = rw (drop_of_length-le frame {i = i} h) refl

-- ---- no symbol above 3

pub symbols-turn : (frame : List ℕ) (i : ℕ) → i < length frame → are_symbols (drop i frame) ≡ (leb (get_or frame i 0) 3 && are_symbols (drop (i + 1) frame))
symbols-turn frame i h = rw (drop-cons frame i 0 h, add-one i)

pub symbols-end : (frame : List ℕ) (i : ℕ) → length frame ≤ i → are_symbols (drop i frame) ≡ true
symbols-end frame i h = rw (drop_of_length-le frame {i = i} h) refl
