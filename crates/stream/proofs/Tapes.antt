-- A whole frame of letter X stands in the newest word; and the time of the next one, within a day, is a second later.
use Rattle.std.specs.Prelude.{◌≡◌, true, ◌&&◌, ℕ, ◌+◌, ◌%◌, ◌<◌, ltb, eqb}
use Rattle.std.proofs.Math.Path.{refl}
use Rattle.std.proofs.Common.{ap, ap₂, ◌∙◌, arith}
use borrow.Author.Tests.{ltb-true, lt-ltb, le-leb, eqb-true, eq-eqb, ne_eqb}
use Rattle.timecode.specs.Formats.{X, is_x, known, row_of, look_up, table, interval, carries_year, carries_leap, year_carried, last_day_in, in_range, on_format, second_carried}
use Rattle.timecode.specs.Frames.{length_in, in_year, day_end, on_day, following, step_of, next_after}
use Rattle.timecode.proofs.Laws.Tests.{and_left, and_right}
use Rattle.timecode.specs.declared.Format.{Format}
use Rattle.timecode.specs.declared.Time.{Time}
use Rattle.tape.specs.Tape.{tape, is-tape}
use Rattle.tape.specs.InWord.{element_in, elements_in}
use Rattle.register.specs.Receiving.{element_of, frame_of}
use Rattle.register.specs.declared.Register.{Register}
use Rattle.stream.specs.Tapes.{is_tape, is_first_day, are_seconds, is_second_later}

module _ (f : Format) (n : ℕ) (y : is_tape f n ≡ true) where
  pub tape-x : is_x f ≡ true
  unfolding is_x
  tape-x = and_left (eqb f.letter X) _ y

  pub tape-known : known f ≡ true
  unfolding known row_of look_up table
  tape-known =
      let l = eqb-true f.letter X (and_left (eqb f.letter X) _ y) in
      let e = eqb-true f.expression 2 (and_left (eqb f.expression 2) (eqb n 25) (and_right (eqb f.letter X) _ y)) in
      rw (l, e)

  whole-in-word : (h : Register) → frame_of h 25 ≡ elements_in h.newest
  unfolding frame_of element_of elements_in element_in
  whole-in-word h = refl

  pub tape-frame : (h : Register) → frame_of h n ≡ elements_in h.newest
  tape-frame h = ap (frame_of h) (eqb-true n 25 (and_right (eqb f.expression 2) (eqb n 25) (and_right (eqb f.letter X) _ y))) ∙ whole-in-word h

-- ---- the next second

steps_on : (c : ℕ) → c < 8639900 → c % 100 ≡ 0 → next_after tape (record { year = 0; day = 1; hundredths = c }) (record { year = 0; day = 1; hundredths = c + 100 }) ≡ true
unfolding next_after step_of length_in carries_year known row_of look_up table year_carried on_format in_range last_day_in is_x interval second_carried carries_leap in_year on_day day_end following
steps_on c b w = rw (le-leb c 8640099 (omega arith), eq-eqb (c % 100) 0 w, lt-ltb c 8640000 (omega arith), ne_eqb (c + 100) 8640000 (λ e. omega arith), eq-eqb (c + 100) (c + 100) refl)

first-day : (t : Time) → is_first_day t ≡ true → t ≡ record { year = 0; day = 1; hundredths = t.hundredths }
first-day t y = λ i. record { year = year_is i; day = day_is i; hundredths = t.hundredths }
  where
    year_is : t.year ≡ 0
    year_is = eqb-true t.year 0 (and_left (eqb t.year 0) (eqb t.day 1) y)

    day_is : t.day ≡ 1
    day_is = eqb-true t.day 1 (and_right (eqb t.year 0) (eqb t.day 1) y)

pub second-later : (f : Format) (t u : Time) → is_tape f 25 ≡ true → is_second_later t u ≡ true → next_after f t u ≡ true
second-later f t u y l =
    let both = and_right (is_first_day t) (is_first_day u && are_seconds t.hundredths u.hundredths) l in
    let c = t.hundredths in
    let d = u.hundredths in
    let seconds = and_right (is_first_day u) (are_seconds c d) both in
    let below = ltb-true c 8639900 (and_left (ltb c 8639900) (eqb (c % 100) 0 && eqb d (c + 100)) seconds) in
    let rest = and_right (ltb c 8639900) (eqb (c % 100) 0 && eqb d (c + 100)) seconds in
    let whole = eqb-true (c % 100) 0 (and_left (eqb (c % 100) 0) (eqb d (c + 100)) rest) in
    let later = eqb-true d (c + 100) (and_right (eqb (c % 100) 0) (eqb d (c + 100)) rest) in
    let from-t = first-day t (and_left (is_first_day t) (is_first_day u && are_seconds c d) l) in
    let to-u = first-day u (and_left (is_first_day u) (are_seconds c d) both) ∙ ap (λ (e : ℕ). record { year = 0; day = 1; hundredths = e }) later in
    ap (λ (g : Format). next_after g t u) (is-tape f (tape-x f 25 y) (tape-known f 25 y)) ∙ ap₂ (λ (v w : Time). next_after tape v w) from-t to-u ∙ steps_on c below whole
