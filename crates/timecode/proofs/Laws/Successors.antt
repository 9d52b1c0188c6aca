-- Two times that follow one are the same, or are written at least seven elements apart, whatever the control words.
use Rattle.std.specs.Prelude.{◌≡◌, refl, true, false, not, ◌&&◌, List, [], ◌∷◌, ◌⊎◌, ℕ, zero, suc, ◌<◌, ◌≤◌, ltb, eqb, length, get_or}
use Rattle.std.proofs.Common.{sym, ◌∙◌, inl, inr, not-suc-le-zero, arith, ltb-true}
use Rattle.std.proofs.lemmas.Bool.{not-true, eqb-false}
use Rattle.timecode.specs.Formats.{is_x, OnFormat, member, table, look_up, row_of, known, size, carries_control, carries_seconds, carries_year, control_places, day_length, carries_leap}
use Rattle.timecode.specs.Frames.{same_day_at, new_year, Follows, written, Apart, LeapTurn, Turn, YearTurn}
use Rattle.timecode.proofs.Laws.Marks.{at-written}
use Rattle.timecode.specs.Laws.Places.{distinct}
use Rattle.timecode.proofs.Laws.Places.{spared}
use Rattle.timecode.specs.Laws.Stepping.{every, Alike}
use Rattle.timecode.proofs.Laws.Stepping.{one_of, went, step-on-format, two-that-follow}
use Rattle.timecode.specs.Laws.Table.{every_format}
use Rattle.timecode.proofs.Laws.Table.{of-every}
use Rattle.timecode.proofs.Laws.Tests.{by-test, and_left, and_right}
use Rattle.timecode.proofs.Laws.Times.{only-day, time-path}
use Rattle.timecode.specs.Layout.{day_carried, seconds, minutes, hours, days, tenths, hundredths_digit, has_seconds, straight_seconds, control, years, time_fields, fields, runs, time_numbers, numbers, all_digits, is_mark, filler, symbol_at}
use Rattle.timecode.specs.declared.Format.{Format}
use Rattle.timecode.specs.declared.Time.{Time}
use Rattle.timecode.specs.Laws.Successors.{differ, turn_places, leap_day, turn_differs, midnight_places, late_seconds, differ_at}

differ-at : (f : Format) (u : Time) (a : ℕ) (v : Time) (b : ℕ) (ps : List ℕ) → differ f u a v b ps ≡ true → (j : ℕ) → j < length ps
    → (get_or ps j 0 < size f) × (get_or (written f u a) (get_or ps j 0) 0 ≡ get_or (written f v b) (get_or ps j 0) 0 → ⊥)
differ-at f u a v b [] d j h = absurd (not-suc-le-zero h)
differ-at f u a v b (p ∷ ps) d zero h =
    let x = symbol_at (filler f) (runs f) (all_digits (fields f) (numbers f u a)) p in
    let y = symbol_at (filler f) (runs f) (all_digits (fields f) (numbers f v b)) p in
    let here = and_left (ltb p (size f) && not (eqb x y)) (differ f u a v b ps) d in
    let inside = ltb-true p (size f) (and_left (ltb p (size f)) (not (eqb x y)) here) in
    let other = eqb-false x y (not-true (eqb x y) (and_right (ltb p (size f)) (not (eqb x y)) here)) in
    (inside, λ q. other (sym (at-written f u a p inside) ∙ q ∙ at-written f v b p inside))
differ-at f u a v b (p ∷ ps) d (suc j) h =
    let x = symbol_at (filler f) (runs f) (all_digits (fields f) (numbers f u a)) p in
    let y = symbol_at (filler f) (runs f) (all_digits (fields f) (numbers f v b)) p in
    differ-at f u a v b ps (and_right (ltb p (size f) && not (eqb x y)) (differ f u a v b ps) d) j (omega arith)

turn-differs : (y z a b : ℕ) → every_format (turn_differs y z a b) ≡ true
unfolding every_format table is_x size row_of look_up filler is_mark symbol_at runs fields time_fields numbers time_numbers day_carried seconds minutes hours days tenths hundredths_digit straight_seconds has_seconds carries_seconds control carries_control carries_year control_places years
turn-differs y z a b = refl

differ-apart : (f : Format) (u v : Time) (ps : List ℕ) → distinct ps ≡ true → 7 ≤ length ps → ((a b : ℕ) → differ f u a v b ps ≡ true) → Apart f u v
differ-apart f u v ps d long h a b qs few same =
    let x = spared ps qs d (omega arith) in
    let y = differ-at f u a v b ps (h a b) x.0 x.1 in
    y.1 (same (get_or ps x.0 0) y.0 x.2)

-- day 366 is no day of X
leap-not-x : (f : Format) (u v : Time) → OnFormat f v → YearTurn u v → is_x f ≡ false
leap-not-x f u v o t = by-test (is_x f) (λ x. let n : ⊥ = omega (arith, only-day f v o x, t.is_leap_day) in absurd n) (λ n. n)

year-apart : (f : Format) (u v : Time) → known f ≡ true → OnFormat f v → YearTurn u v → Apart f u v
year-apart f u v k o t =
    let y = new_year u.year in
    let z = leap_day v.year in
    let p = time-path u y refl t.is_new_year t.new_midnight in
    let q = time-path v z refl t.is_leap_day t.leap_midnight in
    rw (p, q) (differ-apart f y z turn_places refl (omega arith) (λ a b. rw (leap-not-x f u v o t) at (of-every (turn_differs u.year v.year a b) (turn-differs u.year v.year a b) f k)))

late-differ : (u v : Time) (a b : ℕ) → every_format (differ_at late_seconds u v a b) ≡ true
unfolding every_format table is_x size row_of look_up filler is_mark symbol_at runs fields time_fields numbers time_numbers day_carried seconds minutes hours days tenths hundredths_digit straight_seconds has_seconds carries_seconds control carries_control carries_year control_places years carries_leap
late-differ u v a b = refl

leap-apart : (f : Format) (u v : Time) → known f ≡ true → LeapTurn f u v → Apart f u v
leap-apart f u v k t =
    let c = u.hundredths in
    let q = time-path v (same_day_at v 0) refl refl t.midnight in
    let late : (a b : ℕ) → every (λ c. differ f (same_day_at u c) a (same_day_at v 0) b midnight_places) late_seconds ≡ true = λ a b. rw t.carried at (of-every (differ_at late_seconds u v a b) (late-differ u v a b) f k) in
    rw q (differ-apart f u (same_day_at v 0) midnight_places refl (omega arith) (λ a b. one_of (λ c. differ f (same_day_at u c) a (same_day_at v 0) b midnight_places) late_seconds (late a b) c (is-late t.late)))
  where
    is-late : (u.hundredths ≡ 8639900) ⊎ (u.hundredths ≡ day_length) → member u.hundredths late_seconds ≡ true
    is-late (inl p) = rw p
    is-late (inr p) = rw p

turn-apart : (f : Format) (u v : Time) → known f ≡ true → OnFormat f v → Turn f u v → Apart f u v
turn-apart f u v k o (inl t) = year-apart f u v k o t
turn-apart f u v k o (inr t) = leap-apart f u v k t

pub two-that-follow-are-apart : (f : Format) (t u v : Time) → Follows f t u → Follows f t v → (u ≡ v) ⊎ Apart f u v
two-that-follow-are-apart f t u v s r = go (two-that-follow f t u v s r)
  where
    known-format : known f ≡ true
    known-format = (went f t s.0 s.1 u s.2).format

    go : Alike f u v → (u ≡ v) ⊎ Apart f u v
    go (inl p) = inl p
    go (inr (inl p)) = inr (turn-apart f u v known-format (step-on-format f t v r) p)
    go (inr (inr p)) = inr (λ a b qs few same. turn-apart f v u known-format (step-on-format f t u s) p b a qs few (λ i h m. sym (same i h m)))
