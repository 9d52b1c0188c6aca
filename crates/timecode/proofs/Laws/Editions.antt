-- Frames converted forward and back are the same: each conversion is a frame that Write writes, so Read takes it. All but the elements 50 to 58 stay.
use Rattle.timecode.specs.Answers.{accepted, done}
use Rattle.std.specs.Prelude.{◌≡◌, refl, true, cond, not, ◌&&◌, List, [], ◌∷◌, ℕ, ◌+◌, ◌-◌, ◌*◌, ◌/◌, ◌%◌, ◌^◌, ◌≤◌, ◌<◌, leb, eqb, length, take, drop, replicate, Err}
use Rattle.std.proofs.Common.{sym, ap, ap₂, ◌∙◌, subst, arith, leb-true, eqb-true, le-leb, eq-eqb}
use Rattle.std.proofs.lemmas.Bool.{not-true}
use Rattle.timecode.specs.Editions.{with_year, without_year, time_in_year, nine_bits, is_earlier, check_forward, check_backward, forward_of, forward_leaves, backward_of, backward_leaves, forward_checks, edition_checks}
use Rattle.timecode.specs.Formats.{A, B, is_x, member, table, look_up, row_of, known, size, interval, carries_control, carries_seconds, carries_year, control_places, last_year, days_in, carries_leap}
use Rattle.timecode.specs.Frames.{written, total_width, read_of, Valid}
use Rattle.timecode.proofs.Laws.Checks.{done-taken, by-reading, all-passed}
use Rattle.timecode.proofs.Laws.Reading.{accepted-was-written}
use Rattle.timecode.specs.Laws.Stepping.{every}
use Rattle.timecode.proofs.Laws.Stepping.{one_of}
use Rattle.timecode.proofs.Laws.Table.{year-not-x}
use Rattle.timecode.proofs.Laws.Tests.{by-test, clash, and_left, and_right, or-other}
use Rattle.timecode.proofs.Laws.Times.{time-path, year-small, year-none, year-carried, last-known, last-unknown}
use Rattle.timecode.proofs.Laws.Writing.{length-written, written-is-accepted}
use Rattle.timecode.specs.Layout.{day_carried, seconds, minutes, hours, days, tenths, hundredths_digit, has_seconds, straight_seconds, control, years, time_fields, fields, runs, time_numbers, numbers, is_mark, filler, symbol_at, encode}
use Rattle.timecode.specs.declared.Format.{Format}
use Rattle.timecode.specs.declared.Time.{Time}
use Rattle.timecode.specs.Laws.Editions.{Editions, format, are_known, have_year, have_bits, are_editions, Forward, AllOf, SameRest}

-- ---- the two formats

all-editions : every (λ l. every (λ e. are_editions (format l e)) (0 ∷ 1 ∷ 2 ∷ 3 ∷ [])) (A ∷ B ∷ []) ≡ true
unfolding table known row_of look_up control carries_control carries_year control_places
all-editions = refl

editions-test : (f : Format) → is_earlier f ≡ true → are_editions f ≡ true
unfolding is_earlier
editions-test f h =
    let e = and_left (member f.expression (0 ∷ 1 ∷ 2 ∷ 3 ∷ [])) (member f.letter (A ∷ B ∷ [])) h in
    let l = and_right (member f.expression (0 ∷ 1 ∷ 2 ∷ 3 ∷ [])) (member f.letter (A ∷ B ∷ [])) h in
    one_of (λ e. are_editions (format f.letter e)) (0 ∷ 1 ∷ 2 ∷ 3 ∷ [])
    (one_of (λ l. every (λ e. are_editions (format l e)) (0 ∷ 1 ∷ 2 ∷ 3 ∷ [])) (A ∷ B ∷ []) all-editions f.letter l)
    f.expression e

pub editions : (f : Format) → is_earlier f ≡ true → Editions f
editions f h =
    let t = editions-test f h in
    let k = and_left (are_known f) (have_year f && have_bits f) t in
    let others = and_right (are_known f) (have_year f && have_bits f) t in
    let y = and_left (have_year f) (have_bits f) others in
    let b = and_right (have_year f) (have_bits f) others in
    let first = eqb (total_width (control f)) (cond (carries_control f) 27 0) in
    let second = eqb (total_width (control (with_year f))) (cond (carries_control f) 18 0) in
    record {
      earlier = and_left (known f) (known (with_year f)) k;
      later = and_right (known f) (known (with_year f)) k;
      no_year = not-true (carries_year f) (and_left (not (carries_year f)) (carries_year (with_year f)) y);
      year = and_right (not (carries_year f)) (carries_year (with_year f)) y;
      bits = eqb-true (total_width (control f)) (cond (carries_control f) 27 0) (and_left first second b);
      later_bits = eqb-true (total_width (control (with_year f))) (cond (carries_control f) 18 0) (and_right first second b);
    }

pub without-with : (f : Format) → without_year (with_year f) ≡ f
without-with f = λ i. record { letter = f.letter; expression = less i }
  where
    less : f.expression + 4 - 4 ≡ f.expression
    less = omega arith

-- ---- a time and a control word in both

module _ (f : Format) (both : Editions f) (t : Time) (w year : ℕ) where
  pub later-valid : Valid f t w → year ≤ last_year → t.day ≤ days_in year → Valid (with_year f) (time_in_year t year) (w / nine_bits)
  unfolding interval row_of carries_leap
  later-valid v a b =
      let o = v.time in
      record {
        format = both.later;
        time =
            record {
              year_is = year-carried (with_year f) year (λ y. a) (λ m. clash both.year m);
              first = o.first;
              within_year = omega (arith, last-known (with_year f) year both.year);
              last = o.last;
              below = o.below;
              grid = o.grid;
              carried = o.carried;
            };
        room = room;
      }
    where
      room : w / nine_bits < 2 ^ total_width (control (with_year f))
      room =
          by-test (carries_control f)
          (λ y. let n : w < 2 ^ 27 = rw (both.bits, y) at v.room in rw (both.later_bits, y) (omega arith))
          (λ m. let n : w < 2 ^ 0 = rw (both.bits, m) at v.room in rw (both.later_bits, m) (omega arith))

  pub earlier-valid : Valid (with_year f) t w → Valid f (time_in_year t 0) (w * nine_bits)
  unfolding is_x interval row_of carries_leap
  earlier-valid v =
      let o = v.time in
      record {
        format = both.earlier;
        time =
            record {
              year_is = year-carried f 0 (λ y. omega arith) (λ m. refl);
              first = o.first;
              within_year = omega (arith, o.last, last-unknown f 0 (year-not-x (with_year f) both.year) both.no_year);
              last = o.last;
              below = o.below;
              grid = o.grid;
              carried = o.carried;
            };
        room = room;
      }
    where
      room : w * nine_bits < 2 ^ total_width (control f)
      room =
          by-test (carries_control f)
          (λ y. let n : w < 2 ^ 18 = rw (both.later_bits, y) at v.room in rw (both.bits, y) (omega arith))
          (λ m. let n : w < 2 ^ 0 = rw (both.later_bits, m) at v.room in rw (both.bits, m) (omega arith))

-- ---- forward

forward-checked : (f : Format) (frame : List ℕ) (year : ℕ) → Editions f → check_forward year (read_of f frame) ≡ done → Forward f frame year
unfolding check_forward
forward-checked f frame year both h =
    by-reading (read_of f frame)
    (λ r q. absurd (done-taken r (rw q at h)))
    (λ t w q.
    let k : check_forward year (accepted t w) ≡ done = rw q at h in
    let passed = (all-passed Err (forward_checks year t w) done done done-taken k).0 in
    record {
      both = both;
      time = t;
      word = w;
      reads = q;
      year_is = leb-true year last_year (passed 0);
      within_year = leb-true t.day (days_in year) (passed 1);
      free = eqb-true (w % nine_bits) 0 (passed 2);
    })

pub forward-done : (f : Format) (frame : List ℕ) (year : ℕ) (lent : List ℕ) → forward_of f frame year lent ≡ done → Forward f frame year
unfolding forward_of
forward-done f frame year lent h =
    let all = all-passed Err (edition_checks f (is_earlier f) frame lent) (check_forward year (read_of f frame)) done done-taken h in
    forward-checked f frame year (editions f (all.0 0)) all.1

pub forward-leaves : (f : Format) (frame : List ℕ) (year : ℕ) (lent : List ℕ) → forward_of f frame year lent ≡ done → (d : Forward f frame year)
    → forward_leaves f frame year lent ≡ written (with_year f) (time_in_year d.time year) (d.word / nine_bits)
unfolding forward_leaves
forward-leaves f frame year lent h d = rw (h, d.reads)

module _ (f : Format) (frame : List ℕ) (year : ℕ) (d : Forward f frame year) where
  abbrev was-written : Valid f d.time d.word × (written f d.time d.word ≡ frame)
  was-written = accepted-was-written f frame d.time d.word d.reads

  pub forward-reads : read_of (with_year f) (written (with_year f) (time_in_year d.time year) (d.word / nine_bits)) ≡ accepted (time_in_year d.time year) (d.word / nine_bits)
  forward-reads =
      written-is-accepted (with_year f) (time_in_year d.time year) (d.word / nine_bits)
      (later-valid f d.both d.time d.word year was-written.0 d.year_is d.within_year)

  -- the time and the control word that the backward converter writes are those of the frame
  same-time : time_in_year d.time 0 ≡ d.time
  same-time = time-path (time_in_year d.time 0) d.time (sym (year-none f d.time.year was-written.0.time.year_is d.both.no_year)) refl refl

  same-control : d.word / nine_bits * nine_bits ≡ d.word
  same-control = omega (arith, d.free)

-- ---- backward

pub backward-takes : (f : Format) (frame lent : List ℕ) (t : Time) (w : ℕ) → carries_year f ≡ true → length frame ≡ size f → length lent ≡ size f → read_of f frame ≡ accepted t w → backward_of f frame lent ≡ done
unfolding backward_of
backward-takes f frame lent t w k n m h = rw (k, eq-eqb (length frame) (size f) n, eq-eqb (length lent) (size f) m, h)

pub backward-leaves : (f : Format) (frame lent : List ℕ) (t : Time) (w : ℕ) → backward_of f frame lent ≡ done → read_of f frame ≡ accepted t w → backward_leaves f frame lent ≡ written (without_year f) (time_in_year t 0) (w * nine_bits)
unfolding backward_leaves
backward-leaves f frame lent t w h r = rw (h, r)

-- ---- forward and back

pub forward-back : (f : Format) (frame : List ℕ) (year : ℕ) (lent again : List ℕ) → forward_of f frame year lent ≡ done → length again ≡ size f
    → (backward_of (with_year f) (forward_leaves f frame year lent) again ≡ done) × (backward_leaves (with_year f) (forward_leaves f frame year lent) again ≡ frame)
unfolding size row_of
forward-back f frame year lent again h n =
    let d = forward-done f frame year lent h in
    let t = time_in_year d.time year in
    let w = d.word / nine_bits in
    let reads = forward-reads f frame year d in
    let takes = backward-takes (with_year f) (written (with_year f) t w) again t w d.both.year (length-written (with_year f) t w) n reads in
    rw (forward-leaves f frame year lent h d) (
      takes,
      backward-leaves (with_year f) (written (with_year f) t w) again t w takes reads
          ∙ ap (λ (g : Format). written g (time_in_year t 0) (w * nine_bits)) (without-with f)
          ∙ ap₂ (written f) (same-time f frame year d) (same-control f frame year d)
          ∙ (was-written f frame year d).1,
    )

-- ---- back and forward

pub back-forward : (f : Format) (frame : List ℕ) (lent again : List ℕ) (t : Time) (w : ℕ) → is_earlier f ≡ true → read_of (with_year f) frame ≡ accepted t w → backward_of (with_year f) frame lent ≡ done → length again ≡ size f
    → (forward_of f (backward_leaves (with_year f) frame lent) t.year again ≡ done) × (forward_leaves f (backward_leaves (with_year f) frame lent) t.year again ≡ frame)
unfolding forward_of check_forward forward_leaves
back-forward f frame lent again t w k reads h n =
    let both = editions f k in
    let p = accepted-was-written (with_year f) frame t w reads in
    let o = p.0.time in
    let u = time_in_year t 0 in
    let there : backward_leaves (with_year f) frame lent ≡ written f u (w * nine_bits) =
    backward-leaves (with_year f) frame lent t w h reads ∙ ap (λ (g : Format). written g u (w * nine_bits)) (without-with f) in
    let taken = written-is-accepted f u (w * nine_bits) (earlier-valid f both t w 0 p.0) in
    let year = le-leb t.year last_year (year-small (with_year f) t.year o.year_is both.year) in
    let day = le-leb t.day (days_in t.year) (omega (arith, o.within_year, last-known (with_year f) t.year both.year)) in
    let free = eq-eqb (w * nine_bits % nine_bits) 0 (omega arith) in
    let back : w * nine_bits / nine_bits ≡ w = omega arith in
    rw (there, k, eq-eqb (length (written f u (w * nine_bits))) (size f) (length-written f u (w * nine_bits)), eq-eqb (length again) (size f) n, taken, year, day, free) (
      refl,
      ap (written (with_year f) t) back ∙ p.1,
    )

-- ---- what stays in place

of-all : (P : ℕ → Type 0) (xs : List ℕ) → AllOf P xs → (x : ℕ) → member x xs ≡ true → P x
of-all P [] h x m = clash m refl
of-all P (y ∷ ys) h x m = by-test (eqb x y) (λ e. subst P (sym (eqb-true x y e)) h.0) (λ n. of-all P ys h.1 x (or-other (eqb x y) (member x ys) n m))

same-rests : AllOf (λ l. AllOf (λ e. SameRest (format l e)) (0 ∷ 1 ∷ 2 ∷ 3 ∷ [])) (A ∷ B ∷ [])
unfolding table row_of look_up size written encode symbol_at filler is_mark runs fields time_fields numbers time_numbers day_carried is_x seconds minutes hours days tenths hundredths_digit straight_seconds has_seconds carries_seconds control carries_control carries_year control_places years
same-rests = (
  (λ t year w. (refl, refl, λ z. rw z), (λ t year w. (refl, refl, λ z. rw z), (λ t year w. (refl, refl, λ z. refl), (λ t year w. (refl, refl, λ z. refl), tt)))),
  ((λ t year w. (refl, refl, λ z. rw z), (λ t year w. (refl, refl, λ z. rw z), (λ t year w. (refl, refl, λ z. refl), (λ t year w. (refl, refl, λ z. refl), tt)))), tt),
)

same_rest : (f : Format) → is_earlier f ≡ true → SameRest f
unfolding is_earlier
same_rest f h =
    let e = and_left (member f.expression (0 ∷ 1 ∷ 2 ∷ 3 ∷ [])) (member f.letter (A ∷ B ∷ [])) h in
    let l = and_right (member f.expression (0 ∷ 1 ∷ 2 ∷ 3 ∷ [])) (member f.letter (A ∷ B ∷ [])) h in
    of-all (λ e. SameRest (format f.letter e)) (0 ∷ 1 ∷ 2 ∷ 3 ∷ [])
    (of-all (λ l. AllOf (λ e. SameRest (format l e)) (0 ∷ 1 ∷ 2 ∷ 3 ∷ [])) (A ∷ B ∷ []) same-rests f.letter l)
    f.expression e

pub forward-keeps : (f : Format) (frame : List ℕ) (year : ℕ) (lent : List ℕ) → forward_of f frame year lent ≡ done
    → (take 50 (forward_leaves f frame year lent) ≡ take 50 frame) × (drop 59 (forward_leaves f frame year lent) ≡ drop 59 frame)
unfolding forward_of
forward-keeps f frame year lent h =
    let d = forward-done f frame year lent h in
    let rest = same_rest f ((all-passed Err (edition_checks f (is_earlier f) frame lent) (check_forward year (read_of f frame)) done done-taken h).0 0) d.time year d.word in
    let was = (was-written f frame year d).1 in
    rw (forward-leaves f frame year lent h d) (rest.0 ∙ ap (take 50) was, rest.1 ∙ ap (drop 59) was)

backward-read : (f : Format) (frame lent : List ℕ) → backward_of f frame lent ≡ done → (carries_year f ≡ true) × (t : Time) × (w : ℕ) × (read_of f frame ≡ accepted t w)
unfolding backward_of
backward-read f frame lent h =
    let all = all-passed Err (edition_checks f (carries_year f) frame lent) (check_backward (read_of f frame)) done done-taken h in
    by-reading (read_of f frame) (λ r q. absurd (done-taken r (rw q at all.1))) (λ t w q. (all.0 0, t, w, q))

pub backward-year : (f : Format) (frame lent : List ℕ) → backward_of f frame lent ≡ done → carries_year f ≡ true
backward-year f frame lent h = (backward-read f frame lent h).0

pub backward-keeps : (f : Format) (frame lent : List ℕ) → is_earlier f ≡ true → backward_of (with_year f) frame lent ≡ done
    → (take 50 (backward_leaves (with_year f) frame lent) ≡ take 50 frame)
    × (drop 59 (backward_leaves (with_year f) frame lent) ≡ drop 59 frame)
    × (take 9 (drop 50 (backward_leaves (with_year f) frame lent)) ≡ replicate 9 0)
backward-keeps f frame lent k h =
    let r = backward-read (with_year f) frame lent h in
    let t = r.1 in
    let w = r.2 in
    let was = (accepted-was-written (with_year f) frame t w r.3).1 in
    let rest = same_rest f k (time_in_year t 0) t.year (w * nine_bits) in
    let back : w * nine_bits / nine_bits ≡ w = omega arith in
    let later : written (with_year f) t (w * nine_bits / nine_bits) ≡ frame = ap (written (with_year f) t) back ∙ was in
    rw (backward-leaves (with_year f) frame lent t w h r.3, without-with f) (
      sym rest.0 ∙ ap (take 50) later,
      sym rest.1 ∙ ap (drop 59) later,
      rest.2 (omega arith),
    )

-- ---- from a format with the year

later-expression : (e : ℕ) → member e (4 ∷ 5 ∷ 6 ∷ 7 ∷ []) ≡ true → (leb 4 e && member (e - 4) (0 ∷ 1 ∷ 2 ∷ 3 ∷ [])) ≡ true
later-expression = one_of (λ e. leb 4 e && member (e - 4) (0 ∷ 1 ∷ 2 ∷ 3 ∷ [])) (4 ∷ 5 ∷ 6 ∷ 7 ∷ []) refl

-- it is a format without the year, with it
pub with-without : (f : Format) → carries_year f ≡ true → (is_earlier (without_year f) ≡ true) × (with_year (without_year f) ≡ f)
unfolding carries_year is_earlier
with-without f h =
    let e = later-expression f.expression (and_left (member f.expression (4 ∷ 5 ∷ 6 ∷ 7 ∷ [])) (member f.letter (A ∷ B ∷ [])) h) in
    let l = and_right (member f.expression (4 ∷ 5 ∷ 6 ∷ 7 ∷ [])) (member f.letter (A ∷ B ∷ [])) h in
    let m = and_right (leb 4 f.expression) (member (f.expression - 4) (0 ∷ 1 ∷ 2 ∷ 3 ∷ [])) e in
    let b = leb-true 4 f.expression (and_left (leb 4 f.expression) (member (f.expression - 4) (0 ∷ 1 ∷ 2 ∷ 3 ∷ [])) e) in
    (rw (m, l), again b)
  where
    again : 4 ≤ f.expression → with_year (without_year f) ≡ f
    again b = let p : f.expression - 4 + 4 ≡ f.expression = omega arith in λ i. record { letter = f.letter; expression = p i }
