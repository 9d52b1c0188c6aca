-- Accepted frames in a row that end at an index of the list received: the plain machine's window, counted back from its end, so that what is received later changes nothing.
use Rattle.timecode.specs.declared.Refusal.{Refusal}
use Rattle.timecode.specs.declared.Reading.{Reading}
use Rattle.timecode.specs.Answers.{accepted}
use Rattle.std.specs.Prelude.{◌≡◌, refl, false, ◌⊎◌, leb, take, drop, Result, Ok, Err}
use Rattle.std.proofs.Math.Path.{sym, ap}
use Rattle.std.proofs.Common.{ap₂, ◌∙◌, inl, inr, zero-add, leb-true, le-leb, eqb-true, eq-eqb, length-drop, get_or-take, drop-drop}
use Rattle.std.proofs.Math.Bool.{true}
use mathlib.Core.List.{List, ◌∷◌, ◌++◌}
use Prim.Native.Nat.{ℕ, zero, suc, ◌+◌, ◌*◌, ◌-◌, ◌%◌, ◌<◌, ◌≤◌}
use native.Mathlib.Omega.{arith}
use Rattle.std.proofs.Math.Decide.{dec_le}
use Rattle.std.proofs.lemmas.Bool.{lt-leb}
use Rattle.std.proofs.Math.Dec.{eqb}
use Rattle.std.proofs.Math.ListN.{get_or, length, get_or-append}
use Rattle.std.proofs.Math.Seq.{get_or-drop}
use Rattle.std.proofs.lemmas.List.{drop-append-le, take-append-le}
use Rattle.timecode.specs.Formats.{is_x, size}
use Rattle.timecode.specs.Frames.{next_after, read_of}
use Rattle.timecode.proofs.Laws.Checks.{quiet-no-report}
use Rattle.timecode.proofs.Laws.Marks.{accepted-first, accepted-last, mark-index, x-mark-index, mark-only}
use Rattle.timecode.proofs.Laws.Reading.{accepted-was-written}
use Rattle.timecode.proofs.Laws.Table.{size-range}
use Rattle.timecode.proofs.Laws.Tests.{by-test, clash, and_left, and_right}
use Rattle.timecode.proofs.Laws.Windows.{lead-one, lead-none}
use Rattle.timecode.specs.Layout.{filler}
use Rattle.timecode.specs.Stream.{lead, opens, window_length, frame_in, first_in_row, next_in_row, in_row, window_answer, last_of, plain_answer}
use Rattle.timecode.specs.declared.Answer.{Answer}
use Rattle.timecode.specs.declared.Answer.TheVariants.{Quiet, Report}
use Rattle.timecode.specs.declared.Format.{Format}
use Rattle.timecode.specs.declared.Time.{Time}
use Rattle.following.specs.Rows.{before, leads_frame, opens_frame, may_begin, frame_before, row_to, NextAccepted, EndsAt}

-- where the format asks for a mark there, and in X
leads-marked : (f : Format) (s : ℕ) → is_x f ≡ false → leads_frame f s ≡ eqb s 2
unfolding leads_frame
leads-marked f s n = rw n

leads_any : (f : Format) (s : ℕ) → is_x f ≡ true → leads_frame f s ≡ true
unfolding leads_frame
leads_any f s x = rw x

pub before-append : (received xs : List ℕ) (e : ℕ) → e ≤ length received → before (received ++ xs) e ≡ before received e
before-append received xs e h = get_or-append (3 ∷ received) xs 0 e (omega arith)

pub begin-append : (f : Format) (received xs : List ℕ) (e : ℕ) → e ≤ length received → may_begin f (received ++ xs) e ≡ may_begin f received e
unfolding may_begin
begin-append f received xs e h = rw (before-append received xs e h)

frame-append : (f : Format) (received xs : List ℕ) (e : ℕ) → size f ≤ e → e ≤ length received → frame_before f (received ++ xs) e ≡ frame_before f received e
unfolding frame_before
frame-append f received xs e a h =
    rw (drop-append-le (e - size f) received xs (omega arith)) (take-append-le (size f) (drop (e - size f) received) xs (omega (arith, length-drop (e - size f) received)))

pub row-append : (f : Format) (received xs : List ℕ) (m e : ℕ) → e ≤ length received → row_to f (received ++ xs) m e ≡ row_to f received m e
unfolding row_to
row-append f received xs zero e h =
    by-test (leb (size f) e)
    (λ y. let l = leb-true (size f) e y in rw (y, begin-append f received xs (e - size f) (omega arith), frame-append f received xs e l h))
    (λ n. rw n)
row-append f received xs (suc m) e h =
    by-test (leb (size f) e)
    (λ y. let l = leb-true (size f) e y in rw (y, row-append f received xs m (e - size f) (omega arith), frame-append f received xs e l h))
    (λ n. rw n)

-- ---- a row that reports

next-accepted : (f : Format) (a : Answer) (r : Result Reading Refusal) (t : Time) (w : ℕ) → next_in_row f a r ≡ Report t w → NextAccepted f a r t w
unfolding next_in_row
next-accepted f (Report s v) (Ok read) t w h =
    by-test (next_after f s read.time)
    (λ y. let z : Report read.time read.control ≡ Report t w = rw y at h in
    let p : read.time ≡ t = cc in
    let q : read.control ≡ w = cc in
    record { time = s; control = v; was = refl; is = ap₂ accepted p q })
    (λ n. quiet-no-report t w (rw n at h))
next-accepted f (Report s v) (Err r) t w h = quiet-no-report t w h
next-accepted f Quiet r t w h = quiet-no-report t w h
next-accepted f (Answer.Refused x) r t w h = quiet-no-report t w h

first-accepted : (r : Result Reading Refusal) (t : Time) (w : ℕ) → first_in_row r ≡ Report t w → r ≡ accepted t w
first-accepted (Ok read) t w h = let p : read.time ≡ t = cc in let q : read.control ≡ w = cc in ap₂ accepted p q
first-accepted (Err r) t w h = quiet-no-report t w h

last-leads : (f : Format) (received : List ℕ) (e : ℕ) (t : Time) (w : ℕ) → e ≤ length received → EndsAt f received e t w → may_begin f received e ≡ true
unfolding may_begin frame_before
last-leads f received e t w b p = by-test (is_x f) (leads_any f (before received e)) (λ n. leads-marked f (before received e) n ∙ eq-eqb (before received e) 2 (marked n))
  where
    marked : is_x f ≡ false → before received e ≡ 2
    marked n =
        let s = size-range f in
        let back : e - size f + (size f - 1) ≡ e - 1 = omega (arith, p.long) in
        let up : suc (e - 1) ≡ e = omega (arith, p.long) in
        ap (before received) (sym up)
        ∙ ap (λ (i : ℕ). get_or received i 0) (sym back)
        ∙ sym (get_or-drop (e - size f) received (size f - 1) 0)
        ∙ sym (get_or-take (size f) (drop (e - size f) received) (size f - 1) 0 (omega arith))
        ∙ accepted-last f (take (size f) (drop (e - size f) received)) t w n p.reads

-- the last frame of a row is accepted, and what may stand before a frame stands before it
pub row_ends : (f : Format) (received : List ℕ) (m e : ℕ) (t : Time) (w : ℕ) → e ≤ length received → row_to f received m e ≡ Report t w → EndsAt f received e t w
unfolding row_to
row_ends f received zero e t w b h =
    by-test (leb (size f) e)
    (λ y.
    by-test (may_begin f received (e - size f))
    (λ z. record { long = leb-true (size f) e y; begins = z; reads = first-accepted (read_of f (frame_before f received e)) t w (rw (y, z) at h) })
    (λ n. quiet-no-report t w (rw (y, n) at h)))
    (λ n. quiet-no-report t w (rw n at h))
row_ends f received (suc m) e t w b h =
    by-test (leb (size f) e)
    (λ y.
    let l = leb-true (size f) e y in
    let g = next-accepted f (row_to f received m (e - size f)) (read_of f (frame_before f received e)) t w (rw y at h) in
    let p = row_ends f received m (e - size f) g.time g.control (omega arith) g.was in
    record { long = l; begins = last-leads f received (e - size f) g.time g.control (omega arith) p; reads = g.is })
    (λ n. quiet-no-report t w (rw n at h))

-- ---- no row

next-quiet : (f : Format) (a : Answer) (r : Result Reading Refusal) → ((t : Time) (w : ℕ) → next_in_row f a r ≡ Report t w → ⊥) → next_in_row f a r ≡ Quiet
unfolding next_in_row
next-quiet f (Report s v) (Ok read) n = by-test (next_after f s read.time) (λ y. absurd (n read.time read.control (rw y))) (λ m. rw m)
next-quiet f (Report s v) (Err r) n = refl
next-quiet f Quiet r n = refl
next-quiet f (Answer.Refused x) r n = refl

first-quiet : (r : Result Reading Refusal) → ((t : Time) (w : ℕ) → first_in_row r ≡ Report t w → ⊥) → first_in_row r ≡ Quiet
first-quiet (Ok read) n = absurd (n read.time read.control refl)
first-quiet (Err r) n = refl

-- a row that does not report is quiet
pub row-quiet : (f : Format) (received : List ℕ) (m e : ℕ) → ((t : Time) (w : ℕ) → row_to f received m e ≡ Report t w → ⊥) → row_to f received m e ≡ Quiet
unfolding row_to
row-quiet f received zero e n =
    by-test (leb (size f) e)
    (λ y. by-test (may_begin f received (e - size f)) (λ z. rw (y, z) (first-quiet (read_of f (frame_before f received e)) (λ t w h. n t w (rw (y, z) h)))) (λ z. rw (y, z)))
    (λ z. rw z)
row-quiet f received (suc m) e n =
    by-test (leb (size f) e)
    (λ y. rw y (next-quiet f (row_to f received m (e - size f)) (read_of f (frame_before f received e)) (λ t w h. n t w (rw y h))))
    (λ z. rw z)

row-quiet-next : (f : Format) (received : List ℕ) (m e : ℕ) → row_to f received m (e - size f) ≡ Quiet → row_to f received (suc m) e ≡ Quiet
unfolding row_to next_in_row
row-quiet-next f received m e h = by-test (leb (size f) e) (λ y. rw (y, h)) (λ n. rw n)

nothing-before : (f : Format) (received : List ℕ) → is_x f ≡ false → may_begin f received 0 ≡ false
unfolding may_begin
nothing-before f received n = leads-marked f 3 n

-- too short for its frames and their lead
row-short : (f : Format) (received : List ℕ) (m e : ℕ) → e < suc m * size f + lead f → row_to f received m e ≡ Quiet
unfolding row_to
row-short f received zero e h =
    by-test (leb (size f) e)
    (λ y.
    by-test (may_begin f received (e - size f))
    (λ z.
    let l = leb-true (size f) e y in
    by-test (is_x f)
    (λ x. let no : ⊥ = omega (arith, lead-none f x) in absurd no)
    (λ n. let none : e - size f ≡ 0 = omega (arith, lead-one f n) in clash (rw none at z) (nothing-before f received n)))
    (λ n. rw (y, n)))
    (λ n. rw n)
row-short f received (suc m) e h =
    by-test (leb (size f) e)
    (λ y. let l = leb-true (size f) e y in row-quiet-next f received m e (row-short f received m (e - size f) (omega arith)))
    (λ n. rw n)

-- ---- the window

same-take : (n a b : ℕ) (received : List ℕ) → a ≡ b → take n (drop a received) ≡ take n (drop b received)
same-take n a b received e = ap (λ (i : ℕ). take n (drop i received)) e

product : (n j d m : ℕ) → j + d ≡ m → suc m * n ≡ n * j + n * d + n
product n j d m e = rw (← e) (omega arith)

module _ (f : Format) (received : List ℕ) where
  -- frame j of the window that d frames follow
  window-frame : (j d : ℕ) → window_length f (suc (j + d)) ≤ length received
      → frame_in f (last_of (window_length f (suc (j + d))) received) j ≡ frame_before f received (length received - size f * d)
  unfolding frame_in frame_before last_of window_length
  window-frame j d h =
      ap (take (size f)) (drop-drop (lead f + size f * j) (length received - (suc (j + d) * size f + lead f)) received)
      ∙ same-take (size f) (length received - (suc (j + d) * size f + lead f) + (lead f + size f * j)) (length received - size f * d - size f) received (omega arith)

  window-begins : (m : ℕ) → window_length f (suc m) ≤ length received → opens f (last_of (window_length f (suc m)) received) ≡ may_begin f received (length received - size f * m - size f)
  unfolding may_begin last_of window_length opens
  window-begins m h =
      by-test (is_x f)
      (λ x. rw x (sym (leads_any f (before received (length received - size f * m - size f)) x)))
      (λ n.
      let at : length received - size f * m - size f ≡ suc (length received - (suc m * size f + lead f)) = omega (arith, lead-one f n) in
      let zero-on : length received - (suc m * size f + lead f) + 0 ≡ length received - (suc m * size f + lead f) = omega arith in
      let first = get_or-drop (length received - (suc m * size f + lead f)) received 0 0 ∙ ap (λ (i : ℕ). get_or received i 0) zero-on in
      rw n (ap (λ (x : ℕ). eqb x 2) first ∙ sym (rw at (leads-marked f (before received (suc (length received - (suc m * size f + lead f)))) n))))

  window-row : (j d m : ℕ) → j + d ≡ m → window_length f (suc m) ≤ length received → opens f (last_of (window_length f (suc m)) received) ≡ true → in_row f (last_of (window_length f (suc m)) received) (suc j) ≡ row_to f received j (length received - size f * d)
  unfolding in_row row_to window_length
  window-row zero d m e h o =
      let same : d ≡ m = sym (zero-add d) ∙ e in
      let long : size f ≤ length received - size f * d = omega (arith, product (size f) 0 d m e) in
      let begins : may_begin f received (length received - size f * d - size f) ≡ true = rw same (sym (window-begins m h) ∙ o) in
      rw (le-leb (size f) (length received - size f * d) long, begins) (ap (λ (x : List ℕ). first_in_row (read_of f x)) (rw e at (window-frame 0 d (rw e h))))
  window-row (suc j) d m e h o =
      let long : size f ≤ length received - size f * d = omega (arith, product (size f) (suc j) d m e) in
      let back : length received - size f * d - size f ≡ length received - size f * suc d = omega arith in
      rw (le-leb (size f) (length received - size f * d) long, back)
      (ap₂ (λ (a : Answer) (x : List ℕ). next_in_row f a (read_of f x)) (window-row j (suc d) m (omega arith) h o) (rw e at (window-frame (suc j) d (rw e h))))

  no-mark-quiet : (j d : ℕ) → may_begin f received (length received - size f * (j + d) - size f) ≡ false → row_to f received j (length received - size f * d) ≡ Quiet
  unfolding row_to
  no-mark-quiet zero d n =
      let same : 0 + d ≡ d = omega arith in
      by-test (leb (size f) (length received - size f * d)) (λ y. rw (y, rw same at n)) (λ x. rw x)
  no-mark-quiet (suc j) d n =
      let back : length received - size f * d - size f ≡ length received - size f * suc d = omega arith in
      let same : suc j + d ≡ j + suc d = omega arith in
      row-quiet-next f received j (length received - size f * d) (rw back (no-mark-quiet j (suc d) (rw same at n)))

  -- The plain machine's answer is the row that ends at the end of the list.
  pub plain-is-row : (m : ℕ) → plain_answer f (suc m) received ≡ row_to f received m (length received)
  unfolding plain_answer window_answer window_length
  plain-is-row m = go (dec_le (window_length f (suc m)) (length received))
    where
      here : length received - size f * 0 ≡ length received
      here = omega arith

      same : m + 0 ≡ m
      same = omega arith

      by-lead : window_length f (suc m) ≤ length received → window_answer f (suc m) (last_of (window_length f (suc m)) received) ≡ row_to f received m (length received)
      by-lead h =
          by-test (opens f (last_of (window_length f (suc m)) received))
          (λ y. rw y (rw here at (window-row m 0 m same h y)))
          (λ n. rw n (sym (rw here at (no-mark-quiet m 0 (rw same (sym (window-begins m h) ∙ n))))))

      short : length received < window_length f (suc m) → length received < suc m * size f + lead f
      short l = l

      go : Dec (window_length f (suc m) ≤ length received) → plain_answer f (suc m) received ≡ row_to f received m (length received)
      go (yes h) = rw (le-leb (window_length f (suc m)) (length received) h) (by-lead h)
      go (no h) = rw (lt-leb (window_length f (suc m)) (length received) (omega arith)) (sym (row-short f received m (length received) (short (omega arith))))

-- ---- a frame is not opened inside an accepted one

marks-apart : (i : ℕ) → (i ≡ 0) ⊎ (i % 10 ≡ 9) → (suc i ≡ 0) ⊎ (suc i % 10 ≡ 9) → ⊥
marks-apart i (inl a) (inl b) = omega arith
marks-apart i (inl a) (inr b) = omega arith
marks-apart i (inr a) (inl b) = omega arith
marks-apart i (inr a) (inr b) = omega arith

-- no two marks stand side by side in an accepted frame, and in X no mark but the first
pub no-opening-inside : (f : Format) (frame : List ℕ) (t : Time) (w : ℕ) → read_of f frame ≡ accepted t w → (i : ℕ) → suc i < size f → opens_frame f (get_or frame i 0) (get_or frame (suc i) 0) ≡ true → ⊥
unfolding opens_frame
no-opening-inside f frame t w h i b o =
    let p = accepted-was-written f frame t w h in
    let at : (k : ℕ) → k < size f → get_or frame k 0 ≡ 2 → filler f k ≡ 2 = λ k c m. mark-only f t w p.0 k c (ap (λ (xs : List ℕ). get_or xs k 0) p.1 ∙ m) in
    let second = at (suc i) b (eqb-true (get_or frame (suc i) 0) 2 (and_left (eqb (get_or frame (suc i) 0) 2) (leads_frame f (get_or frame i 0)) o)) in
    let leads = and_right (eqb (get_or frame (suc i) 0) 2) (leads_frame f (get_or frame i 0)) o in
    by-test (is_x f)
    (λ x. let n : ⊥ = omega (arith, x-mark-index f (suc i) x second) in n)
    (λ n.
    let first = at i (omega arith) (eqb-true (get_or frame i 0) 2 (sym (leads-marked f (get_or frame i 0) n) ∙ leads)) in
    marks-apart i (mark-index f i n first) (mark-index f (suc i) n second))

pub accepted-opens : (f : Format) (frame : List ℕ) (t : Time) (w : ℕ) → read_of f frame ≡ accepted t w → get_or frame 0 0 ≡ 2
accepted-opens f frame t w h = accepted-first f frame t w h

at-to : (f : Format) (received : List ℕ) (e i : ℕ) → i < size f → get_or (frame_before f received e) i 0 ≡ get_or received (e - size f + i) 0
unfolding frame_before
at-to f received e i b = get_or-take (size f) (drop (e - size f) received) i 0 b ∙ get_or-drop (e - size f) received i 0

-- Two accepted frames, each directly after a mark or in X after anything, do not overlap.
pub no-overlap : (f : Format) (received : List ℕ) (e i : ℕ) (t u : Time) (w v : ℕ) → EndsAt f received e t w → EndsAt f received (e + suc i) u v → suc i < size f → ⊥
unfolding opens_frame may_begin
no-overlap f received e i t u w v a b l =
    let start : e + suc i - size f ≡ e - size f + suc i = omega (arith, a.long) in
    let up : e - size f + suc i ≡ suc (e - size f + i) = omega arith in
    let back : e + suc i - size f + 0 ≡ e - size f + suc i = omega (arith, a.long) in
    let second : get_or (frame_before f received e) (suc i) 0 ≡ 2 =
    at-to f received e (suc i) l ∙ ap (λ (k : ℕ). get_or received k 0) (sym back) ∙ sym (at-to f received (e + suc i) 0 (omega (arith, size-range f))) ∙ accepted-first f (frame_before f received (e + suc i)) u v b.reads in
    let first : leads_frame f (get_or (frame_before f received e) i 0) ≡ true = rw (at-to f received e i (omega arith)) (rw (start, up) at b.begins) in
    no-opening-inside f (frame_before f received e) t w a.reads i l (rw (eq-eqb (get_or (frame_before f received e) (suc i) 0) 2 second) first)
