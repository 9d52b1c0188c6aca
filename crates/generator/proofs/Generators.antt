-- The parts put one behind another are the lines of all the frames; these are a generator's, as document 01 has it.
use Rattle.timecode.specs.declared.Refusal.{Refusal}
use Rattle.timecode.specs.Answers.{done}
use Rattle.std.specs.Prelude.{◌≡◌, Bool, true, false, cond, ◌&&◌, eqb, ltb, get_or, length, Result, Ok, Err}
use Rattle.std.proofs.Math.Path.{refl, ap}
use Rattle.std.proofs.Common.{sym, ◌∙◌, inl, inr, not-suc-le-zero}
use mathlib.Core.List.{List, [], ◌∷◌, ◌++◌, append_assoc, append-nil}
use Prim.Native.Nat.{ℕ, zero, suc, ◌+◌, ◌-◌, ◌<◌, ◌≤◌}
use native.Mathlib.Omega.{arith}
use borrow.Author.Tests.{eqb-true, eqb-false, ltb-true, ltb-false, eq-eqb}
use Rattle.std.proofs.Math.ListN.{length-append, get_or-append}
use Rattle.std.proofs.lemmas.List.{get_or_at}
use Rattle.timecode.specs.Frames.{usual, following, step_of, written, Sent, no_frame, Generator, Valid}
use Rattle.timecode.proofs.Laws.Checks.{done-taken}
use Rattle.timecode.proofs.Laws.Back.{step-again}
use Rattle.timecode.specs.Laws.Stepping.{length_for, Lands}
use Rattle.timecode.proofs.Laws.Stepping.{went, step-answers, day-end-range, lands}
use Rattle.timecode.proofs.Laws.Tests.{by-test, and_right}
use Rattle.timecode.proofs.Laws.Writing.{length-written, taken, takes}
use Rattle.timecode.specs.declared.Format.{Format}
use Rattle.timecode.specs.declared.Time.{Time}
use Rattle.frametext.specs.Characters.{frame_line, write_answer, frames_text}
use Rattle.generator.specs.Sending.{begun, begun_of, kind_after, stepped, next_start, start_of, frame_line_for, lines_of, frames_of}
use Rattle.generator.specs.declared.Start.{Start}
use Rattle.generator.specs.Generators.{Steps, of_first_day}

-- ---- parts

plus_none : (a : ℕ) → a + 0 ≡ a
plus_none a = omega arith

plus-more : (a b : ℕ) → a + suc b ≡ suc (a + b)
plus-more a b = omega arith

pub starts-parts : (f : Format) (s : Start) (given a b : ℕ) → start_of f s given (a + b) ≡ start_of f (start_of f s given a) given b
unfolding start_of
starts-parts f s given a zero = ap (start_of f s given) (plus_none a)
starts-parts f s given a (suc b) = ap (start_of f s given) (plus-more a b) ∙ ap (λ (v : Start). next_start f v given) (starts-parts f s given a b)

pub lines-parts : (f : Format) (s : Start) (w given a b : ℕ) → lines_of f s w given (a + b) ≡ lines_of f s w given a ++ lines_of f (start_of f s given a) w given b
unfolding lines_of
lines-parts f s w given a zero = ap (lines_of f s w given) (plus_none a) ∙ sym (append-nil (lines_of f s w given a))
lines-parts f s w given a (suc b) =
    ap (lines_of f s w given) (plus-more a b)
    ∙ rw (lines-parts f s w given a b, starts-parts f s given a b)
    (append_assoc (lines_of f s w given a) (lines_of f (start_of f s given a) w given b) (frame_line_for f (start_of f (start_of f s given a) given b).time w))

parts-sum : (frames left left' : ℕ) → left ≤ frames → left' ≤ left → frames - left + (left - left') ≡ frames - left'
parts-sum frames left left' a b = omega arith

-- the frames left become fewer, and the next one is due
pub starts-turn : (f : Format) (s now now' : Start) (given frames left left' : ℕ) → left ≤ frames → left' ≤ left → now ≡ start_of f s given (frames - left) → now' ≡ start_of f now given (left - left') → now' ≡ start_of f s given (frames - left')
starts-turn f s now now' given frames left left' a b p q =
    q ∙ rw p (sym (starts-parts f s given (frames - left) (left - left'))) ∙ ap (start_of f s given) (parts-sum frames left left' a b)

-- ---- Step taken once is taken for ever: with its year length, and with its kind until the day ends

-- a step that changes the day goes to midnight
to-midnight : (f : Format) (t : Time) (given kind : ℕ) (u : Time) → eqb t.day u.day ≡ false → Lands f t given kind u → u.hundredths ≡ 0
to-midnight f t given kind u n (inl p) = absurd (eqb-false t.day u.day n (ap (λ (v : Time). v.day) p.0))
to-midnight f t given kind u n (inr p) = sym (ap (λ (v : Time). v.hundredths) p.0)

next-step : (f : Format) (t u : Time) (given kind : ℕ) → step_of f t given kind ≡ Ok u → step_of f u given (kind_after t u kind) ≡ Ok (following f u (length_for f u given) (kind_after t u kind))
unfolding step_of kind_after
next-step f t u given kind h =
    let again = step-again f t u given kind h in
    let w = went f u given kind (following f u (length_for f u given) kind) again in
    by-test (eqb t.day u.day)
    (λ y. rw y again)
    (λ n.
    let midnight = to-midnight f t (length_for f t given) kind u n (lands f t (length_for f t given) kind u (went f t given kind u h)) in
    rw n (step-answers f u (length_for f u given) usual w.format w.from w.length_is w.inside refl (omega (arith, midnight, day-end-range f usual)) (Ok (following f u (length_for f u given) usual))))

step_stays : (f : Format) (s : Start) (given : ℕ) → Steps f s given → Steps f (next_start f s given) given
unfolding next_start
step_stays f s given (u, h) = rw h (following f u (length_for f u given) (kind_after s.time u s.kind), next-step f s.time u given s.kind h)

next_is : (f : Format) (s : Start) (given : ℕ) → Steps f s given → step_of f s.time given s.kind ≡ Ok (next_start f s given).time
unfolding next_start
next_is f s given (u, h) = rw h

begun-done : (a : Result Unit Refusal) (p : Result Time Refusal) → begun a p ≡ done → (a ≡ done) × ((u : Time) × (p ≡ Ok u))
begun-done (Ok u) (Ok t) h = (refl, (t, refl))
begun-done (Ok u) (Err x) h = absurd (done-taken x h)
begun-done (Err x) (Ok u) h = absurd (done-taken x h)
begun-done (Err x) (Err y) h = absurd (done-taken x h)

-- ---- the kind given is the first day's, and every later day is usual

next-kind : (p : Result Time Refusal) (s : Start) → (stepped p s).kind ≡ kind_after s.time (stepped p s).time s.kind
unfolding kind_after
next-kind (Ok u) s = refl
next-kind (Err x) s = rw (eq-eqb s.time.day s.time.day refl)

next-kind-at : (f : Format) (s : Start) (given k : ℕ) → (start_of f s given (suc k)).kind ≡ kind_after (start_of f s given k).time (start_of f s given (suc k)).time (start_of f s given k).kind
unfolding start_of next_start
next-kind-at f s given k = next-kind (step_of f (start_of f s given k).time given (start_of f s given k).kind) (start_of f s given k)

first-day : (f : Format) (s : Start) (given k : ℕ) → of_first_day f s given k ≡ true → s.time.day ≡ (start_of f s given k).time.day
unfolding of_first_day start_of
first-day f s given zero h = refl
first-day f s given (suc k) h = eqb-true s.time.day (start_of f s given (suc k)).time.day (and_right (of_first_day f s given k) (eqb s.time.day (start_of f s given (suc k)).time.day) h)

usual-stays : (b : Bool) → cond b usual usual ≡ usual
usual-stays true = refl
usual-stays false = refl

kind-turn : (b : Bool) (first day next given-kind kind : ℕ) → kind ≡ cond b given-kind usual → (b ≡ true → first ≡ day) → cond (eqb day next) kind usual ≡ cond (b && eqb first next) given-kind usual
kind-turn true first day next given-kind kind p q = rw (p, q refl)
kind-turn false first day next given-kind kind p q = rw p (usual-stays (eqb day next))

pub kind_at : (f : Format) (s : Start) (given k : ℕ) → (start_of f s given k).kind ≡ cond (of_first_day f s given k) s.kind usual
unfolding of_first_day start_of kind_after
kind_at f s given zero = refl
kind_at f s given (suc k) =
    next-kind-at f s given k
    ∙ kind-turn (of_first_day f s given k) s.time.day (start_of f s given k).time.day (start_of f s given (suc k)).time.day s.kind (start_of f s given k).kind (kind_at f s given k) (first-day f s given k)

-- ---- the frames' text

frames-text-append : (f : Format) (xs ys : List Sent) → frames_text f (xs ++ ys) ≡ frames_text f xs ++ frames_text f ys
unfolding frames_text
frames-text-append f [] ys = refl
frames-text-append f (x ∷ xs) ys = ap (λ (s : List ℕ). frame_line f x.time x.control ++ s) (frames-text-append f xs ys) ∙ sym (append_assoc (frame_line f x.time x.control) (frames_text f xs) (frames_text f ys))

text-one : (f : Format) (s : Sent) → frames_text f (s ∷ []) ≡ frame_line f s.time s.control
unfolding frames_text
text-one f s = append-nil (frame_line f s.time s.control)

-- ---- after `begin`'s checks

module _ (f : Format) (s : Start) (w given : ℕ) (b : begun_of f s w given ≡ done) where
  begins : (write_answer f s.time w ≡ done) × Steps f s given
  unfolding begun_of
  begins = begun-done (write_answer f s.time w) (step_of f s.time given s.kind) b

  pub valid : Valid f s.time w
  unfolding write_answer
  valid = (taken f s.time w (written f s.time w) begins.0).0

  steps-at : (k : ℕ) → Steps f (start_of f s given k) given
  unfolding start_of
  steps-at zero = begins.1
  steps-at (suc k) = step_stays f (start_of f s given k) given (steps-at k)

  -- no later step is refused
  pub step-at : (k : ℕ) → step_of f (start_of f s given k).time given (start_of f s given k).kind ≡ Ok (start_of f s given (suc k)).time
  unfolding start_of
  step-at k = next_is f (start_of f s given k) given (steps-at k)

  abbrev time_at : ℕ → Time
  time_at k = (start_of f s given k).time

  valid-at : (k : ℕ) → Valid f (time_at k) w
  valid-at k = record { format = valid.format; time = (went f (time_at k) given (start_of f s given k).kind (time_at (suc k)) (step-at k)).from; room = valid.room }

  abbrev frame : ℕ → Sent
  frame k = record { time = time_at k; control = w }

  line_at : (k : ℕ) → frame_line_for f (time_at k) w ≡ frame_line f (time_at k) w
  unfolding frame_line_for write_answer
  line_at k = rw (takes f (time_at k) w (written f (time_at k) w) (valid-at k) (length-written f (time_at k) w))

  -- every frame's line is put
  pub lines_are : (k : ℕ) → lines_of f s w given k ≡ frames_text f (frames_of f s w given k)
  unfolding lines_of frames_of frames_text
  lines_are zero = refl
  lines_are (suc k) = rw (lines_are k, line_at k, frames-text-append f (frames_of f s w given k) (frame k ∷ []), text-one f (frame k))

  length-frames : (k : ℕ) → length (frames_of f s w given k) ≡ k
  unfolding frames_of
  length-frames zero = refl
  length-frames (suc k) = length-append (frames_of f s w given k) (frame k ∷ []) ∙ ap (λ (n : ℕ). n + 1) (length-frames k) ∙ one k
    where
      one : (k : ℕ) → k + 1 ≡ suc k
      one k = omega arith

  frame_at : (k j : ℕ) → j < k → get_or (frames_of f s w given k) j no_frame ≡ frame j
  unfolding frames_of
  frame_at zero j h = absurd (not-suc-le-zero h)
  frame_at (suc k) j h =
      by-test (ltb j k)
      (λ y. get_or-append (frames_of f s w given k) (frame k ∷ []) no_frame j (omega (arith, ltb-true j k y, length-frames k)) ∙ frame_at k j (ltb-true j k y))
      (λ n. let last : j ≡ k = omega (arith, ltb-false j k n) in rw last (get_or_at (frames_of f s w given k) (frame k) [] no_frame k (length-frames k)))

  first-start : start_of f s given 0 ≡ s
  unfolding start_of
  first-start = refl

  -- They are the frames of a generator: all that is shown of generators is true of them.
  pub is-generator : (k : ℕ) → Generator f (frames_of f s w given k)
  is-generator k =
      record {
        takes = λ j h lent n.
            let a : j < k = omega (arith, length-frames k) in
            rw (frame_at k 0 (omega arith), frame_at k j a, first-start) (takes f s.time w lent valid n);
        steps = λ j h.
            let a : suc j < k = omega (arith, length-frames k) in
            (given, (start_of f s given j).kind, rw (frame_at k j (omega arith), frame_at k (suc j) a) (step-at j));
      }
