-- There are generators: of every format, from every time that Write takes, with any control words that it takes, of any length; and each goes on by any step.
use Rattle.timecode.specs.Answers.{done}
use Rattle.std.specs.Prelude.{◌≡◌, refl, true, List, [], ◌∷◌, ◌++◌, ℕ, zero, suc, ◌+◌, ◌-◌, ◌<◌, ◌≤◌, get_or, length, Ok}
use Rattle.std.proofs.Common.{sym, ap, ◌∙◌, not-suc-le-zero, arith, length-append, get_or-append-add}
use Rattle.std.proofs.Math.Decide.{dec_lt}
use Rattle.std.proofs.Math.ListN.{get_or-append}
use Rattle.timecode.specs.Formats.{known, size, OnFormat}
use Rattle.timecode.specs.Frames.{second_added, Follows, write_of, Sent, no_frame, Generator, Valid}
use Rattle.timecode.proofs.Laws.Stepping.{goes, step-on-format}
use Rattle.timecode.proofs.Laws.Writing.{takes}
use Rattle.timecode.specs.declared.Format.{Format}
use Rattle.timecode.specs.declared.Time.{Time}
use Rattle.timecode.specs.Laws.Existence.{after, frames}

pub length-frames : (f : Format) (t : Time) (ws : List ℕ) → length (frames f t ws) ≡ length ws
unfolding frames
length-frames f t [] = refl
length-frames f t (w ∷ ws) = ap suc (length-frames f (after f t) ws)

pub control-at : (f : Format) (t : Time) (ws : List ℕ) (j : ℕ) → (get_or (frames f t ws) j no_frame).control ≡ get_or ws j 0
unfolding frames
control-at f t [] j = refl
control-at f t (w ∷ ws) zero = refl
control-at f t (w ∷ ws) (suc j) = control-at f (after f t) ws j

pub first-time : (f : Format) (t : Time) (ws : List ℕ) → 0 < length ws → (get_or (frames f t ws) 0 no_frame).time ≡ t
unfolding frames
first-time f t [] h = absurd (not-suc-le-zero h)
first-time f t (w ∷ ws) h = refl

steps-at : (f : Format) → known f ≡ true → (ws : List ℕ) (t : Time) → OnFormat f t → (j : ℕ) → suc j < length ws → Follows f (get_or (frames f t ws) j no_frame).time (get_or (frames f t ws) (suc j) no_frame).time
unfolding frames
steps-at f k [] t o j h = absurd (not-suc-le-zero h)
steps-at f k (w ∷ ws) t o zero h = (366, second_added, goes f t k o ∙ ap Ok (sym (first-time f (after f t) ws (omega arith))))
steps-at f k (w ∷ ws) t o (suc j) h = steps-at f k ws (after f t) (step-on-format f t (after f t) (366, second_added, goes f t k o)) j (omega arith)

pub generator : (f : Format) (t : Time) (ws : List ℕ) → ((j : ℕ) → j < length ws → Valid f t (get_or ws j 0)) → Generator f (frames f t ws)
generator f t ws v =
    record {
      takes = λ j h lent n.
          let a : j < length ws = omega (arith, length-frames f t ws) in
          rw (first-time f t ws (omega arith), control-at f t ws j) (takes f t (get_or ws j 0) lent (v j a) n);
      steps = λ j h.
          let a : suc j < length ws = omega (arith, length-frames f t ws) in
          let first = v 0 (omega arith) in
          steps-at f first.format ws t first.time j a;
    }

-- ---- one frame more

module _ (sent : List Sent) (s : Sent) where
  earlier : (j : ℕ) → j < length sent → get_or (sent ++ (s ∷ [])) j no_frame ≡ get_or sent j no_frame
  earlier j h = get_or-append sent (s ∷ []) no_frame j h

  newest : (j : ℕ) → j ≡ length sent → get_or (sent ++ (s ∷ [])) j no_frame ≡ s
  newest j p = let u : j ≡ length sent + 0 = omega arith in rw u (get_or-append-add sent (s ∷ []) 0 no_frame)

  pub goes_on : (f : Format) → Generator f sent → 0 < length sent → Follows f (get_or sent (length sent - 1) no_frame).time s.time
      → ((lent : List ℕ) → length lent ≡ size f → write_of f (get_or sent 0 no_frame).time s.control lent ≡ done) → Generator f (sent ++ (s ∷ []))
  goes_on f gen some follows takes =
      record {
        takes = λ j h lent n. rw (earlier 0 some) (takes_at j (omega (arith, length-append sent (s ∷ []))) (dec_lt j (length sent)) lent n);
        steps = λ j h. steps-at j (omega (arith, length-append sent (s ∷ []))) (dec_lt (suc j) (length sent));
      }
    where
      takes_at : (j : ℕ) → j ≤ length sent → Dec (j < length sent) → (lent : List ℕ) → length lent ≡ size f → write_of f (get_or sent 0 no_frame).time (get_or (sent ++ (s ∷ [])) j no_frame).control lent ≡ done
      takes_at j h (yes a) lent n = rw (earlier j a) (gen.takes j a lent n)
      takes_at j h (no a) lent n = rw (newest j (omega arith)) (takes lent n)

      steps-at : (j : ℕ) → j < length sent → Dec (suc j < length sent) → Follows f (get_or (sent ++ (s ∷ [])) j no_frame).time (get_or (sent ++ (s ∷ [])) (suc j) no_frame).time
      steps-at j h (yes a) = rw (earlier j h, earlier (suc j) a) (gen.steps j a)
      steps-at j h (no a) = let u : length sent - 1 ≡ j = omega arith in rw (earlier j h, newest (suc j) (omega arith)) (rw u at follows)
