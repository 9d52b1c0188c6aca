-- The frames of a simulation are a generator's, and so many as are asked for.
use Rattle.std.specs.Prelude.{◌≡◌, length, Ok}
use Rattle.std.proofs.Math.Path.{refl}
use Rattle.std.proofs.Common.{sym, ap, not-suc-le-zero, arith, pow_pos}
use Prim.Native.Nat.{ℕ, zero, suc, ◌<◌}
use Rattle.timecode.specs.Frames.{usual, step_of, following, total_width, Generator, sent_at}
use Rattle.timecode.proofs.Laws.Back.{step-again}
use Rattle.timecode.specs.Laws.Stepping.{length_for}
use Rattle.timecode.proofs.Laws.Stepping.{went}
use Rattle.timecode.proofs.Laws.Writing.{takes}
use Rattle.timecode.specs.Layout.{control}
use Rattle.timecode.specs.declared.Format.{Format}
use Rattle.timecode.specs.declared.Time.{Time}
use Rattle.simulation.specs.Simulation.{run_of}

module _ (f : Format) (given : ℕ) where
  pub length_run : (n : ℕ) (t u : Time) → step_of f t given usual ≡ Ok u → length (run_of f given n t) ≡ n
  unfolding run_of
  length_run zero t u h = refl
  length_run (suc n) t u h = rw h (ap suc (length_run n u (following f u (length_for f u given) usual) (step-again f t u given usual h)))

  pub first-time : (n : ℕ) (t : Time) → 0 < n → (sent_at (run_of f given n t) 0).time ≡ t
  unfolding run_of
  first-time zero t h = absurd (not-suc-le-zero h)
  first-time (suc n) t h = refl

  pub control-none : (n : ℕ) (t u : Time) → step_of f t given usual ≡ Ok u → (j : ℕ) → (sent_at (run_of f given n t) j).control ≡ 0
  unfolding run_of
  control-none zero t u h j = refl
  control-none (suc n) t u h zero = refl
  control-none (suc n) t u h (suc j) = rw h (control-none n u (following f u (length_for f u given) usual) (step-again f t u given usual h) j)

  pub steps-at : (n : ℕ) (t u : Time) → step_of f t given usual ≡ Ok u → (j : ℕ) → suc j < n → step_of f (sent_at (run_of f given n t) j).time given usual ≡ Ok (sent_at (run_of f given n t) (suc j)).time
  unfolding run_of
  steps-at zero t u h j b = absurd (not-suc-le-zero b)
  steps-at (suc n) t u h zero b = rw h (ap Ok (sym (first-time n u (omega arith))))
  steps-at (suc n) t u h (suc j) b = rw h (steps-at n u (following f u (length_for f u given) usual) (step-again f t u given usual h) j (omega arith))

  pub run-generator : (n : ℕ) (t u : Time) → step_of f t given usual ≡ Ok u → Generator f (run_of f given n t)
  run-generator n t u h =
      let l = length_run n t u h in
      let x = went f t given usual u h in
      record {
        takes = λ j b lent k. rw (first-time n t (omega arith), control-none n t u h j) (takes f t 0 lent (record { format = x.format; time = x.from; room = pow_pos (total_width (control f)) }) k);
        steps = λ j b. (given, usual, steps-at n t u h j (omega arith));
      }
