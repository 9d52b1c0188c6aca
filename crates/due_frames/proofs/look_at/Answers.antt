-- `look_at` meets its contract: what Read answers for the frame decides.
use Rattle.timecode.specs.Answers.{accepted}
use native.Mathlib.Omega.{arith}
use mathlib.Core.Path.{ap, ◌∙◌}
use Rattle.std.specs.Prelude.{ℕ, Some, Err}
use Rattle.due_frames.proofs.Moves.{look-end, look-by}
use Rattle.due_frames.proofs.look_at.Goals as goal
use Rattle.due_frames.proofs.look_at.Goals.{then-recording-n-via-then-recording-n, then-recording-n-via-else-recording-n+then-recording-n-2}

pub returns-then-recording-n : goal.returns-then-recording-n
returns-then-recording-n c =
    elim c.then-recording-n.branch [
      | then-recording-n-via-then-recording-n w ↦ look-end _ _ _ (omega (arith, c.frame_size-n.ensures))
      | then-recording-n-via-else-recording-n+then-recording-n-2 w ↦ look-end _ _ _ (omega (arith, c.frame_size-n.ensures))
    ]

pub returns-in-Ok : goal.returns-in-Ok
returns-in-Ok c = look-by c.args.format c.args.recording.now c.args.place c.frame_size-n.result _ (accepted _ _) c.frame_size-n.ensures.0 (omega arith) c.read-reading.ensures c.in-Ok.is

pub returns-in-Err : goal.returns-in-Err
returns-in-Err c = ap (λ (next : ℕ). Some (record { frame = Err c.in-Err.refusal; next = next })) c.resume_at.ensures ∙ look-by c.args.format c.args.recording.now c.args.place c.frame_size-n.result _ (Err _) c.frame_size-n.ensures.0 (omega arith) c.read-reading.ensures c.in-Err.is
