-- `resume_at` meets its contract: what Scan answers for the part decides.
use Rattle.std.proofs.Common.{refl, ◌∙◌}
use Rattle.due_frames.proofs.Moves.{resume-by}
use Rattle.due_frames.proofs.resume_at.Goals as goal

pub returns : goal.returns
returns c = c.resumed.ensures ∙ resume-by c.args.format c.args.recording.now c.args.place c.args.n c.reach_end-last.result _ _ c.requires.0 c.reach_end-last.ensures.1 c.scan.ensures refl
