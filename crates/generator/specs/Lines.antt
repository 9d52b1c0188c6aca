-- The loop that puts the frames' lines, one frame more at each turn; and the answers of its parts.
use Rattle.timecode.specs.declared.Refusal.{Refusal}
use Rattle.timecode.specs.Answers.{done}
use Rattle.std.specs.Prelude.{◌≡◌, List, ℕ, ◌-◌, take, Result, Ok, Err}
use Rattle.timecode.specs.declared.Format.{Format}
use Rattle.generator.specs.Sending.{start_of, lines_of}
use Rattle.generator.specs.declared.Start.{Start}

-- ---- frame_line's answer is Write's

abbrev pub stepped_answer : Result ℕ Refusal → Result Unit Refusal
stepped_answer (Ok k) = done
stepped_answer (Err x) = Err x

-- all but the frames left are put, and the next one is due
pub record PutSoFar (f : Format) (s : Start) (w given frames left : ℕ) (now : Start) (filled : ℕ) (out : List ℕ) : Type 0 where
  pub reached : now ≡ start_of f s given (frames - left)
  pub put : take filled out ≡ lines_of f s w given (frames - left)
