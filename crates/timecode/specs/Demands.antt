-- The demands, stated over the definitions and proved for every format, time, control word, list and length.
use Rattle.timecode.specs.Answers.{done}
use Rattle.std.specs.Prelude.{◌≡◌, List, ℕ, length}
use Rattle.timecode.specs.Formats.{size}
use Rattle.timecode.specs.Frames.{write_of, write_leaves}
use Rattle.timecode.specs.declared.Format.{Format}
use Rattle.timecode.specs.declared.Time.{Time}

-- ---- Demand 1: a refusal leaves lent memory with the contents it had. Write, the converters and the classifier over lists set lent memory; Read, Step, Difference, the classifier for one pulse and Scan set none.

-- Write takes the time and the control word, and leaves exactly these bytes in any frame of the right length
pub record Writes (f : Format) (t : Time) (w : ℕ) (bytes : List ℕ) : Type 0 where
  pub takes_them : (lent : List ℕ) → length lent ≡ size f → write_of f t w lent ≡ done
  pub leaves_them : (lent : List ℕ) → length lent ≡ size f → write_leaves f t w lent ≡ bytes
