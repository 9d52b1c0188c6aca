-- Frames that are due in a recording. Behind an accepted frame the next is due n elements later. Behind a refused one, too, unless an
-- element was lost or put in and Scan finds a frame that begins within the refused one.
use Rattle.timecode.specs.declared.Refusal.{Refusal}
use Rattle.timecode.specs.declared.Found.{Found}
use Rattle.timecode.specs.declared.Reading.{Reading}
use Rattle.std.specs.Prelude.{cond, List, ℕ, ◌+◌, ◌-◌, leb, length, take, Option, Some, None, Ok, Err, Result}
use Rattle.timecode.specs.Calls.{part_at, scan_of}
use Rattle.timecode.specs.Formats.{size}
use Rattle.timecode.specs.Frames.{read_of}
use Rattle.timecode.specs.declared.Format.{Format}
use Rattle.due_frames.specs.declared.Looked.{Looked}

-- the elements that every frame which begins within the one at a has: those before a + 2n - 1
unfoldable pub reach_of : Format → List ℕ → ℕ → List ℕ
reach_of f recording a = take (a + size f + size f - 1) recording

-- where Scan found one, or where the frame ends
abbrev pub resumed : Result (Option Found) Refusal → ℕ → ℕ
resumed (Ok (Some found)) due = found.start
resumed (Ok None) due = due
resumed (Err x) due = due

unfoldable pub resume_at : Format → List ℕ → ℕ → ℕ
resume_at f recording a = resumed (scan_of f (reach_of f recording a) (a + 1)) (a + size f)

-- Read's answer, and where the next is due
abbrev pub looked_by : Result Reading Refusal → ℕ → ℕ → Looked
looked_by (Ok read) due again = record { frame = Ok read.time; next = due }
looked_by (Err x) due again = record { frame = Err x; next = again }

-- the frame that is due at a, where a whole one is there
unfoldable pub look_at : Format → List ℕ → ℕ → Option Looked
look_at f recording a = cond (leb (a + size f) (length recording)) (Some (looked_by (read_of f (part_at f recording a)) (a + size f) (resume_at f recording a))) None
