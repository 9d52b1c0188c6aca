-- A generator's frames from a start on, all with one control word and one year length, and their lines.
-- The start has the kind of its day; every later day is usual.
use Rattle.timecode.specs.declared.Refusal.{Refusal}
use Rattle.timecode.specs.Answers.{done}
use Rattle.std.specs.Prelude.{◌≡◌, cond, List, [], ◌∷◌, ◌++◌, ℕ, zero, suc, ◌-◌, ◌<◌, ◌≤◌, eqb, take, Result, Ok, Err}
use Rattle.timecode.specs.Frames.{usual, step_of, left, Sent}
use Rattle.timecode.specs.declared.Format.{Format}
use Rattle.timecode.specs.declared.Time.{Time}
use Rattle.frametext.specs.Characters.{frame_line, write_answer}
use Rattle.generator.specs.declared.Generated.{Generated}
use Rattle.generator.specs.declared.Start.{Start}

-- Write's checks of the first frame, then Step's of its time, the year length and the kind
abbrev pub begun : Result Unit Refusal → Result Time Refusal → Result Unit Refusal
begun (Ok u) (Ok t) = done
begun (Ok u) (Err x) = Err x
begun (Err x) s = Err x

unfoldable pub begun_of : Format → Start → ℕ → ℕ → Result Unit Refusal
begun_of f s w given = begun (write_answer f s.time w) (step_of f s.time given s.kind)

-- the kind of the next frame's day: the same on the same day, else usual
unfoldable pub kind_after : Time → Time → ℕ → ℕ
kind_after t u kind = cond (eqb t.day u.day) kind usual

-- where the next frame starts; where Step refuses, at the same
abbrev pub stepped : Result Time Refusal → Start → Start
stepped (Ok u) s = record { time = u; kind = kind_after s.time u s.kind }
stepped (Err x) s = s

unfoldable pub next_start : Format → Start → ℕ → Start
next_start f s given = stepped (step_of f s.time given s.kind) s

-- where frame k starts, counted from 0
unfoldable pub start_of : Format → Start → ℕ → ℕ → Start
start_of f s given zero = s
start_of f s given (suc k) = next_start f (start_of f s given k) given

-- the line of a frame; where Write refuses, nothing
unfoldable pub frame_line_for : Format → Time → ℕ → List ℕ
frame_line_for f t w = left (write_answer f t w) (frame_line f t w) []

-- the lines of the first k frames
unfoldable pub lines_of : Format → Start → ℕ → ℕ → ℕ → List ℕ
lines_of f s w given zero = []
lines_of f s w given (suc k) = lines_of f s w given k ++ frame_line_for f (start_of f s given k).time w

-- the first k frames
unfoldable pub frames_of : Format → Start → ℕ → ℕ → ℕ → List Sent
frames_of f s w given zero = []
frames_of f s w given (suc k) = frames_of f s w given k ++ (record { time = (start_of f s given k).time; control = w } ∷ [])

-- What a call for so many frames leaves: the lines of all but the frames left at the start of 65,536 bytes, and where the next frame starts.
-- It puts all, unless there is no room for one line more, and at least one. What stands behind the lines is free.
abbrev pub Generates : Format → Start → ℕ → ℕ → ℕ → Generated → List ℕ → Type 0
Generates f s w given frames r out =
    (r.filled ≤ 65536)
    × (r.left ≤ frames)
    × (r.next ≡ start_of f s given (frames - r.left))
    × (take r.filled out ≡ lines_of f s w given (frames - r.left))
    × (1 ≤ frames → r.left < frames)
    × (r.filled ≤ 65280 → r.left ≡ 0)
