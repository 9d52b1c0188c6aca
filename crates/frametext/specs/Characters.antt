-- Document 01, timeread's input: a recording in characters, its first line and a line for each frame.
use Rattle.timecode.specs.declared.Refusal.{Refusal}
use Rattle.std.specs.Prelude.{Bool, cond, ◌&&◌, List, [], ◌∷◌, ◌++◌, ◌≡◌, ℕ, suc, ◌+◌, ◌%◌, ◌≤◌, eqb, ltb, length, take, Result, Ok, Err}
use Rattle.timecode.specs.Frames.{Sent, written, write_of}
use Rattle.timecode.specs.declared.Format.{Format}
use Rattle.timecode.specs.declared.Time.{Time}
use Rattle.lines.specs.Text.{space, newline}

-- 0 1 P - for symbols 0 1 2 3
unfoldable pub character_of : ℕ → ℕ
character_of s = cond (eqb s 0) 48 (cond (eqb s 1) 49 (cond (eqb s 2) 80 45))

-- elements stand in groups of ten
unfoldable pub opens_group : ℕ → Bool
opens_group i = ltb 0 i && eqb (i % 10) 0

-- element i of a frame: a space before each group but the first
unfoldable pub element_text : ℕ → ℕ → List ℕ
element_text i s = cond (opens_group i) (space ∷ character_of s ∷ []) (character_of s ∷ [])

-- the elements from number i on, and the end of the line
unfoldable pub frame_text : ℕ → List ℕ → List ℕ
frame_text i [] = newline ∷ []
frame_text i (s ∷ ss) = element_text i s ++ frame_text (suc i) ss

-- the line of the frame that Write writes
unfoldable pub frame_line : Format → Time → ℕ → List ℕ
frame_line f t w = frame_text 0 (written f t w)

-- what Write answers for a lent frame of n bytes, which the written one has
unfoldable pub write_answer : Format → Time → ℕ → Result Unit Refusal
write_answer f t w = write_of f t w (written f t w)

-- the length of the line, or Write's refusal
abbrev pub lined : Result Unit Refusal → ℕ → Result ℕ Refusal
lined (Ok u) k = Ok k
lined (Err x) k = Err x

unfoldable pub lined_of : Format → Time → ℕ → Result ℕ Refusal
lined_of f t w = lined (write_answer f t w) (length (frame_line f t w))

-- The lent line afterwards: the text at its start, what lies behind being free; or as it was, where nothing is put.
abbrev pub Stands : Result ℕ Refusal → List ℕ → List ℕ → List ℕ → Type 0
Stands (Ok k) text new old = (k ≤ 256) × (take k new ≡ text)
Stands (Err x) text new old = new ≡ old

-- letter, expression digit, newline; the expression of a known format is a digit
abbrev pub first_line : Format → List ℕ
first_line f = f.letter ∷ (48 + f.expression % 10) ∷ newline ∷ []

-- the lines of a list of frames
unfoldable pub frames_text : Format → List Sent → List ℕ
frames_text f [] = []
frames_text f (s ∷ ss) = frame_line f s.time s.control ++ frames_text f ss

-- the whole recording
unfoldable pub recording_text : Format → List Sent → List ℕ
recording_text f sent = first_line f ++ frames_text f sent
