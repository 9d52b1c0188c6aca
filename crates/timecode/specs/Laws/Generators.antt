-- A generator's elements by their index: its frames are valid and read as they were sent, and two marks stand side by side only where one frame ends and the next begins; in X a mark stands only where a frame begins.
use Rattle.std.specs.Prelude.{◌≡◌, List, ◌⊎◌, ℕ, ◌+◌, ◌/◌, ◌%◌, ◌<◌, length, get_or}
use Rattle.timecode.specs.Formats.{size}
use Rattle.timecode.specs.Frames.{written, Sent, elements, sent_at}
use Rattle.timecode.specs.declared.Format.{Format}

abbrev pub frame_of : Format → Sent → List ℕ
frame_of f s = written f s.time s.control

-- ---- elements by their index

-- the frame and the index in it of element k
pub record PlaceInFrame (f : Format) (sent : List Sent) (k : ℕ) : Type 0 where
  pub inside : k / size f < length sent
  pub index : k % size f < size f
  pub is : get_or (elements f sent) k 0 ≡ get_or (frame_of f (sent_at sent (k / size f))) (k % size f) 0

-- a mark may stand at index k of a stream with frames of n
abbrev pub MarkAt : ℕ → ℕ → Type 0
MarkAt n k = (k % n ≡ 0) ⊎ (k % 10 ≡ 9)

abbrev pub Pair : ℕ → Type 0
Pair n = (k : ℕ) → MarkAt n k → MarkAt n (k + 1) → (k + 1) % n ≡ 0
