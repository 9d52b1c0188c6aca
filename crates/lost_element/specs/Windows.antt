-- A confirmed window of a generator's elements with one left out or one symbol put in: the frame that fills its last n is the generator's, whole.
-- Marks tell where the generator's frames begin in it. No time needs to be next after another for that.
use Rattle.std.specs.Prelude.{◌≡◌, List, ◌⊎◌, ℕ, suc, ◌+◌, ◌*◌, ◌<◌, ◌≤◌, length, get_or}
use Rattle.timecode.specs.Formats.{size}
use Rattle.timecode.specs.Frames.{Sent, elements, sent_at}
use Rattle.timecode.specs.Laws.Generators.{frame_of}
use Rattle.timecode.specs.Laws.Windows.{long}
use Rattle.timecode.specs.Stream.{lead, frame_in}
use Rattle.timecode.specs.declared.Format.{Format}
use Rattle.timecode.specs.declared.Time.{Time}
use Rattle.lost_element.specs.LostElement.{alike_at_end}

-- the symbols are the generator's elements from start on, the one after d of them left out; d may be past the last
pub record LostFrom (f : Format) (sent : List Sent) (start d : ℕ) (symbols : List ℕ) : Type 0 where
  pub inside : start + length symbols + 1 ≤ length (elements f sent)
  pub before : (j : ℕ) → j < d → j < length symbols → get_or symbols j 0 ≡ get_or (elements f sent) (start + j) 0
  pub after : (j : ℕ) → d ≤ j → j < length symbols → get_or symbols j 0 ≡ get_or (elements f sent) (start + j + 1) 0

-- the symbols are the generator's elements from start on, a symbol put in after d of them
pub record PutInFrom (f : Format) (sent : List Sent) (start d : ℕ) (symbols : List ℕ) : Type 0 where
  pub inside : start + length symbols ≤ length (elements f sent) + 1
  pub before : (j : ℕ) → j < d → j < length symbols → get_or symbols j 0 ≡ get_or (elements f sent) (start + j) 0
  pub after : (j : ℕ) → d ≤ j → j + 1 < length symbols → get_or symbols (j + 1) 0 ≡ get_or (elements f sent) (start + j) 0

-- the window's last frame is the generator's with that number, and t and w are its time and control word
pub record LastIs (f : Format) (m : ℕ) (sent : List Sent) (window : List ℕ) (t : Time) (w frame : ℕ) : Type 0 where
  pub inside : frame < length sent
  pub whole : frame_in f window m ≡ frame_of f (sent_at sent frame)
  pub time : t ≡ (sent_at sent frame).time
  pub control : w ≡ (sent_at sent frame).control

pub record LostAt (f : Format) (m : ℕ) (sent : List Sent) (start d : ℕ) (window : List ℕ) (t : Time) (w : ℕ) : Type 0 where
  pub frame : ℕ
  pub is : LastIs f m sent window t w frame
  pub place : ((long f m ≤ d + lead f) × (start + long f m ≡ size f * suc frame)) ⊎ ((d ≡ 0) × (start + long f m + 1 ≡ size f * suc frame))

pub record PutInAt (f : Format) (m : ℕ) (sent : List Sent) (start d : ℕ) (window : List ℕ) (t : Time) (w : ℕ) : Type 0 where
  pub frame : ℕ
  pub is : LastIs f m sent window t w frame
  pub place : ((long f m ≤ d + alike_at_end f) × (start + long f m ≡ size f * suc frame)) ⊎ ((d ≤ lead f) × (start + long f m ≡ size f * suc frame + 1))

-- ---- marks of the generator
