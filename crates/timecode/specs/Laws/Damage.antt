-- A window of its lead and m + 1 frames that is a generator's but at some places: while at most m are damaged it confirms no false time, and undamaged it confirms the last frame's.
use Rattle.std.specs.Prelude.{◌≡◌, false, List, ℕ, ◌+◌, ◌<◌, ◌≤◌, length, get_or}
use Rattle.timecode.specs.Formats.{member}
use Rattle.timecode.specs.Frames.{Sent, elements}
use Rattle.timecode.specs.Laws.Windows.{long}
use Rattle.timecode.specs.declared.Format.{Format}

-- the window is the generator's elements from start on, but perhaps at the places
pub record Near (f : Format) (m : ℕ) (sent : List Sent) (start : ℕ) (places window : List ℕ) : Type 0 where
  pub long_is : length window ≡ long f m
  pub inside : start + long f m ≤ length (elements f sent)
  pub same : (k : ℕ) → k < long f m → member k places ≡ false → get_or window k 0 ≡ get_or (elements f sent) (start + k) 0
