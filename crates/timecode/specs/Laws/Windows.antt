-- A window of its lead and m + 1 frames, each accepted and each time next after the one before: with the setting m + 1 it reports exactly then. Document 01's window is the case m = 1.
use Rattle.timecode.specs.declared.Refusal.{Refusal}
use Rattle.timecode.specs.Answers.{accepted}
use Rattle.std.specs.Prelude.{◌≡◌, true, List, Result, Ok, Err}
use Prim.Native.Nat.{ℕ, suc, ◌+◌, ◌*◌, ◌<◌, ◌≤◌}
use Rattle.timecode.specs.Formats.{size}
use Rattle.timecode.specs.Frames.{no_time, Follows, read_of}
use Rattle.timecode.specs.Stream.{lead, opens, frame_in}
use Rattle.timecode.specs.declared.Answer.{Answer}
use Rattle.timecode.specs.declared.Answer.TheVariants.{Report}
use Rattle.timecode.specs.declared.Format.{Format}
use Rattle.timecode.specs.declared.Reading.{Reading}
use Rattle.timecode.specs.declared.Time.{Time}

-- the symbols of the lead and m + 1 frames
abbrev pub long : Format → ℕ → ℕ
long f m = size f * suc m + lead f

pub record Confirmed (f : Format) (m : ℕ) (window : List ℕ) (t : Time) (w : ℕ) : Type 0 where
  pub times : ℕ → Time
  pub controls : ℕ → ℕ
  pub begins : opens f window ≡ true
  pub reads : (j : ℕ) → j ≤ m → read_of f (frame_in f window j) ≡ accepted (times j) (controls j)
  pub follows : (j : ℕ) → j < m → Follows f (times j) (times (suc j))
  pub last_time : times m ≡ t
  pub last_control : controls m ≡ w

-- ---- a report taken apart, and made

abbrev pub time_of : Result Reading Refusal → Time
time_of (Ok read) = read.time
time_of (Err r) = no_time

abbrev pub control_of : Result Reading Refusal → ℕ
control_of (Ok read) = read.control
control_of (Err r) = 0

pub record Next (f : Format) (a : Answer) (r : Result Reading Refusal) (t : Time) (w : ℕ) : Type 0 where
  pub before : Time
  pub control_before : ℕ
  pub was : a ≡ Report before control_before
  pub is : r ≡ accepted t w
  pub follows : Follows f before t
