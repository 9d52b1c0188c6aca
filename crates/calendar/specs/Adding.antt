-- Windows added one by one to an empty calendar: it holds those that were taken, in their order, and at most 32; a refused one leaves it as it was.
use Rattle.timecode.specs.declared.Refusal.{Refusal}
use Rattle.std.specs.Prelude.{◌≡◌, true, List, [], ◌∷◌, ◌++◌, ℕ, ◌<◌, ◌≤◌, length, Result, Ok, Err}
use Rattle.calendar.specs.Keys.{Small}
use Rattle.calendar.specs.Moments.{earlier}
use Rattle.calendar.specs.Windows.{windows_of, moment_of, window_of, add_answer, add_of}
use Rattle.calendar.specs.declared.Calendar.{Calendar}
use Rattle.calendar.specs.declared.DateTime.{DateTime}
use Rattle.calendar.specs.declared.Window.{Window}

-- a window asked for: from a date and hundredth to another
pub record Booking : Type 0 where
  pub from : DateTime
  pub to : DateTime

unfoldable pub added : Calendar → List Booking → Calendar
added c [] = c
added c (b ∷ bs) = added (add_of c b.from b.to).calendar bs

abbrev pub taken_by : Result Unit Refusal → Window → List Window
taken_by (Ok u) w = w ∷ []
taken_by (Err r) w = []

-- the windows that were taken
unfoldable pub taken : Calendar → List Booking → List Window
taken c [] = []
taken c (b ∷ bs) = taken_by (add_answer c.count b.from b.to) (window_of b.from b.to) ++ taken (add_of c b.from b.to).calendar bs

-- ---- what a window that is taken passed

pub record Passes (count : ℕ) (s e : DateTime) : Type 0 where
  pub start : Small (moment_of s)
  pub end : Small (moment_of e)
  pub room : count < 32
  pub order : earlier (moment_of s) (moment_of e) ≡ true

-- a calendar that adding made
pub record Made (c : Calendar) : Type 0 where
  pub few : c.count ≤ 32
  pub starts : length c.starts ≡ 32
  pub ends : length c.ends ≡ 32

pub record One (c : Calendar) (s e : DateTime) : Type 0 where
  pub made : Made (add_of c s e).calendar
  pub windows : windows_of (add_of c s e).calendar ≡ windows_of c ++ taken_by (add_answer c.count s e) (window_of s e)

-- Each of them ends after it starts.
abbrev pub EachEnds : List Window → Type 0
EachEnds [] = Unit
EachEnds (w ∷ ws) = (earlier w.start w.end ≡ true) × EachEnds ws
