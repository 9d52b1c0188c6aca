-- The part that Scan is lent; and that the next frame is due behind the place of the one looked at, so that looking on comes to the end.
use Rattle.std.specs.Prelude.{ℕ, ◌<◌, Option, Some, None}
use Rattle.due_frames.specs.declared.Looked.{Looked}

-- where the next is due
abbrev pub MovesOn : ℕ → Option Looked → Type 0
MovesOn a (Some looked) = a < looked.next
MovesOn a None = Unit {0}
