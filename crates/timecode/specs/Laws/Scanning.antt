-- Scan finds the lowest place where a mark stands before and Read accepts, and answers None exactly where there is none.
use Rattle.std.specs.Prelude.{List}
use Prim.Native.Nat.{ℕ, ◌≤◌}
use Rattle.timecode.specs.Calls.{first_place, FrameAt}
use Rattle.timecode.specs.Stream.{lead}
use Rattle.timecode.specs.declared.Format.{Format}
use Rattle.timecode.specs.declared.Time.{Time}

abbrev pub NoFit : Format → List ℕ → ℕ → Type 0
NoFit f recording a = (t : Time) (w : ℕ) → FrameAt f recording a t w → ⊥

abbrev pub IsFirst : Format → ℕ → Type 0
IsFirst f start = (lead f ≤ first_place f start) × (start ≤ first_place f start) × ((a : ℕ) → lead f ≤ a → start ≤ a → first_place f start ≤ a)
