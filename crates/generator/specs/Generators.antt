-- The parts put one behind another are the lines of all the frames; these are a generator's, as document 01 has it.
use Rattle.std.specs.Prelude.{◌≡◌, Bool, true, ◌&&◌, eqb, Ok}
use Prim.Native.Nat.{ℕ, zero, suc}
use Rattle.timecode.specs.Frames.{step_of}
use Rattle.timecode.specs.declared.Format.{Format}
use Rattle.timecode.specs.declared.Time.{Time}
use Rattle.generator.specs.Sending.{start_of}
use Rattle.generator.specs.declared.Start.{Start}

-- ---- parts

-- Step takes the time, the year length and the kind
abbrev pub Steps : Format → Start → ℕ → Type 0
Steps f s given = (u : Time) × (step_of f s.time given s.kind ≡ Ok u)

-- frames 0 to k are all of the first day
unfoldable pub of_first_day : Format → Start → ℕ → ℕ → Bool
of_first_day f s given zero = true
of_first_day f s given (suc k) = of_first_day f s given k && eqb s.time.day (start_of f s given (suc k)).time.day
