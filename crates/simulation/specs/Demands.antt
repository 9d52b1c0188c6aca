-- What document 02 says of a simulation, for every format, start, number of frames, year length and list of listeners.
use Rattle.std.specs.Prelude.{◌≡◌, Bool, true, false, length, Ok, Err}
use mathlib.Core.List.{List, [], map}
use Prim.Native.Nat.{ℕ, ◌-◌}
use Rattle.timecode.specs.Frames.{usual, step_of}
use Rattle.timecode.specs.Stream.{window_length, places_within}
use Rattle.timecode.specs.declared.Format.{Format}
use Rattle.timecode.specs.declared.Time.{Time}
use Rattle.simulation.specs.Damages.{places_of}
use Rattle.simulation.specs.declared.Counts.{Counts}
use Rattle.simulation.specs.Simulation.{run_of, Damage, Listener, heard, counts_of, Simulated, have_settings, are_listeners}

-- how many damages lie in the window that ends with the element of that number
abbrev pub damages_in : Format → ℕ → List Damage → ℕ → ℕ
damages_in f k ds number = length (places_within (number - window_length f k) (window_length f k) (places_of ds))

-- It took place: Step takes the start, the settings and the damages are in order, and each listener's counts are those of the plain rule over its damaged list.
pub record TookPlace (f : Format) (start : Time) (frames given : ℕ) (ls : List Listener) (counts : List Counts) : Type 0 where
  pub after : Time
  pub steps : step_of f start given usual ≡ Ok after
  pub settings : have_settings ls ≡ true
  pub listeners : are_listeners ls ≡ true
  pub are_plain : counts ≡ map (λ l. counts_of f (run_of f given frames start) (heard f (run_of f given frames start) l)) ls

abbrev pub is_heard : Simulated → Bool
is_heard (Ok cs) = true
is_heard (Err r) = false

abbrev pub counts_in : Simulated → List Counts
counts_in (Ok cs) = cs
counts_in (Err r) = []

-- stands for a listener and for counts past the last, which nothing asks for
abbrev pub nobody : Listener
nobody = record { setting = 0; damages = [] }

abbrev pub no_counts : Counts
no_counts = record { first = 0; reports = 0; wrong = 0 }
