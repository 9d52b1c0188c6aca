-- The listeners as they are lent to a program: a list of settings, and for all of them together one list of element numbers and one of symbols, with an end for each listener.
use Rattle.std.specs.Prelude.{◌≡◌, true, List, ℕ, ◌-◌, length}
use Rattle.timecode.specs.declared.Format.{Format}
use Rattle.timecode.specs.declared.Time.{Time}
use Rattle.simulation.specs.Simulation.{simulate_of}
use Rattle.simulation.specs.Lent.{listeners_of, are_lists, simulate_lent}

-- Of lists that are such lists it is the simulation of the listeners that they are.
pub lent-simulates : (f : Format) (start : Time) (frames length : ℕ) (settings ends numbers symbols : List ℕ) → are_lists settings ends numbers symbols ≡ true
    → simulate_lent f start frames length settings ends numbers symbols ≡ simulate_of f start frames length (listeners_of settings ends numbers symbols)
unfolding simulate_lent simulate_of
lent-simulates f start frames length settings ends numbers symbols h = rw h
