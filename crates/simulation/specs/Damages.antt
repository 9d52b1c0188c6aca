-- A damaged list by its index: as long as before, of symbols if it was and the damages are, and as before but at the places of the damages.
use Rattle.std.specs.Prelude.{List, [], ◌∷◌, ℕ, zero, suc}
use Rattle.simulation.specs.Simulation.{Damage}

abbrev pub with_place : ℕ → List ℕ → List ℕ
with_place zero places = places
with_place (suc place) places = place ∷ places

-- the places from 0 of the damages; number 0 is outside the run
abbrev pub places_of : List Damage → List ℕ
places_of [] = []
places_of (d ∷ ds) = with_place d.at (places_of ds)
