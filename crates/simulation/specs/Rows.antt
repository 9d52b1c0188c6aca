-- Worked runs: what each listener counts, and each refusal in its order.
use Rattle.std.specs.Prelude.{List, [], ◌∷◌, map, ℕ, Ok, Err}
use Rattle.timecode.specs.Answers.{refusal_number}
use Rattle.timecode.specs.Formats.{H, X}
use Rattle.timecode.specs.declared.Format.{Format}
use Rattle.timecode.specs.declared.Time.{Time}
use Rattle.simulation.specs.declared.Counts.{Counts}
use Rattle.simulation.specs.Simulation.{Damage, Listener, Simulated, simulate_of}

abbrev x2 : Format
x2 = record { letter = X; expression = 2 }

abbrev h1 : Format
h1 = record { letter = H; expression = 1 }

abbrev at : ℕ → ℕ → Damage
at number s = record { at = number; symbol = s }

abbrev listens : ℕ → List Damage → Listener
listens k ds = record { setting = k; damages = ds }

abbrev time : ℕ → ℕ → Time
time day hundredths = record { year = 0; day = day; hundredths = hundredths }

-- first report, reports, false ones; or the number of a refusal
abbrev figures : Counts → List ℕ
figures c = c.first ∷ c.reports ∷ c.wrong ∷ []

abbrev pub result : Simulated → List (List ℕ)
result (Ok cs) = map figures cs
result (Err r) = (refusal_number r ∷ []) ∷ []

unfoldable pub simulations : List Simulated
simulations =
    -- a false report needs k damages; a damage of number 0 or past the end does nothing
    simulate_of x2 (time 1 0) 4 365
    (listens 2 [] ∷ listens 3 [] ∷ listens 2 (at 20 1 ∷ at 45 1 ∷ []) ∷ listens 3 (at 20 1 ∷ at 45 1 ∷ []) ∷ listens 2 (at 0 1 ∷ at 30 3 ∷ at 151 3 ∷ []) ∷ listens 5 [] ∷ [])
    -- over midnight, with damages that change nothing, and a setting above the number of frames; no frame; no listener
    ∷ simulate_of x2 (time 1 8639900) 3 366 (listens 2 (at 1 2 ∷ at 25 3 ∷ []) ∷ listens 4 [] ∷ [])
    ∷ simulate_of x2 (time 1 0) 0 365 (listens 2 [] ∷ [])
    ∷ simulate_of x2 (time 1 0) 9 365 []
    -- Step's numbers first, then 26 of every listener, then 27
    ∷ simulate_of h1 (time 367 0) 4 364 (listens 6 [] ∷ [])
    ∷ simulate_of h1 (time 366 8634000) 4 365 (listens 6 [] ∷ [])
    ∷ simulate_of h1 (time 365 8634000) 4 365 (listens 2 (at 2 4 ∷ []) ∷ listens 6 [] ∷ [])
    ∷ simulate_of h1 (time 365 8634000) 4 365 (listens 1 [] ∷ [])
    -- a symbol above 3, and numbers that do not rise, past the end too; a ninth listener
    ∷ simulate_of x2 (time 1 0) 1 365 (listens 2 [] ∷ listens 5 (at 900 4 ∷ []) ∷ [])
    ∷ simulate_of x2 (time 1 0) 1 365 (listens 2 (at 900 1 ∷ at 900 1 ∷ []) ∷ [])
    ∷ simulate_of x2 (time 1 0) 0 365 (listens 2 [] ∷ listens 2 [] ∷ listens 2 [] ∷ listens 2 [] ∷ listens 2 [] ∷ listens 2 [] ∷ listens 2 [] ∷ listens 2 [] ∷ listens 2 [] ∷ [])
    ∷ []
