-- The listeners as they are lent to a program: a list of settings, and for all of them together one list of element numbers and one of symbols, with an end for each listener.
use Rattle.std.specs.Prelude.{Bool, ◌&&◌, List, [], ◌∷◌, map, ℕ, zero, suc, ◌-◌, leb, eqb, get_or, length, Ok, Err}
use Rattle.timecode.specs.Answers.{Check, checks}
use Rattle.timecode.specs.Frames.{usual, step_of}
use Rattle.timecode.specs.Layout.{tabulate}
use Rattle.timecode.specs.declared.Format.{Format}
use Rattle.timecode.specs.declared.Refusal.TheVariants.{WrongLength, InvalidSetting, InvalidListener}
use Rattle.timecode.specs.declared.Time.{Time}
use Rattle.simulation.specs.Simulation.{run_of, Damage, Listener, heard, counts_of, Simulated, have_settings, are_listeners, stepped}

-- one of the damages, and those from one index up to another
abbrev pub damage_at : List ℕ → List ℕ → ℕ → Damage
damage_at numbers symbols i = record { at = get_or numbers i 0; symbol = get_or symbols i 0 }

abbrev pub damages_between : List ℕ → List ℕ → ℕ → ℕ → List Damage
damages_between numbers symbols from to = tabulate (to - from) from (damage_at numbers symbols)

-- A listener's damages begin where those of the one before end, the first one's at 0.
abbrev pub start_of : List ℕ → ℕ → ℕ
start_of ends zero = 0
start_of ends (suc j) = get_or ends j 0

abbrev pub listener_at : List ℕ → List ℕ → List ℕ → List ℕ → ℕ → Listener
listener_at settings ends numbers symbols j = record { setting = get_or settings j 0; damages = damages_between numbers symbols (start_of ends j) (get_or ends j 0) }

abbrev pub listeners_of : List ℕ → List ℕ → List ℕ → List ℕ → List Listener
listeners_of settings ends numbers symbols = tabulate (length settings) 0 (listener_at settings ends numbers symbols)

-- no end falls below the one before, and the last is that of the lists of damages
unfoldable pub ends_fit : ℕ → List ℕ → ℕ → Bool
ends_fit from [] total = eqb from total
ends_fit from (end ∷ ends) total = leb from end && ends_fit end ends total

-- number 3: an end for each setting, as many symbols as numbers, and ends that fit
unfoldable pub are_lists : List ℕ → List ℕ → List ℕ → List ℕ → Bool
are_lists settings ends numbers symbols = eqb (length ends) (length settings) && (eqb (length symbols) (length numbers) && ends_fit 0 ends (length numbers))

-- The call checks 1, 17, 2, 14, 11, 15 as Step does for the start, then 26, 3, 27.
abbrev pub list_checks : List ℕ → List ℕ → List ℕ → List ℕ → List Check
list_checks settings ends numbers symbols =
    (InvalidSetting, have_settings (listeners_of settings ends numbers symbols))  -- 26
    ∷ (WrongLength, are_lists settings ends numbers symbols)  -- 3
    ∷ (InvalidListener, are_listeners (listeners_of settings ends numbers symbols))  -- 27
    ∷ []

unfoldable pub simulate_lent : Format → Time → ℕ → ℕ → List ℕ → List ℕ → List ℕ → List ℕ → Simulated
simulate_lent f start frames length settings ends numbers symbols =
    stepped (step_of f start length usual)
    (checks Err (list_checks settings ends numbers symbols)
    (Ok (map (λ l. counts_of f (run_of f length frames start) (heard f (run_of f length frames start) l)) (listeners_of settings ends numbers symbols))))
