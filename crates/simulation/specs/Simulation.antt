-- Document 02, "Trying the confirmation setting", from "Then simulate": a generator, listeners with their own setting k and their own damages, and what each counts.
-- Elements are numbered from 1.
use Rattle.std.specs.Prelude.{Bool, true, false, cond, not, ◌&&◌, List, [], ◌∷◌, map, ℕ, zero, suc, ◌-◌, ◌/◌, ◌%◌, leb, ltb, eqb, length, set, Result, Ok, Err}
use Rattle.timecode.specs.Answers.{checks}
use Rattle.timecode.specs.Formats.{is_symbol, size}
use Rattle.timecode.specs.Frames.{usual, same_time, step_of, Sent, elements, sent_at}
use Rattle.timecode.specs.Stream.{is_setting, plain_answers}
use Rattle.timecode.specs.declared.Answer.{Answer}
use Rattle.timecode.specs.declared.Answer.TheVariants.{Quiet, Report}
use Rattle.timecode.specs.declared.Format.{Format}
use Rattle.timecode.specs.declared.Refusal.{Refusal}
use Rattle.timecode.specs.declared.Refusal.TheVariants.{InvalidSetting, InvalidListener}
use Rattle.timecode.specs.declared.Time.{Time}
use Rattle.simulation.specs.declared.Counts.{Counts}

-- ---- the generator

-- frames from t on, in years of one length given and usual days, control words 0; where Step refuses it ends, which it never does once it took the first time
abbrev goes_on : Result Time Refusal → (Time → List Sent) → List Sent
goes_on (Ok u) later = later u
goes_on (Err r) later = []

unfoldable pub run_of : Format → ℕ → ℕ → Time → List Sent
run_of f length zero t = []
run_of f length (suc frames) t = record { time = t; control = 0 } ∷ goes_on (step_of f t length usual) (run_of f length frames)

-- ---- damages

-- the number of an element, and the symbol that is heard in its place
pub record Damage : Type 0 where
  pub at : ℕ
  pub symbol : ℕ

-- a number outside the run damages nothing
unfoldable pub replace_at : ℕ → ℕ → List ℕ → List ℕ
replace_at zero s xs = xs
replace_at (suc place) s xs = set xs place s

unfoldable pub damaged : List Damage → List ℕ → List ℕ
damaged [] xs = xs
damaged (d ∷ ds) xs = damaged ds (replace_at d.at d.symbol xs)

-- each number is above the one before
unfoldable pub are_rising : List Damage → Bool
are_rising [] = true
are_rising (d ∷ []) = true
are_rising (d ∷ (e ∷ ds)) = ltb d.at e.at && are_rising (e ∷ ds)

unfoldable pub have_symbols : List Damage → Bool
have_symbols [] = true
have_symbols (d ∷ ds) = is_symbol d.symbol && have_symbols ds

-- ---- what a listener counts

abbrev pub is_report : Answer → Bool
is_report (Report t w) = true
is_report Quiet = false
is_report (Answer.Refused r) = false

-- the number of the first element that brings a report, 0 where none does; `past` elements came before these answers
unfoldable pub first_report : ℕ → List Answer → ℕ
first_report past [] = 0
first_report past (a ∷ rest) = cond (is_report a) (suc past) (first_report (suc past) rest)

unfoldable pub report_count : List Answer → ℕ
report_count [] = 0
report_count (a ∷ rest) = cond (is_report a) (suc (report_count rest)) (report_count rest)

-- a frame of the generator ends with the element of that number, and t is its time
unfoldable pub ends_frame : Format → List Sent → ℕ → Time → Bool
ends_frame f sent number t = eqb (number % size f) 0 && (ltb 0 number && (leb number (length (elements f sent)) && same_time t (sent_at sent (number / size f - 1)).time))

-- a report that does not give the time of a frame that ends there
unfoldable pub is_false : Format → List Sent → ℕ → Answer → Bool
is_false f sent number (Report t w) = not (ends_frame f sent number t)
is_false f sent number Quiet = false
is_false f sent number (Answer.Refused r) = false

unfoldable pub false_count : Format → List Sent → ℕ → List Answer → ℕ
false_count f sent past [] = 0
false_count f sent past (a ∷ rest) = cond (is_false f sent (suc past) a) (suc (false_count f sent (suc past) rest)) (false_count f sent (suc past) rest)

-- ---- the call

pub record Listener : Type 0 where
  pub setting : ℕ
  pub damages : List Damage

-- what the plain machine with the setting k answers to the damaged list
unfoldable pub heard : Format → List Sent → Listener → List Answer
heard f sent l = plain_answers f l.setting [] (damaged l.damages (elements f sent))

unfoldable pub counts_of : Format → List Sent → List Answer → Counts
counts_of f sent answers = record { first = first_report 0 answers; reports = report_count answers; wrong = false_count f sent 0 answers }

-- Simulate answers each listener's counts, or refuses.
abbrev pub Simulated : Type 0
Simulated = Result (List Counts) Refusal

abbrev pub every : (Listener → Bool) → List Listener → Bool
every p [] = true
every p (l ∷ ls) = p l && every p ls

-- number 26: each k is 2 to 5
unfoldable pub have_settings : List Listener → Bool
have_settings ls = every (λ l. is_setting l.setting) ls

-- number 27: no ninth listener, and damages in strictly rising order with symbols of 0 to 3
unfoldable pub are_listeners : List Listener → Bool
are_listeners ls = leb (length ls) 8 && every (λ l. are_rising l.damages && have_symbols l.damages) ls

abbrev pub stepped : Result Time Refusal → Simulated → Simulated
stepped (Ok u) answer = answer
stepped (Err r) answer = Err r

-- Simulate checks 1, 17, 2, 14, 11, 15 as Step does for the start, then 26, 27.
unfoldable pub simulate_of : Format → Time → ℕ → ℕ → List Listener → Simulated
simulate_of f start frames length ls =
    stepped (step_of f start length usual)  -- 1, 17, 2, 14, 11, 15
    (checks Err
    ((InvalidSetting, have_settings ls)  -- 26
    ∷ (InvalidListener, are_listeners ls)  -- 27
    ∷ [])
    (Ok (map (λ l. counts_of f (run_of f length frames start) (heard f (run_of f length frames start) l)) ls)))
