-- The struct's number and counts are those of its answer; a simulation has at most eight listeners and refuses with no index, so the struct leaves out no value.
use Rattle.std.specs.Prelude.{Bool, true, false, List, [], ◌∷◌, ℤ, pos, Ok, Err}
use Rattle.timecode.specs.Answers.{Outcome, success, refusal_result}
use Rattle.simulation.specs.Simulation.{Simulated}
use Rattle.simulation.specs.declared.Counts.{Counts}

-- the values of counts: first report, reports, false ones, of one listener after the other
abbrev pub count_values : List Counts → List ℤ
count_values [] = []
count_values (c ∷ cs) = pos c.first ∷ pos c.reports ∷ pos c.wrong ∷ count_values cs

abbrev pub simulated_result : Simulated → Outcome
simulated_result (Ok cs) = success (count_values cs)
simulated_result (Err x) = refusal_result x

abbrev pub is_heard : Simulated → Bool
is_heard (Ok cs) = true
is_heard (Err x) = false
