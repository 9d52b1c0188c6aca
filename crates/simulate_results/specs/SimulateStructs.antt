-- The struct of a simulation's answer: its number first, then the counts of each listener; past the last listener, and where it was refused, they are 0.
use Rattle.std.specs.Prelude.{replicate, Ok, Err}
use Rattle.timecode.specs.Answers.{refusal_number}
use Rattle.simulation.specs.Simulation.{Simulated}
use Rattle.simulate.specs.Hearing.{no_counts, result_of}
use Rattle.simulate_results.specs.declared.SimulateResult.{SimulateResult}

abbrev pub struct_of : Simulated → SimulateResult
struct_of (Ok cs) = record { number = 0; counts = cs }
struct_of (Err r) = record { number = refusal_number r; counts = replicate 8 no_counts }

abbrev pub simulate_result_of : Simulated → SimulateResult
simulate_result_of s = struct_of (result_of s)
