-- The struct's number and counts are those of its answer; a simulation has at most eight listeners and refuses with no index, so the struct leaves out no value.
use Rattle.std.specs.Prelude.{◌≡◌, refl, Bool, true, false, List, [], ◌++◌, ℕ, ◌+◌, ◌-◌, ◌<◌, ◌≤◌, leb, get_or, length, replicate, Result, Ok, Err}
use Rattle.std.proofs.Common.{sym, ap, ◌∙◌, arith, leb-true, length-append, get_or-append-add}
use Rattle.std.proofs.lemmas.List.{length-map, length-replicate, get_or-replicate}
use Rattle.std.proofs.Math.ListN.{get_or-append}
use Rattle.timecode.specs.Answers.{stepped_result, check}
use Rattle.timecode.specs.Frames.{usual, step_of}
use Rattle.timecode.proofs.Laws.Runs.{length-tabulate}
use Rattle.timecode.proofs.Laws.Tests.{by-test, clash, and_left}
use Rattle.timecode.specs.declared.Format.{Format}
use Rattle.timecode.specs.declared.Refusal.{Refusal}
use Rattle.timecode.specs.declared.Refusal.TheVariants.{WrongLength, InvalidSetting}
use Rattle.timecode.specs.declared.Time.{Time}
use Rattle.ffi.specs.Indexes.{refused_values}
use Rattle.ffi.proofs.Indexes.{step-no-index}
use Rattle.simulation.proofs.Demands.{simulates-exactly-when}
use Rattle.simulation.specs.Lent.{listener_at, listeners_of, are_lists, simulate_lent}
use Rattle.simulation.proofs.Lent.{lent-simulates}
use Rattle.simulation.specs.Simulation.{run_of, Listener, heard, counts_of, Simulated, have_settings, are_listeners, stepped}
use Rattle.simulation.specs.declared.Counts.{Counts}
use Rattle.simulate.specs.Hearing.{no_counts}
use Rattle.simulate_results.specs.SimulateStructs.{simulate_result_of}
use Rattle.simulate_results.specs.SimulateFields.{simulated_result, is_heard}

pub simulate-number : (a : Simulated) → (simulate_result_of a).number ≡ (simulated_result a).number
simulate-number (Ok cs) = refl
simulate-number (Err x) = refl

-- Each listener's counts stand at its place, and behind the last there are zeros, eight in all.
pub simulate-counts : (cs : List Counts) (none : Counts) (j : ℕ) → j < length cs → get_or (simulate_result_of (Ok cs)).counts j none ≡ get_or cs j none
simulate-counts cs none j b = get_or-append cs (replicate (8 - length cs) no_counts) none j b

pub simulate-past-last : (cs : List Counts) (none : Counts) (j : ℕ) → length cs ≤ j → j < 8 → get_or (simulate_result_of (Ok cs)).counts j none ≡ no_counts
simulate-past-last cs none j a b =
    let u : j ≡ length cs + (j - length cs) = omega arith in
    ap (λ (i : ℕ). get_or (cs ++ replicate (8 - length cs) no_counts) i none) u ∙ get_or-append-add cs (replicate (8 - length cs) no_counts) (j - length cs) none ∙ get_or-replicate (8 - length cs) (j - length cs) no_counts none (omega arith)

pub simulate-eight : (cs : List Counts) → length cs ≤ 8 → length (simulate_result_of (Ok cs)).counts ≡ 8
simulate-eight cs h = length-append cs (replicate (8 - length cs) no_counts) ∙ omega (arith, length-replicate {A = Counts} (8 - length cs) no_counts)

pub simulate-refused : (x : Refusal) (none : Counts) (j : ℕ) → j < 8 → get_or (simulate_result_of (Err x)).counts j none ≡ no_counts
simulate-refused x none j b = get_or-replicate 8 j no_counts none b

-- ---- what the call answers

never-heard : {P : Type 0} (s : Result Time Refusal) (b : Bool) (cs : List Counts) → stepped s (check Err InvalidSetting b (Err WrongLength)) ≡ Ok cs → P
never-heard (Ok u) true cs h = clash {b = is_heard (Ok cs)} refl (sym (ap is_heard h))
never-heard (Ok u) false cs h = clash {b = is_heard (Ok cs)} refl (sym (ap is_heard h))
never-heard (Err r) b cs h = clash {b = is_heard (Ok cs)} refl (sym (ap is_heard h))

few-listeners : (ls : List Listener) → are_listeners ls ≡ true → length ls ≤ 8
unfolding are_listeners
few-listeners ls h = leb-true (length ls) 8 (and_left (leb (length ls) 8) _ h)

step_kept : (s : Result Time Refusal) (a : Simulated) → refused_values (stepped_result s) ≡ [] → refused_values (simulated_result a) ≡ [] → refused_values (simulated_result (stepped s a)) ≡ []
step_kept (Ok u) a h k = k
step_kept (Err x) a h k = h

module _ (f : Format) (start : Time) (frames given : ℕ) (settings ends numbers symbols : List ℕ) where
  lists-heard : (cs : List Counts) → simulate_lent f start frames given settings ends numbers symbols ≡ Ok cs → are_lists settings ends numbers symbols ≡ true
  unfolding simulate_lent
  lists-heard cs h = by-test (are_lists settings ends numbers symbols) (λ l. l) (λ n. never-heard (step_of f start given usual) (have_settings (listeners_of settings ends numbers symbols)) cs (rw n at h))

  -- There are counts for each setting, and the struct has room for all.
  pub simulate-as-many : (cs : List Counts) → simulate_lent f start frames given settings ends numbers symbols ≡ Ok cs → (length cs ≡ length settings) × (length cs ≤ 8)
  simulate-as-many cs h =
      let ls = listeners_of settings ends numbers symbols in
      let took = (simulates-exactly-when f start frames given ls cs).0 (sym (lent-simulates f start frames given settings ends numbers symbols (lists-heard cs h)) ∙ h) in
      let many : length cs ≡ length ls = ap length took.are_plain ∙ length-map ls (λ l. counts_of f (run_of f given frames start) (heard f (run_of f given frames start) l)) in
      let each : length ls ≡ length settings = length-tabulate (length settings) 0 (listener_at settings ends numbers symbols) in
      (many ∙ each, omega (arith, many, few-listeners ls took.listeners))

  pub simulate-no-index : refused_values (simulated_result (simulate_lent f start frames given settings ends numbers symbols)) ≡ []
  unfolding simulate_lent
  simulate-no-index =
      step_kept (step_of f start given usual) _ (step-no-index f start given usual)
      (by-test (have_settings (listeners_of settings ends numbers symbols))
      (λ a. rw a (by-test (are_lists settings ends numbers symbols) (λ b. rw b (by-test (are_listeners (listeners_of settings ends numbers symbols)) (λ d. rw d) (λ d. rw d))) (λ b. rw b)))
      (λ a. rw a))
