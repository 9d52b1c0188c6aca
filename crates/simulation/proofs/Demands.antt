-- What document 02 says of a simulation, for every format, start, number of frames, year length and list of listeners.
use Rattle.std.specs.Prelude.{◌≡◌, Bool, true, false, ◌&&◌, ◌↔◌, ◌⊎◌, leb, length, get_or, take, set, Result, Ok, Err}
use Rattle.std.proofs.Math.Path.{refl, sym}
use Rattle.std.proofs.Common.{ap, ◌∙◌, inl, inr, not-suc-le-zero, zero-add, mul-le-mul_left, leb-true, length-set, ext_get_or, get_or-take, length-take-le, get_or-set_other}
use mathlib.Core.List.{List, [], ◌∷◌, map}
use Prim.Native.Nat.{ℕ, zero, suc, ◌+◌, ◌*◌, ◌-◌, ◌<◌, ◌≤◌}
use native.Mathlib.Omega.{arith}
use Rattle.std.proofs.Math.Decide.{dec_lt}
use Rattle.std.proofs.Math.ListN.{get_or-eq_default}
use Rattle.timecode.specs.Answers.{Check, checks}
use Rattle.timecode.specs.Demand3.{Demand3}
use Rattle.timecode.proofs.Demand3.{demand-3, higher-setting-reports-a-part}
use Rattle.timecode.specs.Formats.{is_x, size}
use Rattle.timecode.specs.Frames.{usual, step_of, Sent, Generator, elements, sent_at, EndsFrame}
use Rattle.timecode.proofs.Laws.Checks.{quiet-no-report, all-passed}
use Rattle.timecode.proofs.Laws.Generators.{element-small}
use Rattle.timecode.proofs.Laws.Machine.{length-answers, all-elements}
use Rattle.timecode.proofs.Laws.Marks.{size-positive}
use Rattle.timecode.proofs.Laws.Tests.{by-test, clash, and_left, and_right}
use Rattle.timecode.proofs.Laws.Windows.{lead-one, lead-none}
use Rattle.timecode.specs.Stream.{is_setting, lead, window_length, plain_answers, elements_of, elements_up_to, ReplacedAt}
use Rattle.timecode.specs.declared.Answer.{Answer}
use Rattle.timecode.specs.declared.Answer.TheVariants.{Quiet, Report}
use Rattle.timecode.specs.declared.Format.{Format}
use Rattle.timecode.specs.declared.Refusal.{Refusal}
use Rattle.timecode.specs.declared.Refusal.TheVariants.{InvalidSetting, InvalidListener}
use Rattle.timecode.specs.declared.Time.{Time}
use Rattle.simulation.specs.Counting.{PartOf}
use Rattle.simulation.proofs.Counting.{none-false, first-is, fewer-reports, fewer-false, later_first}
use Rattle.simulation.specs.Damages.{places_of}
use Rattle.simulation.proofs.Damages.{length-damaged, damaged-places, damaged-small}
use Rattle.simulation.proofs.Run.{length_run, run-generator}
use Rattle.simulation.specs.declared.Counts.{Counts}
use Rattle.simulation.specs.Simulation.{run_of, replace_at, damaged, are_rising, have_symbols, is_report, first_report, Listener, heard, counts_of, Simulated, every, have_settings, are_listeners, stepped, simulate_of}
-- A report is right exactly where a frame of the generator ends with that element and its time is reported.
pub use Rattle.simulation.proofs.Counting.{ends-exactly-when}
use Rattle.simulation.specs.Demands.{damages_in, TookPlace, is_heard, counts_in, nobody, no_counts}

-- A number outside the run damages nothing.
pub outside-damages-nothing : (at s : ℕ) (xs : List ℕ) → (at ≡ 0) ⊎ (length xs < at) → replace_at at s xs ≡ xs
unfolding replace_at
outside-damages-nothing zero s xs h = refl
outside-damages-nothing (suc place) s xs (inl h) = let n : ⊥ = omega arith in absurd n
outside-damages-nothing (suc place) s xs (inr h) =
    ext_get_or 0 (set xs place s) xs (length-set xs place s) (λ j b. get_or-set_other xs place j s 0 (λ q. let n : ⊥ = omega (arith, length-set xs place s) in n))

-- ---- one listener to a generator

setting-some : (k : ℕ) → is_setting k ≡ true → 1 ≤ k
unfolding is_setting
setting-some k h = let two = leb-true 2 k (and_left (leb 2 k) (leb k 5) h) in omega arith

module _ (f : Format) (sent : List Sent) (l : Listener) (k : is_setting l.setting ≡ true) where
  abbrev received : List ℕ
  received = damaged l.damages (elements f sent)

  -- Demand 3 holds of what it hears.
  pub heard-demand-3 : (none : Answer) → Demand3 f l.setting (damaged l.damages (elements f sent)) (heard f sent l) none
  unfolding heard
  heard-demand-3 none = demand-3 f l.setting k received (plain_answers f l.setting [] received) refl none

  length-heard : length (heard f sent l) ≡ length (elements f sent)
  unfolding heard
  length-heard = length-answers f l.setting [] received ∙ length-damaged l.damages (elements f sent)

  -- past the last there is none
  inside-run : (i : ℕ) (t : Time) (w : ℕ) → get_or (heard f sent l) i Quiet ≡ Report t w → i < length (elements f sent)
  inside-run i t w r = go (dec_lt i (length (elements f sent)))
    where
      go : Dec (i < length (elements f sent)) → i < length (elements f sent)
      go (yes b) = b
      go (no b) = quiet-no-report t w (sym (get_or-eq_default (heard f sent l) Quiet {n = i} (omega (arith, length-heard))) ∙ r)

  module _ (gen : Generator f sent) where
    -- With at most k - 1 damages in the window a report is right,
    pub few-damages-no-false-time : have_symbols l.damages ≡ true → (i : ℕ) → damages_in f l.setting l.damages (suc i) < l.setting
        → (t : Time) (w : ℕ) → get_or (heard f sent l) i Quiet ≡ Report t w → EndsFrame f sent (suc i) t
    few-damages-no-false-time s i few t w r = rw (so-many, zero-add (suc i)) at ((heard-demand-3 Quiet).no_false_time_in_stream sent gen (places_of l.damages) 0 replaced i (b, small i b) (rw so-many few) t w r)
      where
        small : (j : ℕ) → j < length (damaged l.damages (elements f sent)) → get_or (damaged l.damages (elements f sent)) j 0 ≤ 3
        small j c = damaged-small l.damages (elements f sent) s (λ i c. element-small f sent i) j (omega (arith, length-damaged l.damages (elements f sent)))

        b : i < length (damaged l.damages (elements f sent))
        b = omega (arith, inside-run i t w r, length-damaged l.damages (elements f sent))

        replaced : ReplacedAt (places_of l.damages) (elements_of (damaged l.damages (elements f sent))) (elements f sent)
        replaced = rw (all-elements received small) (damaged-places l.damages (elements f sent))

        so-many : length (elements_up_to (damaged l.damages (elements f sent)) i) ≡ suc i
        so-many =
            let n = length-take-le (suc i) received b in
            ap length (all-elements (take (suc i) received) (λ j c. rw (get_or-take (suc i) received j 0 (omega arith)) (small j (omega (arith, b))))) ∙ n

    -- so with at most so many in each window none is false.
    pub few-damages-none-false : have_symbols l.damages ≡ true → ((number : ℕ) → 0 < number → number ≤ length (elements f sent) → damages_in f l.setting l.damages number < l.setting)
        → (counts_of f sent (heard f sent l)).wrong ≡ 0
    unfolding counts_of
    few-damages-none-false s few =
        none-false f sent 0 (heard f sent l)
        (λ i t w r. let u : suc 0 + i ≡ suc i = omega arith in rw u (few-damages-no-false-time s i (few (suc i) (omega arith) (omega (arith, inside-run i t w r))) t w r))

    -- Undamaged, it hears its first report where demand 3 says: with element (k + 1)n, in X kn.
    pub undamaged-first-report : l.damages ≡ [] → lead f + l.setting ≤ length sent → (counts_of f sent (heard f sent l)).first ≡ size f * (lead f + l.setting)
    unfolding counts_of damaged window_length
    undamaged-first-report none h = by-test (is_x f) of-x of_others
      where
        whole : damaged l.damages (elements f sent) ≡ elements f sent
        whole = rw none refl

        first-at : (i : ℕ) (t : Time) (w : ℕ) → ((j : ℕ) → j < i → get_or (heard f sent l) j Quiet ≡ Quiet) → get_or (heard f sent l) i Quiet ≡ Report t w → first_report 0 (heard f sent l) ≡ suc (0 + i)
        first-at i t w quiet r = first-is 0 i (heard f sent l) (λ j b. ap is_report (quiet j b)) (ap is_report r)

        of-x : is_x f ≡ true → first_report 0 (heard f sent l) ≡ size f * (lead f + l.setting)
        of-x x =
            let lead_is = lead-none f x in
            let n = size-positive f in
            let z : size f * 0 - lead f ≡ 0 = omega arith in
            let q : size f * (lead f + l.setting) ≡ size f * (0 + l.setting) = ap (λ (x : ℕ). size f * (x + l.setting)) lead_is in
            let p : size f * 1 ≤ size f * l.setting = mul-le-mul_left (size f) (setting-some l.setting k) in
            let e = (heard-demand-3 Quiet).first_report_from_lead sent gen 0 (omega arith) (omega arith) (whole ∙ rw z refl) in
            first-at (window_length f l.setting - 1) (sent_at sent (0 + l.setting - 1)).time (sent_at sent (0 + l.setting - 1)).control (λ j b. e.0 j (omega arith)) e.1 ∙ omega arith

        of_others : is_x f ≡ false → first_report 0 (heard f sent l) ≡ size f * (lead f + l.setting)
        of_others x =
            let lead_is = lead-one f x in
            let n = size-positive f in
            let z : size f * 0 + 0 ≡ 0 = omega arith in
            let q : size f * (lead f + l.setting) ≡ size f * (1 + l.setting) = ap (λ (x : ℕ). size f * (x + l.setting)) lead_is in
            let e = (heard-demand-3 Quiet).first_report_exactly sent gen 0 0 n (omega arith) (omega arith) (whole ∙ rw z refl) in
            first-at (suc l.setting * size f - 0 - 1) (sent_at sent (0 + l.setting)).time (sent_at sent (0 + l.setting)).control (λ j b. e.0 j (omega arith)) e.1 ∙ omega arith

-- On one damaged list a higher k reports a part of what a lower k reports: each report of the higher is the lower's with the same element,
module _ (f : Format) (sent : List Sent) (low high : Listener) (a : is_setting low.setting ≡ true) (b : is_setting high.setting ≡ true) (same : low.damages ≡ high.damages) (lower : low.setting ≤ high.setting) where
  pub higher-reports-a-part : PartOf (heard f sent high) (heard f sent low)
  unfolding heard
  higher-reports-a-part i t w r =
      let n = length-damaged high.damages (elements f sent) in
      higher-setting-reports-a-part f low.setting high.setting (setting-some low.setting a) lower (damaged high.damages (elements f sent)) (heard f sent low) (heard f sent high) low-plain high-plain Quiet i (omega (arith, inside-run f sent high b i t w r)) t w r
    where
      low-plain : heard f sent low ≡ plain_answers f low.setting [] (damaged high.damages (elements f sent))
      low-plain = rw same refl

      high-plain : heard f sent high ≡ plain_answers f high.setting [] (damaged high.damages (elements f sent))
      high-plain = refl

  -- so it counts no more reports, no more false ones, and no earlier first one.
  pub higher-counts-no-more : ((counts_of f sent (heard f sent high)).reports ≤ (counts_of f sent (heard f sent low)).reports) × ((counts_of f sent (heard f sent high)).wrong ≤ (counts_of f sent (heard f sent low)).wrong)
      × (0 < (counts_of f sent (heard f sent high)).first → (0 < (counts_of f sent (heard f sent low)).first) × ((counts_of f sent (heard f sent low)).first ≤ (counts_of f sent (heard f sent high)).first))
  unfolding counts_of
  higher-counts-no-more =
      let n = length-heard f sent high b ∙ sym (length-heard f sent low a) in
      (fewer-reports (heard f sent high) (heard f sent low) n higher-reports-a-part, fewer-false f sent 0 (heard f sent high) (heard f sent low) n higher-reports-a-part, later_first 0 (heard f sent high) (heard f sent low) n higher-reports-a-part)

-- ---- the simulation

no-counts : {P : Type 0} (r : Refusal) (cs : List Counts) → Err r ≡ Ok cs → P
no-counts r cs h = clash {b = is_heard (Ok cs)} refl (sym (ap is_heard h))

step-passed : (s : Result Time Refusal) (a : Simulated) (cs : List Counts) → stepped s a ≡ Ok cs → (u : Time) × (s ≡ Ok u) × (a ≡ Ok cs)
step-passed (Ok u) a cs h = (u, refl, h)
step-passed (Err r) a cs h = no-counts r cs h

module _ (f : Format) (start : Time) (frames given : ℕ) (ls : List Listener) (counts : List Counts) where
  took-place : simulate_of f start frames given ls ≡ Ok counts → TookPlace f start frames given ls counts
  unfolding simulate_of
  took-place h =
      let answer = Ok (map (λ l. counts_of f (run_of f given frames start) (heard f (run_of f given frames start) l)) ls) in
      let own : List Check = (InvalidSetting, have_settings ls) ∷ (InvalidListener, are_listeners ls) ∷ [] in
      let a = step-passed (step_of f start given usual) (checks Err own answer) counts h in
      let b = all-passed Err own answer (Ok counts) (λ r e. no-counts r counts e) a.2 in
      record { after = a.0; steps = a.1; settings = b.0 0; listeners = b.0 1; are_plain = sym (ap counts_in b.1) }

  gives-counts : TookPlace f start frames given ls counts → simulate_of f start frames given ls ≡ Ok counts
  unfolding simulate_of
  gives-counts r = rw (r.steps, r.settings, r.listeners) (ap Ok (sym r.are_plain))

  -- It gives counts exactly when it takes place, and these are then the plain rule's over the damaged lists.
  pub simulates-exactly-when : (simulate_of f start frames given ls ≡ Ok counts) ↔ TookPlace f start frames given ls counts
  simulates-exactly-when = (took-place, gives-counts)

  -- Its frames are a generator's, so many as are asked for.
  pub frames-are-a-generator : TookPlace f start frames given ls counts → Generator f (run_of f given frames start) × (length (run_of f given frames start) ≡ frames)
  frames-are-a-generator r = (run-generator f given frames start r.after r.steps, length_run f given frames start r.after r.steps)

every_one : (p : Listener → Bool) (ls : List Listener) → every p ls ≡ true → (j : ℕ) → j < length ls → p (get_or ls j nobody) ≡ true
every_one p [] h j b = absurd (not-suc-le-zero b)
every_one p (l ∷ ls) h zero b = and_left (p l) (every p ls) h
every_one p (l ∷ ls) h (suc j) b = every_one p ls (and_right (p l) (every p ls) h) j (omega arith)

one-mapped : (g : Listener → Counts) (ls : List Listener) (j : ℕ) → j < length ls → get_or (map g ls) j no_counts ≡ g (get_or ls j nobody)
one-mapped g [] j b = absurd (not-suc-le-zero b)
one-mapped g (l ∷ ls) zero b = refl
one-mapped g (l ∷ ls) (suc j) b = one-mapped g ls j (omega arith)

-- Of each listener of a simulation that took place: its setting is 2 to 5, its damages are in order, and its counts are those of what it heard. So all that is said of one listener above holds of it.
pub each-listener : (f : Format) (start : Time) (frames given : ℕ) (ls : List Listener) (counts : List Counts) → TookPlace f start frames given ls counts → (j : ℕ) → j < length ls
    → let l = get_or ls j nobody in
    (is_setting l.setting ≡ true) × (are_rising l.damages ≡ true) × (have_symbols l.damages ≡ true)
    × (get_or counts j no_counts ≡ counts_of f (run_of f given frames start) (heard f (run_of f given frames start) l))
unfolding have_settings are_listeners
each-listener f start frames given ls counts r j b =
    let l = get_or ls j nobody in
    let order = and_right (leb (length ls) 8) (every (λ l. are_rising l.damages && have_symbols l.damages) ls) r.listeners in
    let own = every_one (λ l. are_rising l.damages && have_symbols l.damages) ls order j b in (
      every_one (λ l. is_setting l.setting) ls r.settings j b,
      and_left (are_rising l.damages) (have_symbols l.damages) own,
      and_right (are_rising l.damages) (have_symbols l.damages) own,
      rw r.are_plain (one-mapped (λ l. counts_of f (run_of f given frames start) (heard f (run_of f given frames start) l)) ls j b),
    )
