-- The listeners of a simulation before the first frame and after each; and the result of the call.
use Rattle.timecode.specs.declared.Refusal.{Refusal}
use Rattle.std.specs.Prelude.{◌≡◌, refl, true, List, [], ◌∷◌, ◌++◌, map, ℕ, zero, suc, ◌+◌, ◌-◌, ◌<◌, ◌≤◌, get_or, length, set, replicate, Result, Ok, Err}
use Rattle.std.proofs.Common.{ap, subst, ◌∙◌, not-suc-le-zero, arith, length-set, get_or-set_same, get_or-set_other}
use Rattle.std.proofs.Math.Decide.{ℕ_discrete}
use Rattle.std.proofs.lemmas.List.{length-replicate, get_or-replicate}
use Rattle.timecode.specs.Answers.{checks}
use Rattle.timecode.specs.Formats.{known}
use Rattle.timecode.specs.Frames.{usual, step_of, Sent}
use Rattle.timecode.specs.Stream.{is_setting}
use Rattle.timecode.specs.declared.Format.{Format}
use Rattle.timecode.specs.declared.Time.{Time}
use Rattle.simulation.specs.Lent.{start_of, listeners_of, list_checks}
use Rattle.simulation.specs.Simulation.{run_of, heard, counts_of, Simulated}
use Rattle.simulation.specs.declared.Counts.{Counts}
use Rattle.stream.specs.declared.Reader.{Reader}
use Rattle.listening.specs.FrameDamages.{RisingBetween}
use Rattle.listening.specs.Frames.{Listens, HearsFrame}
use Rattle.listening.specs.Runs.{AfterFrames}
use Rattle.listening.specs.declared.Listening.{Listening}

abbrev pub no_counts : Counts
no_counts = record { first = 0; reports = 0; wrong = 0 }

abbrev pub with_setting : Reader → ℕ → Reader
with_setting r k = record { format = r.format; setting = k; place = r.place; received = r.received; time = r.time; control = r.control }

abbrev pub beginning : Reader → ℕ → Listening
beginning r next = record { reader = r; counts = no_counts; next = next }

-- the time of the next frame; where Step refuses, which it never does here, the same
abbrev pub time_after : Result Time Refusal → Time → Time
time_after (Ok u) t = u
time_after (Err r) t = t

-- the first `count` listeners have begun
pub record AllBegin (r : Reader) (settings ends : List ℕ) (count : ℕ) (all : List Listening) : Type 0 where
  pub long : length all ≡ 8
  pub each : (none : Listening) (j : ℕ) → j < count → get_or all j none ≡ beginning (with_setting r (get_or settings j 0)) (start_of ends j)

-- each listener can hear the frame
abbrev pub AllListen : List Listening → List ℕ → ℕ → ℕ → List ℕ → List ℕ → List ℕ → Type 0
AllListen listeners frame n past ends numbers symbols = (none : Listening) (j : ℕ) → j < length ends → Listens (get_or listeners j none) frame n past numbers symbols (get_or ends j 0)

-- the first `count` listeners have heard the frame, and the others are as they were
pub record HearsAll (listeners : List Listening) (frame : List ℕ) (n past : ℕ) (sent : Time) (ends numbers symbols : List ℕ) (count : ℕ) (all : List Listening) : Type 0 where
  pub long : length all ≡ 8
  pub each : (none : Listening) (j : ℕ) → j < count → HearsFrame (get_or listeners j none) frame n past sent numbers symbols (get_or ends j 0) (get_or all j none)
  pub left : (none : Listening) (j : ℕ) → count ≤ j → get_or all j none ≡ get_or listeners j none

-- what is known of the lent lists that pass 26, 3 and 27
pub record Ground (f : Format) (settings ends numbers symbols : List ℕ) : Type 0 where
  pub is_known : known f ≡ true
  pub few : length settings ≤ 8
  pub as_many : length ends ≡ length settings
  pub set : (j : ℕ) → j < length settings → is_setting (get_or settings j 0) ≡ true
  pub start : (j : ℕ) → j < length settings → start_of ends j ≤ get_or ends j 0
  pub numbered : (j : ℕ) → j < length settings → get_or ends j 0 ≤ length numbers
  pub symboled : (j : ℕ) → j < length settings → get_or ends j 0 ≤ length symbols
  pub rising : (j : ℕ) → j < length settings → RisingBetween numbers (start_of ends j) (get_or ends j 0)
  pub small : (j : ℕ) → j < length settings → (i : ℕ) → start_of ends j ≤ i → i < get_or ends j 0 → get_or symbols i 0 ≤ 3

-- each listener after i frames
pub record AllAfter (f : Format) (sent : List Sent) (settings ends numbers symbols : List ℕ) (i : ℕ) (all : List Listening) : Type 0 where
  pub long : length all ≡ 8
  pub each : (none : Listening) (j : ℕ) → j < length settings → AfterFrames f sent (get_or settings j 0) numbers symbols (start_of ends j) (get_or ends j 0) i (get_or all j none)

-- the counts of the first `count` listeners, and zeros
pub record CountsOf (all : List Listening) (count : ℕ) (counts : List Counts) : Type 0 where
  pub long : length counts ≡ 8
  pub each : (none : Listening) (zeros : Counts) (j : ℕ) → j < count → get_or counts j zeros ≡ (get_or all j none).counts
  pub left : (zeros : Counts) (j : ℕ) → count ≤ j → j < 8 → get_or counts j zeros ≡ no_counts

-- Step takes the time, with that length and a usual day
abbrev pub Steps : Format → ℕ → Time → Type 0
Steps f given t = (u : Time) × (step_of f t given usual ≡ Ok u)

-- the answer of the call where the lists pass 26, 3 and 27, and where Step takes the start
abbrev pub heard_all : Format → Time → ℕ → ℕ → List ℕ → List ℕ → List ℕ → List ℕ → Simulated
heard_all f start frames given settings ends numbers symbols = Ok (map (λ l. counts_of f (run_of f given frames start) (heard f (run_of f given frames start) l)) (listeners_of settings ends numbers symbols))

unfoldable pub check_lent : Format → Time → ℕ → ℕ → List ℕ → List ℕ → List ℕ → List ℕ → Simulated
check_lent f start frames given settings ends numbers symbols =
    checks Err (list_checks settings ends numbers symbols) (heard_all f start frames given settings ends numbers symbols)

-- the result of an answer: the counts, and zeros past the last listener or where it was refused
abbrev pub result_of : Simulated → Simulated
result_of (Ok cs) = Ok (cs ++ replicate (8 - length cs) no_counts)
result_of (Err r) = Err r

-- ---- laws

same-default : {A : Type 0} (xs : List A) (j : ℕ) (a b : A) → j < length xs → get_or xs j a ≡ get_or xs j b
same-default [] j a b h = absurd (not-suc-le-zero h)
same-default (x ∷ xs) zero a b h = refl
same-default (x ∷ xs) (suc j) a b h = same-default xs j a b (omega arith)

pub begin-none : (r : Reader) (settings ends : List ℕ) (all : List Listening) → length all ≡ 8 → AllBegin r settings ends 0 all
begin-none r settings ends all h = record { long = h; each = λ none j b. absurd (not-suc-le-zero b) }

pub begin-more : {r : Reader} {settings ends : List ℕ} {j : ℕ} {all : List Listening} → AllBegin r settings ends j all → j < 8 → (from : ℕ) → from ≡ start_of ends j → (q : Reader) → q ≡ with_setting r (get_or settings j 0)
    → (x : Listening) → x ≡ beginning q from → AllBegin r settings ends (j + 1) (set all j x)
begin-more {r} {settings} {ends} {j} {all} p h from start q reader x is =
    record { long = length-set all j x ∙ p.long; each = λ none m b. go none m b (ℕ_discrete m j) }
  where
    go : (none : Listening) (m : ℕ) → m < j + 1 → Dec (m ≡ j) → get_or (set all j x) m none ≡ beginning (with_setting r (get_or settings m 0)) (start_of ends m)
    go none m b (yes e) = rw e (get_or-set_same all j x none (omega (arith, p.long)) ∙ is ∙ rw (reader, start) refl)
    go none m b (no e) = get_or-set_other all j m x none e ∙ p.each none m (omega arith)

pub hears-none : {listeners : List Listening} {frame : List ℕ} {n past : ℕ} {sent : Time} {ends numbers symbols : List ℕ} → length listeners ≡ 8 → HearsAll listeners frame n past sent ends numbers symbols 0 listeners
hears-none h = record { long = h; each = λ none j b. absurd (not-suc-le-zero b); left = λ none j b. refl }

pub hears-more : {listeners : List Listening} {frame : List ℕ} {n past : ℕ} {sent : Time} {ends numbers symbols : List ℕ} {j : ℕ} {all : List Listening} → HearsAll listeners frame n past sent ends numbers symbols j all → length listeners ≡ 8 → j < 8
    → (d : Listening) (x : Listening) → HearsFrame (get_or all j d) frame n past sent numbers symbols (get_or ends j 0) x → HearsAll listeners frame n past sent ends numbers symbols (j + 1) (set all j x)
hears-more {listeners} {frame} {n} {past} {sent} {ends} {numbers} {symbols} {j} {all} p l h d x heard =
    record { long = length-set all j x ∙ p.long; each = λ none m b. go none m b (ℕ_discrete m j); left = λ none m b. get_or-set_other all j m x none (λ e. omega arith) ∙ p.left none m (omega arith) }
  where
    go : (none : Listening) (m : ℕ) → m < j + 1 → Dec (m ≡ j) → HearsFrame (get_or listeners m none) frame n past sent numbers symbols (get_or ends m 0) (get_or (set all j x) m none)
    go none m b (yes e) =
        let same : get_or all j d ≡ get_or listeners j none = p.left d j (omega arith) ∙ same-default listeners j d none (omega arith) in
        rw e (rw (get_or-set_same all j x none (omega (arith, p.long)), ← same) heard)
    go none m b (no e) = rw (get_or-set_other all j m x none e) (p.each none m (omega arith))

pub counts-none : (all : List Listening) (counts : List Counts) → length counts ≡ 8 → ((zeros : Counts) (j : ℕ) → j < 8 → get_or counts j zeros ≡ no_counts) → CountsOf all 0 counts
counts-none all counts h z = record { long = h; each = λ none zeros j b. absurd (not-suc-le-zero b); left = λ zeros j a b. z zeros j b }

pub counts-more : {all : List Listening} {j : ℕ} {counts : List Counts} → CountsOf all j counts → length all ≡ 8 → j < 8 → (d : Listening) → CountsOf all (j + 1) (set counts j (get_or all j d).counts)
counts-more {all} {j} {counts} p l h d =
    record { long = length-set counts j x ∙ p.long; each = λ none zeros m b. go none zeros m b (ℕ_discrete m j); left = λ zeros m a b. get_or-set_other counts j m x zeros (λ e. omega arith) ∙ p.left zeros m (omega arith) b }
  where
    x : Counts
    x = (get_or all j d).counts

    go : (none : Listening) (zeros : Counts) (m : ℕ) → m < j + 1 → Dec (m ≡ j) → get_or (set counts j x) m zeros ≡ (get_or all m none).counts
    go none zeros m b (yes e) = rw e (get_or-set_same counts j x zeros (omega (arith, p.long)) ∙ ap (λ (y : Listening). y.counts) (same-default all j d none (omega arith)))
    go none zeros m b (no e) = get_or-set_other counts j m x zeros e ∙ p.each none zeros m (omega arith)

pub begin-all : {r : Reader} {settings ends : List ℕ} {j count : ℕ} {all : List Listening} → AllBegin r settings ends j all → j ≡ count → AllBegin r settings ends count all
begin-all {r} {settings} {ends} {j} {count} {all} p e = subst (λ (k : ℕ). AllBegin r settings ends k all) e p

pub hears-all : {listeners : List Listening} {frame : List ℕ} {n past : ℕ} {sent : Time} {ends numbers symbols : List ℕ} {j count : ℕ} {all : List Listening} → HearsAll listeners frame n past sent ends numbers symbols j all → j ≡ count → HearsAll listeners frame n past sent ends numbers symbols count all
hears-all {listeners} {frame} {n} {past} {sent} {ends} {numbers} {symbols} {j} {count} {all} p e = subst (λ (k : ℕ). HearsAll listeners frame n past sent ends numbers symbols k all) e p

pub hears-listens : {listeners : List Listening} {frame : List ℕ} {n past : ℕ} {sent : Time} {ends numbers symbols : List ℕ} {j : ℕ} {all : List Listening} → HearsAll listeners frame n past sent ends numbers symbols j all → AllListen listeners frame n past ends numbers symbols → j < length ends
    → (d : Listening) → Listens (get_or all j d) frame n past numbers symbols (get_or ends j 0)
hears-listens {j = j} p a b d = rw (p.left d j (omega arith)) (a d j b)

pub counts_all : {all : List Listening} {j count : ℕ} {counts : List Counts} → CountsOf all j counts → j ≡ count → CountsOf all count counts
counts_all {all} {j} {count} {counts} p e = subst (λ (k : ℕ). CountsOf all k counts) e p

pub counts_start : (all : List Listening) (x : Counts) → x ≡ no_counts → CountsOf all 0 (replicate 8 x)
counts_start all x is = counts-none all (replicate 8 x) (length-replicate 8 x) (λ zeros j b. get_or-replicate 8 j x zeros b ∙ is)
