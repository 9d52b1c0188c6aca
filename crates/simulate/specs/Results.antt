-- The lent lists that pass 26, 3 and 27, the run from frame to frame, and the result of the call.
use Rattle.timecode.specs.Answers.{done}
use Rattle.std.specs.Prelude.{◌≡◌, refl, Bool, ◌&&◌, List, ◌++◌, map, ℕ, zero, suc, ◌+◌, ◌*◌, ◌-◌, ◌<◌, ◌≤◌, eqb, leb, ltb, get_or, length, take, drop, replicate, Result, Ok, Err}
use Rattle.std.proofs.Common.{sym, ap, subst, ◌∙◌, not-suc-le-zero, mul-le-mul, add-one, arith, leb-true, ltb-true, le-ltb, eqb-true, length-append, length-drop, pow_pos, ext_get_or, get_or-take, get_or-append-add, length-take-le, take_at}
use Rattle.std.proofs.Math.Bool.{true, false}
use Rattle.std.proofs.Math.Decide.{dec_lt}
use Rattle.std.proofs.lemmas.List.{length-map, length-replicate, get_or-replicate}
use Rattle.std.proofs.Math.ListN.{get_or-append}
use Rattle.timecode.specs.Formats.{is_symbol, known, size}
use Rattle.timecode.specs.Frames.{usual, step_of, following, total_width, written, write_leaves, Valid, Sent, elements, sent_at}
use Rattle.timecode.proofs.Laws.Back.{step-again}
use Rattle.timecode.proofs.Laws.Generators.{element-at, element-small}
use Rattle.timecode.specs.Laws.Stepping.{length_for}
use Rattle.timecode.proofs.Laws.Stepping.{went}
use Rattle.timecode.proofs.Laws.Table.{size-range}
use Rattle.timecode.proofs.Laws.Tests.{and_left, and_right}
use Rattle.timecode.proofs.Laws.Writing.{length-written, leaves, takes}
use Rattle.timecode.specs.Layout.{control, tabulate}
use Rattle.timecode.specs.Stream.{is_setting}
use Rattle.timecode.specs.declared.Format.{Format}
use Rattle.timecode.specs.declared.Refusal.{Refusal}
use Rattle.timecode.specs.declared.Refusal.TheVariants.{WrongLength, InvalidSetting, InvalidListener}
use Rattle.timecode.specs.declared.Time.{Time}
use Rattle.simulation.specs.Lent.{start_of, listener_at, listeners_of, ends_fit, are_lists, simulate_lent}
use Rattle.simulation.proofs.Run.{first-time, control-none, steps-at, length_run}
use Rattle.simulation.specs.Simulation.{run_of, Listener, heard, counts_of, have_settings, are_listeners}
use Rattle.simulation.specs.declared.Counts.{Counts}
use Rattle.receive_many.specs.ManySymbols.{SymbolsBelow}
use Rattle.stream.specs.Feeding.{fresh_reader, made_of}
use Rattle.stream.specs.declared.Reader.{Reader}
use Rattle.listeners.specs.Indexes.{every_index, rises_at, damages_fit, settings-are, listeners-are, end-within, starts-before}
use Rattle.listening.specs.FrameDamages.{RisingBetween}
use Rattle.listening.specs.Runs.{after_none, after-valid, after-few, after_frame, after-all}
use Rattle.listening.specs.declared.Listening.{Listening}
use Rattle.simulate.specs.Hearing.{no_counts, beginning, time_after, AllBegin, AllListen, HearsAll, Ground, AllAfter, Steps, CountsOf, heard_all, check_lent, result_of}

-- ---- the lists

index-each : (p : ℕ → Bool) (count i : ℕ) → every_index p count i ≡ true → (j : ℕ) → i ≤ j → j < i + count → p j ≡ true
unfolding every_index
index-each p zero i h j a b = let z : ⊥ = omega arith in absurd z
index-each p (suc count) i h j a b = go (index-each p count (suc i) (and_right (p i) (every_index p count (suc i)) h) j) (dec_lt i j)
  where
    go : (suc i ≤ j → j < suc i + count → p j ≡ true) → Dec (i < j) → p j ≡ true
    go later (yes l) = later l (omega arith)
    go later (no l) = let e : i ≡ j = omega arith in subst (λ (x : ℕ). p x ≡ true) e (and_left (p i) (every_index p count (suc i)) h)

lists-parts : (settings ends numbers symbols : List ℕ) → are_lists settings ends numbers symbols ≡ true → (length ends ≡ length settings) × (length symbols ≡ length numbers) × (ends_fit 0 ends (length numbers) ≡ true)
unfolding are_lists
lists-parts settings ends numbers symbols h =
    let a = eqb (length ends) (length settings) in
    let b = eqb (length symbols) (length numbers) in
    let c = ends_fit 0 ends (length numbers) in
    let more = and_right a (b && c) h in
    (eqb-true (length ends) (length settings) (and_left a (b && c) h), eqb-true (length symbols) (length numbers) (and_left b c more), and_right b c more)

pub lists-fit : (settings ends numbers symbols : List ℕ) → are_lists settings ends numbers symbols ≡ true → (length symbols ≡ length numbers) × (ends_fit 0 ends (length numbers) ≡ true)
lists-fit settings ends numbers symbols h = let p = lists-parts settings ends numbers symbols h in (p.1, p.2)

rising-fit : (numbers symbols : List ℕ) (from to : ℕ) → damages_fit numbers symbols from to ≡ true → RisingBetween numbers from to
unfolding damages_fit rises_at
rising-fit numbers symbols from to h i a b =
    let rises = index-each (rises_at numbers to) (to - from) from (and_left (every_index (rises_at numbers to) (to - from) from) (every_index (λ i. is_symbol (get_or symbols i 0)) (to - from) from) h) i a (omega arith) in
    let more : ltb (to - i) 2 ≡ false = le-ltb (to - i) 2 (omega arith) in
    let less : get_or numbers i 0 < get_or numbers (i + 1) 0 = ltb-true (get_or numbers i 0) (get_or numbers (i + 1) 0) (rw more at rises) in
    rw (add-one i) at less

small-fit : (numbers symbols : List ℕ) (from to : ℕ) → damages_fit numbers symbols from to ≡ true → (i : ℕ) → from ≤ i → i < to → get_or symbols i 0 ≤ 3
unfolding damages_fit
small-fit numbers symbols from to h i a b =
    leb-true (get_or symbols i 0) 3 (index-each (λ j. is_symbol (get_or symbols j 0)) (to - from) from (and_right (every_index (rises_at numbers to) (to - from) from) (every_index (λ j. is_symbol (get_or symbols j 0)) (to - from) from) h) i a (omega arith))

pub ground : (f : Format) (settings ends numbers symbols : List ℕ) → known f ≡ true → every_index (λ j. is_setting (get_or settings j 0)) (length settings - 0) 0 ≡ true → are_lists settings ends numbers symbols ≡ true
    → (leb (length ends) 8 && every_index (λ j. damages_fit numbers symbols (start_of ends j) (get_or ends j 0)) (length ends - 0) 0) ≡ true → Ground f settings ends numbers symbols
ground f settings ends numbers symbols k s l d =
    let parts = lists-parts settings ends numbers symbols l in
    let fit : ℕ → Bool = (λ j. damages_fit numbers symbols (start_of ends j) (get_or ends j 0)) in
    let few = leb-true (length ends) 8 (and_left (leb (length ends) 8) (every_index fit (length ends - 0) 0) d) in
    let each : (j : ℕ) → j < length settings → damages_fit numbers symbols (start_of ends j) (get_or ends j 0) ≡ true =
    (λ j b. index-each fit (length ends - 0) 0 (and_right (leb (length ends) 8) (every_index fit (length ends - 0) 0) d) j (omega arith) (omega (arith, parts.0))) in
    record {
      is_known = k;
      few = omega (arith, parts.0);
      as_many = parts.0;
      set = λ j b. index-each (λ j. is_setting (get_or settings j 0)) (length settings - 0) 0 s j (omega arith) (omega arith);
      start = λ j b. starts-before (length numbers) ends parts.2 j (omega (arith, parts.0));
      numbered = λ j b. end-within 0 (length numbers) ends parts.2 j (omega (arith, parts.0));
      symboled = λ j b. let e = end-within 0 (length numbers) ends parts.2 j (omega (arith, parts.0)) in omega (arith, parts.1);
      rising = λ j b. rising-fit numbers symbols (start_of ends j) (get_or ends j 0) (each j b);
      small = λ j b. small-fit numbers symbols (start_of ends j) (get_or ends j 0) (each j b);
    }

-- what the code asks is what the definition asks
pub settings-asked : (settings ends numbers symbols : List ℕ) (b : Bool) → every_index (λ j. is_setting (get_or settings j 0)) (length settings - 0) 0 ≡ b → have_settings (listeners_of settings ends numbers symbols) ≡ b
settings-asked settings ends numbers symbols b h = settings-are settings ends numbers symbols ∙ h

length-tabulate : {A : Type 0} (count i : ℕ) (g : ℕ → A) → length (tabulate count i g) ≡ count
length-tabulate zero i g = refl
length-tabulate (suc count) i g = ap suc (length-tabulate count (suc i) g)

pub listeners-asked : (settings ends numbers symbols : List ℕ) (b : Bool) → are_lists settings ends numbers symbols ≡ true
    → (leb (length ends) 8 && every_index (λ j. damages_fit numbers symbols (start_of ends j) (get_or ends j 0)) (length ends - 0) 0) ≡ b → are_listeners (listeners_of settings ends numbers symbols) ≡ b
unfolding are_listeners
listeners-asked settings ends numbers symbols b l h =
    let parts = lists-parts settings ends numbers symbols l in
    let n : length (listeners_of settings ends numbers symbols) ≡ length ends = length-tabulate (length settings) 0 (listener_at settings ends numbers symbols) ∙ sym parts.0 in
    rw (n, listeners-are settings ends numbers symbols parts.0) h

-- ---- a frame

pub valid-time : (f : Format) (given : ℕ) (t : Time) → Steps f given t → Valid f t 0
valid-time f given t s = let x = went f t given usual s.0 s.1 in record { format = x.format; time = x.from; room = pow_pos (total_width (control f)) }

pub part-written : (f : Format) (t : Time) (n : ℕ) (lent after : List ℕ) → n ≡ size f → n ≤ length lent → Valid f t 0 → after ≡ write_leaves f t 0 (take n lent)
    → (length (after ++ drop n lent) ≡ length lent) × (take n (after ++ drop n lent) ≡ written f t 0)
part-written f t n lent after is room v e =
    let front = length-take-le n lent room in
    let done = leaves f t 0 (take n lent) (takes f t 0 (take n lent) v (front ∙ is)) in
    let long : length after ≡ n = ap length (e ∙ done) ∙ length-written f t 0 ∙ sym is in
    (length-append after (drop n lent) ∙ omega (arith, length-drop n lent), take_at after (drop n lent) n long ∙ e ∙ done)

-- ---- the run

module _ (f : Format) (given frames : ℕ) (start : Time) (settings ends numbers symbols : List ℕ) where
  abbrev sent : List Sent
  sent = run_of f given frames start

  pub record RunAt (i : ℕ) (time : Time) (past : ℕ) (all : List Listening) : Type 0 where
    pub within : i ≤ frames
    pub all_after : AllAfter f sent settings ends numbers symbols i all
    pub time_is : i < frames → time ≡ (sent_at sent i).time
    pub steps : Steps f given time
    pub past_is : past ≡ size f * i

  pub run-start : Ground f settings ends numbers symbols → Steps f given start → (reader : Reader) → reader ≡ fresh_reader f 2 → (all : List Listening) → AllBegin reader settings ends (length settings) all → RunAt 0 start 0 all
  run-start g s reader fresh all b =
      record {
        within = omega arith;
        all_after = record { long = b.long; each = λ none j h. rw (b.each none j h, fresh) (after_none f sent (get_or settings j 0) numbers symbols (start_of ends j) (get_or ends j 0) (g.start j h)) };
        time_is = λ h. sym (first-time f given frames start h);
        steps = s;
        past_is = omega arith;
      }

  module _ (g : Ground f settings ends numbers symbols) (first : Steps f given start) {i : ℕ} {time : Time} {past : ℕ} {all : List Listening} (p : RunAt i time past all) (h : i < frames) (frame : List ℕ) (whole : length frame ≡ 100) (is : take (size f) frame ≡ written f time 0) where
    so-many : length sent ≡ frames
    so-many = length_run f given frames start first.0 first.1

    frame_is : take (size f) frame ≡ written f (sent_at sent i).time (sent_at sent i).control
    frame_is = is ∙ rw (p.time_is h, control-none f given frames start first.0 first.1 i) refl

    frame_small : SymbolsBelow frame (size f)
    frame_small j b =
        let e : get_or frame j 0 ≡ get_or (elements f sent) (size f * i + j) 0 = sym (get_or-take (size f) frame j 0 b) ∙ ap (λ (xs : List ℕ). get_or xs j 0) frame_is ∙ sym (element-at f sent i j (omega (arith, so-many)) b) in
        omega (arith, e, element-small f sent (size f * i + j))

    pub run-listens : frames < 4294967296 → AllListen all frame (size f) past ends numbers symbols
    run-listens few none j b =
        let c : j < length settings = omega (arith, g.as_many) in
        let a = p.all_after.each none j c in
        let l = get_or all j none in
        let v = after-valid f sent (get_or settings j 0) numbers symbols (start_of ends j) (get_or ends j 0) i l a g.is_known (g.set j c) in
        let w = after-few f sent (get_or settings j 0) numbers symbols (start_of ends j) (get_or ends j 0) i l a (omega (arith, so-many)) in
        let high : i ≤ 4294967296 = omega arith in
        let bound : size f * i ≤ 100 * 4294967296 = mul-le-mul (size-range f).1 high in
        record {
          valid = v.0;
          setting = v.1;
          few_reports = omega (arith, w.0, p.past_is);
          few_wrong = omega (arith, w.1, p.past_is);
          whole = whole;
          inside = (size-range f).1;
          elements = frame_small;
          early = omega (arith, p.past_is, bound);
          left = a.upper;
          numbered = g.numbered j c;
          symboled = g.symboled j c;
          small = λ m x y. g.small j c m (omega (arith, a.lower)) y;
        }

    time-more : (u : Time) → step_of f time given usual ≡ Ok u → (suc i < frames → u ≡ (sent_at sent (suc i)).time) × Steps f given u
    time-more u e = (λ b. let q = sym (rw (p.time_is h) at e) ∙ steps-at f given frames start first.0 first.1 i b in cc, (following f u (length_for f u given) usual, step-again f time u given usual e))

    pub run_more : {more : List Listening} → HearsAll all frame (size f) past time ends numbers symbols (length ends) more → (later : Time) → later ≡ time_after (step_of f time given usual) time → RunAt (i + 1) later (past + size f) more
    run_more {more} heard later is_later =
        let step = p.steps in
        let next : later ≡ step.0 = is_later ∙ ap (λ (s : Result Time Refusal). time_after s time) step.1 in
        let on = time-more step.0 step.1 in
        rw (add-one i, next)
        (record {
          within = omega arith;
          all_after = record {
            long = heard.long;
            each = λ none j b.
                after_frame f sent (get_or settings j 0) numbers symbols (start_of ends j) (get_or ends j 0) i (get_or all j none) (p.all_after.each none j b) (omega (arith, so-many)) (g.rising j b) frame (omega (arith, whole, (size-range f).1)) frame_is (get_or more j none)
                (rw (← p.past_is, ← p.time_is h) (heard.each none j (omega (arith, g.as_many))));
          };
          time_is = on.0;
          steps = on.1;
          past_is = omega (arith, p.past_is);
        })

  -- the same with n for the size
  module _ (n : ℕ) (e : n ≡ size f) (g : Ground f settings ends numbers symbols) (first : Steps f given start) {i : ℕ} {time : Time} {past : ℕ} {all : List Listening} (p : RunAt i time past all) where
    pub past_bound : frames < 4294967296 → i < frames → past ≤ 429496729600
    past_bound few h =
        let high : i ≤ 4294967296 = omega arith in
        let bound : size f * i ≤ 100 * 4294967296 = mul-le-mul (size-range f).1 high in
        omega (arith, p.past_is, bound)

    pub run-listens-n : i < frames → (frame : List ℕ) → (length frame ≡ 100) × (take n frame ≡ written f time 0) → frames < 4294967296 → AllListen all frame n past ends numbers symbols
    run-listens-n h frame w few = rw e (run-listens g first p h frame w.0 (rw e at w.1) few)

    pub run-more-n : i < frames → (frame : List ℕ) → (length frame ≡ 100) × (take n frame ≡ written f time 0) → (more : List Listening) → HearsAll all frame n past time ends numbers symbols (length ends) more
        → (later : Time) → later ≡ time_after (step_of f time given usual) time → RunAt (i + 1) later (past + n) more
    run-more-n h frame w more heard later is = rw e (run_more g first p h frame w.0 (rw e at w.1) (rw e at heard) later is)

  pub run_end : {i : ℕ} {time : Time} {past : ℕ} {all : List Listening} → RunAt i time past all → frames ≤ i → AllAfter f sent settings ends numbers symbols frames all
  run_end {i} {time} {past} {all} p h = let e : i ≡ frames = omega (arith, p.within) in subst (λ (x : ℕ). AllAfter f sent settings ends numbers symbols x all) e p.all_after

  -- ---- the result

  one-counted : (c : Listener → Counts) (g : ℕ → Listener) (count i : ℕ) (zeros : Counts) (j : ℕ) → j < count → get_or (map c (tabulate count i g)) j zeros ≡ c (g (i + j))
  one-counted c g zero i zeros j b = absurd (not-suc-le-zero b)
  one-counted c g (suc count) i zeros zero b = let u : i ≡ i + 0 = omega arith in ap (λ (x : ℕ). c (g x)) u
  one-counted c g (suc count) i zeros (suc j) b = let u : suc i + j ≡ i + suc j = omega arith in one-counted c g count (suc i) zeros j (omega arith) ∙ ap (λ (x : ℕ). c (g x)) u

  pub run-result : Ground f settings ends numbers symbols → Steps f given start → (all : List Listening) → AllAfter f sent settings ends numbers symbols frames all → (counts : List Counts) → CountsOf all (length settings) counts
      → Ok counts ≡ result_of (heard_all f start frames given settings ends numbers symbols)
  run-result g first all after counts of = ap (λ (cs : List Counts). Ok cs) same
    where
      ls : List Listener
      ls = listeners_of settings ends numbers symbols

      many : length (map (λ l. counts_of f sent (heard f sent l)) (listeners_of settings ends numbers symbols)) ≡ length settings
      many = length-map ls (λ l. counts_of f sent (heard f sent l)) ∙ length-tabulate (length settings) 0 (listener_at settings ends numbers symbols)

      none : Listening
      none = beginning (fresh_reader f 2) 0

      at : (j : ℕ) → j < 8 → Dec (j < length settings) → get_or counts j no_counts ≡ get_or (map (λ l. counts_of f sent (heard f sent l)) (listeners_of settings ends numbers symbols) ++ replicate (8 - length (map (λ l. counts_of f sent (heard f sent l)) (listeners_of settings ends numbers symbols))) no_counts) j no_counts
      at j b (yes h) =
          let u : 0 + j ≡ j = omega arith in
          of.each none no_counts j h
          ∙ after-all f sent (get_or settings j 0) numbers symbols (start_of ends j) (get_or ends j 0) frames (get_or all j none) (after.each none j h) g.is_known (g.set j h) (sym (length_run f given frames start first.0 first.1))
          ∙ sym (get_or-append (map (λ l. counts_of f sent (heard f sent l)) ls) (replicate (8 - length (map (λ l. counts_of f sent (heard f sent l)) ls)) no_counts) no_counts j (omega (arith, many)) ∙ one-counted (λ l. counts_of f sent (heard f sent l)) (listener_at settings ends numbers symbols) (length settings) 0 no_counts j h ∙ rw u refl)
      at j b (no h) =
          let cs = map (λ l. counts_of f sent (heard f sent l)) ls in
          let u : j ≡ length cs + (j - length cs) = omega (arith, many) in
          of.left no_counts j (omega arith) b
          ∙ sym (ap (λ (i : ℕ). get_or (cs ++ replicate (8 - length cs) no_counts) i no_counts) u ∙ get_or-append-add cs (replicate (8 - length cs) no_counts) (j - length cs) no_counts ∙ get_or-replicate (8 - length cs) (j - length cs) no_counts no_counts (omega (arith, many)))

      same : counts ≡ map (λ l. counts_of f sent (heard f sent l)) (listeners_of settings ends numbers symbols) ++ replicate (8 - length (map (λ l. counts_of f sent (heard f sent l)) (listeners_of settings ends numbers symbols))) no_counts
      same =
          let cs = map (λ l. counts_of f sent (heard f sent l)) ls in
          let n : length (cs ++ replicate (8 - length cs) no_counts) ≡ 8 = length-append cs (replicate (8 - length cs) no_counts) ∙ omega (arith, many, length-replicate {A = Counts} (8 - length cs) no_counts, g.few) in
          ext_get_or no_counts counts (cs ++ replicate (8 - length cs) no_counts) (of.long ∙ sym n) (λ j b. at j (omega (arith, of.long)) (dec_lt j (length settings)))

-- ---- a fresh reader of a known format

pub made-fresh : (f : Format) (r : Reader) → known f ≡ true → made_of f 2 ≡ Ok r → r ≡ fresh_reader f 2
unfolding made_of is_setting
made-fresh f r k h = let e : Ok (fresh_reader f 2) ≡ Ok r = rw k at h in cc

pub made-never-refused : {P : Type 0} (f : Format) (x : Refusal) → known f ≡ true → made_of f 2 ≡ Err x → P
unfolding made_of is_setting
made-never-refused f x k h = let e : Ok (fresh_reader f 2) ≡ Err x = rw k at h in let n : ◌≡◌ {A = ℕ} 0 1 = cc in let z : ⊥ = omega arith in absurd z

-- ---- the checks of the call

pub lists-asked : (settings ends numbers symbols : List ℕ) (b : Bool) → (eqb (length ends) (length settings) && (eqb (length symbols) (length numbers) && ends_fit 0 ends (length numbers))) ≡ b → are_lists settings ends numbers symbols ≡ b
unfolding are_lists
lists-asked settings ends numbers symbols b h = h

module _ (f : Format) (start : Time) (frames given : ℕ) (settings ends numbers symbols : List ℕ) where
  abbrev Settings : Bool → Type 0
  Settings b = every_index (λ j. is_setting (get_or settings j 0)) (length settings - 0) 0 ≡ b

  abbrev Damages : Bool → Type 0
  Damages b = (leb (length ends) 8 && every_index (λ j. damages_fit numbers symbols (start_of ends j) (get_or ends j 0)) (length ends - 0) 0) ≡ b

  pub lent-setting : Settings false → check_lent f start frames given settings ends numbers symbols ≡ Err InvalidSetting
  unfolding check_lent
  lent-setting s = rw (settings-asked settings ends numbers symbols false s)

  pub lent-lists : Settings true → are_lists settings ends numbers symbols ≡ false → check_lent f start frames given settings ends numbers symbols ≡ Err WrongLength
  unfolding check_lent
  lent-lists s l = rw (settings-asked settings ends numbers symbols true s, l)

  pub lent-listeners : Settings true → are_lists settings ends numbers symbols ≡ true → Damages false → check_lent f start frames given settings ends numbers symbols ≡ Err InvalidListener
  unfolding check_lent
  lent-listeners s l d = rw (settings-asked settings ends numbers symbols true s, l, listeners-asked settings ends numbers symbols false l d)

  pub lent-heard : Settings true → are_lists settings ends numbers symbols ≡ true → Damages true → check_lent f start frames given settings ends numbers symbols ≡ heard_all f start frames given settings ends numbers symbols
  unfolding check_lent
  lent-heard s l d = rw (settings-asked settings ends numbers symbols true s, l, listeners-asked settings ends numbers symbols true l d)

  pub lent-stepped : (u : Time) → step_of f start given usual ≡ Ok u → simulate_lent f start frames given settings ends numbers symbols ≡ check_lent f start frames given settings ends numbers symbols
  unfolding simulate_lent check_lent
  lent-stepped u h = rw h

  pub lent-refused : (x : Refusal) → step_of f start given usual ≡ Err x → simulate_lent f start frames given settings ends numbers symbols ≡ Err x
  unfolding simulate_lent
  lent-refused x h = rw h

pub stepped-known : (f : Format) (start : Time) (given : ℕ) (u : Time) → step_of f start given usual ≡ Ok u → (known f ≡ true) × Steps f given start
stepped-known f start given u h = ((went f start given usual u h).format, (u, h))
