-- A listener after each frame of a run: its reader and its counts are those of the elements that it heard so far, so after the last frame it counted what the simulation's definition says.
use Rattle.std.specs.Prelude.{◌≡◌, Bool, true, false, not, ◌&&◌, eqb, leb, ltb, get_or, take, drop}
use Rattle.std.proofs.Math.Path.{refl, ap}
use Rattle.std.proofs.Common.{sym, ◌∙◌, add-zero, eqb-true, eq-eqb, ne_eqb, lt-ltb, le-leb, length-drop, ext_get_or, get_or-take, get_or-drop, take-add, take_all}
use Rattle.std.proofs.Math.Bool.{cond}
use mathlib.Core.List.{List, [], ◌∷◌, ◌++◌, append_assoc, append-nil}
use Prim.Native.Nat.{ℕ, suc, ◌+◌, ◌*◌, ◌-◌, ◌/◌, ◌%◌, ◌<◌, ◌≤◌}
use Rattle.std.proofs.Math.Nat.{mul-le-mul_left, lt_of_mul-lt-mul_left, div-add-mod, mul-mod_right, div-eq_of_eq-mul_right}
use Rattle.std.proofs.Math.Numerals.{add-one}
use native.Mathlib.Omega.{arith}
use Rattle.std.proofs.Math.Decide.{ℕ_discrete, dec_lt}
use Rattle.std.proofs.Math.ListN.{length, length-append}
use Rattle.std.proofs.Math.Seq.{length-take-le}
use Rattle.timecode.specs.Formats.{known, size}
use Rattle.timecode.specs.Frames.{same_time, written, Sent, elements, sent_at}
use Rattle.timecode.proofs.Laws.Generators.{length-elements, element-at}
use Rattle.timecode.proofs.Laws.Marks.{size-positive}
use Rattle.timecode.proofs.Laws.Tests.{by-test}
use Rattle.timecode.specs.Stream.{is_setting}
use Rattle.timecode.specs.declared.Answer.{Answer}
use Rattle.timecode.specs.declared.Answer.TheVariants.{Quiet, Report}
use Rattle.timecode.specs.declared.Format.{Format}
use Rattle.timecode.specs.declared.Time.{Time}
use Rattle.simulation.proofs.Damages.{length-damaged}
use Rattle.simulation.specs.Lent.{damages_between}
use Rattle.simulation.specs.Simulation.{damaged, is_report, first_report, report_count, ends_frame, is_false, false_count, Listener, heard, counts_of}
use Rattle.simulation.specs.declared.Counts.{Counts}
use Rattle.stream.proofs.FeedLists.{feed-answers-append, reader-append, length-feed-answers}
use Rattle.stream.specs.Feeding.{fresh_reader, is_valid}
use Rattle.stream.specs.Refinement.{answers, reader_after}
use Rattle.stream.proofs.Refinement.{answers-are-plain, fed-is-valid, fed-has-setting}
use Rattle.listening.specs.Counted.{with_report, count_answer, count_all}
use Rattle.listening.specs.FrameDamages.{RisingBetween, heard-part}
use Rattle.listening.specs.Frames.{HearsFrame}
use Rattle.listening.specs.declared.Listening.{Listening}

-- ---- one answer more

first_more : (past : ℕ) (xs : List Answer) (a : Answer) → first_report past (xs ++ (a ∷ [])) ≡ cond (eqb (first_report past xs) 0) (cond (is_report a) (suc (past + length xs)) 0) (first_report past xs)
unfolding first_report
first_more past [] a = rw (add-zero past) refl
first_more past (x ∷ xs) a =
    let u : suc past + length xs ≡ past + suc (length xs) = omega arith in
    by-test (is_report x) (λ y. rw (y, ne_eqb (suc past) 0 (λ e. omega arith)) refl) (λ n. rw n (rw u at (first_more (suc past) xs a)))

count-more : (xs : List Answer) (a : Answer) → report_count (xs ++ (a ∷ [])) ≡ report_count xs + cond (is_report a) 1 0
unfolding report_count
count-more [] a = by-test (is_report a) (λ y. rw y refl) (λ n. rw n refl)
count-more (x ∷ xs) a =
    let later = count-more xs a in
    by-test (is_report x) (λ y. rw y (omega arith)) (λ n. rw n later)

false-more : (f : Format) (sent : List Sent) (past : ℕ) (xs : List Answer) (a : Answer) → false_count f sent past (xs ++ (a ∷ [])) ≡ false_count f sent past xs + cond (is_false f sent (suc (past + length xs)) a) 1 0
unfolding false_count
false-more f sent past [] a = rw (add-zero past) (by-test (is_false f sent (suc past) a) (λ y. rw y refl) (λ n. rw n refl))
false-more f sent past (x ∷ xs) a =
    let u : suc past + length xs ≡ past + suc (length xs) = omega arith in
    let later = rw u at (false-more f sent (suc past) xs a) in
    by-test (is_false f sent (suc past) x) (λ y. rw y (omega arith)) (λ n. rw n later)

-- an element of frame i: a frame ends with it exactly if it is that frame's last
ends_there : (f : Format) (sent : List Sent) (i number : ℕ) (t : Time) → i < length sent → size f * i < number → number ≤ size f * suc i
    → ends_frame f sent number t ≡ (eqb number (size f * suc i) && same_time t (sent_at sent i).time)
unfolding ends_frame
ends_there f sent i number t b low high = go (ℕ_discrete number (size f * suc i))
  where
    n : 0 < size f
    n = size-positive f

    inside : size f * suc i ≤ size f * length sent
    inside = mul-le-mul_left (size f) b

    below : Dec (number < size f * suc i) → (number ≡ size f * suc i → ⊥) → number < size f * suc i
    below (yes x) q = x
    below (no x) q = absurd (q (omega arith))

    go : Dec (number ≡ size f * suc i) → (eqb (number % size f) 0 && (ltb 0 number && (leb number (length (elements f sent)) && same_time t (sent_at sent (number / size f - 1)).time))) ≡ (eqb number (size f * suc i) && same_time t (sent_at sent i).time)
    go (yes q) =
        let m : number % size f ≡ 0 = ap (λ (z : ℕ). z % size f) q ∙ mul-mod_right (size f) (suc i) in
        let d : number / size f - 1 ≡ i = omega (arith, div-eq_of_eq-mul_right {n = size f} {m = number} {k = suc i} n q) in
        rw (m, d, lt-ltb 0 number (omega arith), le-leb number (length (elements f sent)) (omega (arith, length-elements f sent, inside)), eq-eqb number (size f * suc i) q) refl
    go (no q) =
        let less : number < size f * suc i = below (dec_lt number (size f * suc i)) q in
        let z : (number % size f ≡ 0 → ⊥) =
        (λ e.
        let p : size f * (number / size f) ≡ number = omega (arith, div-add-mod number (size f)) in
        let x : i < number / size f = lt_of_mul-lt-mul_left (size f) (omega arith) in
        let y : number / size f < suc i = lt_of_mul-lt-mul_left (size f) (omega arith) in
        let no : ⊥ = omega arith in no) in
        rw (ne_eqb (number % size f) 0 z, ne_eqb number (size f * suc i) q) refl

same-counts : {a d b e c g : ℕ} → a ≡ d → b ≡ e → c ≡ g → ◌≡◌ {A = Counts} (record { first = a; reports = b; wrong = c }) (record { first = d; reports = e; wrong = g })
same-counts p q r = rw (p, q, r) refl

none_first : (first : ℕ) → cond (eqb first 0) 0 first ≡ first
none_first first = by-test (eqb first 0) (λ y. rw y (sym (eqb-true first 0 y))) (λ n. rw n refl)

wrong-more : (right : Bool) (wrong : ℕ) → wrong + cond (not right) 1 0 ≡ cond right wrong (wrong + 1)
wrong-more true wrong = add-zero wrong
wrong-more false wrong = refl

module _ (f : Format) (sent : List Sent) (i : ℕ) (b : i < length sent) where
  abbrev end : ℕ
  end = size f * suc i

  abbrev time : Time
  time = (sent_at sent i).time

  counts-more : (xs : List Answer) (a : Answer) → size f * i ≤ length xs → length xs < size f * suc i → counts_of f sent (xs ++ (a ∷ [])) ≡ count_answer end time (counts_of f sent xs) (suc (length xs)) a
  unfolding counts_of count_answer with_report is_false
  counts-more xs a low high =
      let u : 0 + length xs ≡ length xs = omega arith in
      rw (first_more 0 xs a, count-more xs a, false-more f sent 0 xs a, u) (go a)
    where
      go : (a : Answer)
          → record { first = cond (eqb (first_report 0 xs) 0) (cond (is_report a) (suc (length xs)) 0) (first_report 0 xs); reports = report_count xs + cond (is_report a) 1 0; wrong = false_count f sent 0 xs + cond (is_false f sent (suc (length xs)) a) 1 0 }
          ≡ count_answer end time (record { first = first_report 0 xs; reports = report_count xs; wrong = false_count f sent 0 xs }) (suc (length xs)) a
      go Quiet = same-counts (none_first (first_report 0 xs)) (add-zero (report_count xs)) (add-zero (false_count f sent 0 xs))
      go (Answer.Refused r) = same-counts (none_first (first_report 0 xs)) (add-zero (report_count xs)) (add-zero (false_count f sent 0 xs))
      go (Report t w) = rw (ends_there f sent i (suc (length xs)) t b (omega arith) (omega arith)) (same-counts refl refl (wrong-more (eqb (suc (length xs)) (size f * suc i) && same_time t (sent_at sent i).time) (false_count f sent 0 xs)))

  counts-on : (xs ys : List Answer) → size f * i ≤ length xs → length xs + length ys ≤ size f * suc i → counts_of f sent (xs ++ ys) ≡ count_all end time (counts_of f sent xs) (length xs) ys
  unfolding count_all
  counts-on xs [] low high = ap (counts_of f sent) (append-nil xs)
  counts-on xs (y ∷ ys) low high =
      let n : length (xs ++ (y ∷ [])) ≡ suc (length xs) = length-append xs (y ∷ []) ∙ add-one (length xs) in
      ap (counts_of f sent) (sym (append_assoc xs (y ∷ []) ys))
      ∙ counts-on (xs ++ (y ∷ [])) ys (omega (arith, n)) (omega (arith, n))
      ∙ rw (n, counts-more xs y low (omega arith)) refl

count-few : (xs : List Answer) → report_count xs ≤ length xs
unfolding report_count
count-few [] = omega arith
count-few (x ∷ xs) = by-test (is_report x) (λ y. rw y (omega (arith, count-few xs))) (λ n. rw n (omega (arith, count-few xs)))

false-few : (f : Format) (sent : List Sent) (past : ℕ) (xs : List Answer) → false_count f sent past xs ≤ length xs
unfolding false_count
false-few f sent past [] = omega arith
false-few f sent past (x ∷ xs) = by-test (is_false f sent (suc past) x) (λ y. rw y (omega (arith, false-few f sent (suc past) xs))) (λ n. rw n (omega (arith, false-few f sent (suc past) xs)))

-- ---- a listener after i frames; its damages are those from one index up to another

module _ (f : Format) (sent : List Sent) (k : ℕ) (numbers symbols : List ℕ) (from to : ℕ) where
  abbrev pub listener : Listener
  listener = record { setting = k; damages = damages_between numbers symbols from to }

  abbrev run : List ℕ
  run = damaged (damages_between numbers symbols from to) (elements f sent)

  pub record AfterFrames (i : ℕ) (l : Listening) : Type 0 where
    pub reader_is : l.reader ≡ reader_after (fresh_reader f k) (take (size f * i) run)
    pub counts_are : l.counts ≡ counts_of f sent (answers (fresh_reader f k) (take (size f * i) run))
    pub lower : from ≤ l.next
    pub upper : l.next ≤ to
    pub passed : (j : ℕ) → from ≤ j → j < l.next → get_or numbers j 0 ≤ size f * i

  pub after_none : from ≤ to → AfterFrames 0 (record { reader = fresh_reader f k; counts = record { first = 0; reports = 0; wrong = 0 }; next = from })
  unfolding reader_after answers counts_of first_report report_count false_count
  after_none b =
      let u : size f * 0 ≡ 0 = omega arith in
      record { reader_is = rw u refl; counts_are = rw u refl; lower = omega arith; upper = b; passed = λ j a c. let z : ⊥ = omega arith in absurd z }

  run_long : length run ≡ size f * length sent
  run_long = length-damaged (damages_between numbers symbols from to) (elements f sent) ∙ length-elements f sent

  module _ (i : ℕ) (l : Listening) (after : AfterFrames i l) where
    pub after-valid : known f ≡ true → is_setting k ≡ true → (is_valid l.reader ≡ true) × (is_setting l.reader.setting ≡ true)
    after-valid is_Known set = (rw after.reader_is (fed-is-valid f k is_Known set (take (size f * i) run)), rw after.reader_is (fed-has-setting f k is_Known set (take (size f * i) run)))

    pub after-few : i ≤ length sent → (l.counts.reports ≤ size f * i) × (l.counts.wrong ≤ size f * i)
    unfolding counts_of
    after-few b =
        let heard-so-far = answers (fresh_reader f k) (take (size f * i) run) in
        let n : length heard-so-far ≡ size f * i = length-feed-answers (fresh_reader f k) (take (size f * i) run) ∙ length-take-le (size f * i) run (omega (arith, run_long, mul-le-mul_left (size f) b)) in
        rw after.counts_are (omega (arith, count-few heard-so-far, n), omega (arith, false-few f sent 0 heard-so-far, n))

    -- one frame more
    pub after_frame : i < length sent → RisingBetween numbers from to → (frame : List ℕ) → size f ≤ length frame → take (size f) frame ≡ written f (sent_at sent i).time (sent_at sent i).control
        → (r : Listening) → HearsFrame l frame (size f) (size f * i) (sent_at sent i).time numbers symbols to r → AfterFrames (suc i) r
    after_frame b rising frame long is r h =
        record {
          reader_is = h.reader_is ∙ rw (after.reader_is, part) (sym (reader-append (fresh_reader f k) (take (size f * i) run) (take (size f) (drop (size f * i) run))) ∙ ap (reader_after (fresh_reader f k)) (sym one_more));
          counts_are = h.counts_are ∙ rw (after.counts_are, after.reader_is, part) (sym both);
          lower = omega (arith, after.lower, h.put.lower);
          upper = h.put.upper;
          passed = λ j a c. next-passed j a c (dec_lt j l.next);
        }
      where
        inside : size f * i + size f ≤ length run
        inside = omega (arith, run_long, mul-le-mul_left (size f) b)

        one_more : take (size f * suc i) run ≡ take (size f * i) run ++ take (size f) (drop (size f * i) run)
        one_more = let u : size f * suc i ≡ size f * i + size f = omega arith in ap (λ (c : ℕ). take c run) u ∙ take-add (size f * i) (size f) run

        frame-part : (j : ℕ) → j < size f → get_or frame j 0 ≡ get_or (elements f sent) (size f * i + j) 0
        frame-part j c = sym (get_or-take (size f) frame j 0 c) ∙ ap (λ (xs : List ℕ). get_or xs j 0) is ∙ sym (element-at f sent i j b c)

        heard-is : (j : ℕ) → j < size f → get_or h.heard j 0 ≡ get_or run (size f * i + j) 0
        heard-is = heard-part (elements f sent) rising after.lower after.passed h.put h.behind long (omega (arith, length-elements f sent, mul-le-mul_left (size f) b)) frame-part

        part : take (size f) h.heard ≡ take (size f) (drop (size f * i) run)
        part =
            let n : length (take (size f) h.heard) ≡ size f = length-take-le (size f) h.heard (omega (arith, h.put.long)) in
            let m : length (take (size f) (drop (size f * i) run)) ≡ size f = length-take-le (size f) (drop (size f * i) run) (omega (arith, inside, length-drop (size f * i) run)) in
            ext_get_or 0 (take (size f) h.heard) (take (size f) (drop (size f * i) run)) (n ∙ sym m)
            (λ j c. let d : j < size f = omega (arith, n) in get_or-take (size f) h.heard j 0 d ∙ heard-is j d ∙ sym (get_or-take (size f) (drop (size f * i) run) j 0 d ∙ get_or-drop (size f * i) run j 0))

        first-heard : List Answer
        first-heard = answers (fresh_reader f k) (take (size f * i) run)

        so-many : length (answers (fresh_reader f k) (take (size f * i) run)) ≡ size f * i
        so-many = length-feed-answers (fresh_reader f k) (take (size f * i) run) ∙ length-take-le (size f * i) run (omega (arith, inside))

        both : counts_of f sent (answers (fresh_reader f k) (take (size f * suc i) run))
            ≡ count_all (size f * i + size f) (sent_at sent i).time (counts_of f sent (answers (fresh_reader f k) (take (size f * i) run))) (size f * i) (answers (reader_after (fresh_reader f k) (take (size f * i) run)) (take (size f) (drop (size f * i) run)))
        both =
            let r0 = fresh_reader f k in
            let more = answers (reader_after r0 (take (size f * i) run)) (take (size f) (drop (size f * i) run)) in
            let n : length more ≡ size f = length-feed-answers (reader_after r0 (take (size f * i) run)) (take (size f) (drop (size f * i) run)) ∙ length-take-le (size f) (drop (size f * i) run) (omega (arith, inside, length-drop (size f * i) run)) in
            let u : size f * suc i ≡ size f * i + size f = omega arith in
            ap (λ (xs : List ℕ). counts_of f sent (answers r0 xs)) one_more
            ∙ ap (counts_of f sent) (feed-answers-append r0 (take (size f * i) run) (take (size f) (drop (size f * i) run)))
            ∙ counts-on f sent i b (answers r0 (take (size f * i) run)) more (omega (arith, so-many)) (omega (arith, so-many, n))
            ∙ rw (so-many, u) refl

        next-passed : (j : ℕ) → from ≤ j → j < r.next → Dec (j < l.next) → get_or numbers j 0 ≤ size f * suc i
        next-passed j a c (yes q) = let u : size f * i ≤ size f * suc i = omega arith in omega (arith, after.passed j a q)
        next-passed j a c (no q) = let u : size f * suc i ≡ size f * i + size f = omega arith in omega (arith, h.put.passed j (omega arith) c)

    -- after the last frame it counted what the definition says
    pub after-all : known f ≡ true → is_setting k ≡ true → i ≡ length sent → l.counts ≡ counts_of f sent (heard f sent listener)
    unfolding heard
    after-all is_Known set all =
        after.counts_are
        ∙ ap (λ (xs : List ℕ). counts_of f sent (answers (fresh_reader f k) xs)) (take_all (size f * i) run (omega (arith, run_long, ap (λ (c : ℕ). size f * c) all)))
        ∙ ap (counts_of f sent) (answers-are-plain f k is_Known set run)
