-- Demand 3 and document 01's sentences after it, for every setting k of document 02: one record of what holds of a list of Feeds from fresh and the list of their answers.
-- It holds of any answers that are the plain machine's.
use Rattle.std.specs.Prelude.{◌≡◌, refl, true, false, cond, ◌↔◌, leb, eqb, get_or, drop, set}
use Rattle.std.proofs.Common.{sym, ap, subst, ◌∙◌, not-suc-le-zero, mod-lt, leb-true, get_or-take}
use mathlib.Core.List.{List, [], ◌∷◌, ◌++◌}
use Prim.Native.Nat.{ℕ, zero, suc, ◌+◌, ◌*◌, ◌-◌, ◌/◌, ◌%◌, ◌<◌, ◌≤◌}
use Rattle.std.proofs.Math.Nat.{div-add-mod, mul-le-mul_left, lt_of_mul-lt-mul_left}
use native.Mathlib.Omega.{arith}
use Rattle.std.proofs.Math.Decide.{dec_le}
use Rattle.std.proofs.Math.ListN.{length, take, length-drop, get_or-append}
use Rattle.std.proofs.Math.Seq.{length-take-le}
use Rattle.timecode.specs.Formats.{is_x, size}
use Rattle.timecode.specs.Frames.{read_of, Sent, Generator, elements, sent_at, EndsFrame}
use Rattle.timecode.proofs.Laws.Checks.{refused-no-report}
use Rattle.timecode.proofs.Laws.Generators.{length-elements}
use Rattle.timecode.proofs.Laws.Machine.{feed-accepts, feed-refuses, received-elements, answer-no-refusal, feed-reports, same_answer, same-answers, length-answers, answers-append, answers-after, feed-at, elements-next, elements-to-newest, first-elements, all-elements, higher-report}
use Rattle.timecode.proofs.Laws.Marks.{size-positive}
use Rattle.timecode.proofs.Laws.Streams.{places-within-le, part-report, part-intact, part-replaced, none-replaced, one-replaced, symbol-replaced, report, first-report}
use Rattle.timecode.proofs.Laws.Table.{x-size}
use Rattle.timecode.proofs.Laws.Tests.{and_left, and_right}
use Rattle.timecode.proofs.Laws.Windows.{lead-none, lead-small, two-frames}
use Rattle.timecode.specs.Stream.{is_setting, two_frames, lead, opens, window_length, frame_in, confirm, last_of, plain_answer, Plain, plain_answers, plain_received, elements_of, IsRefused, IsElement, IsNewest, elements_up_to, EndsInFrames, SameWindow, ReplacedAt}
use Rattle.timecode.specs.declared.Answer.{Answer}
use Rattle.timecode.specs.declared.Answer.TheVariants.{Quiet, Report}
use Rattle.timecode.specs.declared.Format.{Format}
use Rattle.timecode.specs.declared.Refusal.TheVariants.{UnknownSymbol}
use Rattle.timecode.specs.declared.Time.{Time}
use Rattle.timecode.specs.Demand3.{Demand3, SameAnswers}

-- ---- the sentences. `none` stands for an answer past the last, which nothing asks for.

-- It holds the elements of its Feeds, and nothing else.
pub holds-the-elements : (f : Format) (k : ℕ) (ss : List ℕ) → plain_received f k [] ss ≡ elements_of ss
holds-the-elements f k ss = received-elements f k [] ss

module _ (f : Format) (k : ℕ) (ss : List ℕ) (none : Answer) where
  abbrev answer_to : ℕ → Answer
  answer_to i = get_or (plain_answers f k [] ss) i none

  to-refused : (i : ℕ) → IsRefused ss i → answer_to i ≡ Answer.Refused UnknownSymbol
  to-refused i r = feed-at f k [] ss none i r.0 ∙ ap (λ (p : Plain). p.answer) (feed-refuses f k (elements_of (take i ss)) (get_or ss i 0) r.1)

  to-element : (i : ℕ) → IsElement ss i → answer_to i ≡ plain_answer f k (elements_up_to ss i)
  to-element i e =
      feed-at f k [] ss none i e.0
      ∙ ap (λ (p : Plain). p.answer) (feed-accepts f k (elements_of (take i ss)) (get_or ss i 0) e.1)
      ∙ ap (plain_answer f k) (sym (elements-next ss i e))

module _ (f : Format) (m : ℕ) (ss : List ℕ) (none : Answer) where
  exactly-when : (i : ℕ) → i < length ss → (t : Time) (w : ℕ) → (answer_to f (suc m) ss none i ≡ Report t w) ↔ (IsElement ss i × EndsInFrames f (suc m) (elements_up_to ss i) t w)
  exactly-when i b t w =
      let one = feed-reports f m (elements_of (take i ss)) (get_or ss i 0) t w in (
        λ h.
            let ends = one.0 (sym (feed-at f (suc m) [] ss none i b) ∙ h) in
            ((b, ends.0), subst (λ (xs : List ℕ). EndsInFrames f (suc m) xs t w) (sym (elements-next ss i (b, ends.0))) ends.1),
        λ ends. feed-at f (suc m) [] ss none i b ∙ one.1 (ends.0.1, subst (λ (xs : List ℕ). EndsInFrames f (suc m) xs t w) (elements-next ss i ends.0) ends.1),
      )

-- a window of a generator's elements, whatever was received before
module _ (f : Format) (m : ℕ) (few : suc m ≤ 5) (sent : List Sent) (gen : Generator f sent) where
  intact : (before : List ℕ) (q : ℕ) → lead f ≤ size f * q → q + m < length sent
      → plain_answer f (suc m) (before ++ take (window_length f (suc m)) (drop (size f * q - lead f) (elements f sent))) ≡ Report (sent_at sent (q + m)).time (sent_at sent (q + m)).control
  unfolding window_length
  intact before q a h =
      let start = size f * q - lead f in
      let n = suc m * size f + lead f in
      let window = take n (drop start (elements f sent)) in
      let whole : size f * suc (q + m) ≤ size f * length sent = mul-le-mul_left (size f) h in
      let inside : size f * q - lead f + (suc m * size f + lead f) ≤ length (elements f sent) = omega (arith, length-elements f sent) in
      let l : length (take (suc m * size f + lead f) (drop (size f * q - lead f) (elements f sent))) ≡ suc m * size f + lead f =
      length-take-le n (drop start (elements f sent)) (omega (arith, length-drop (size f * q - lead f) (elements f sent))) in
      part-intact f m sent gen start [] before window (part-replaced f sent start n [] window inside (none-replaced window)) (omega arith) (λ j b. refl) q (omega arith)

  replaced : (before window places : List ℕ) (start : ℕ) → start + window_length f (suc m) ≤ length (elements f sent)
      → ReplacedAt places window (take (window_length f (suc m)) (drop start (elements f sent))) → length places < suc m → (t : Time) (w : ℕ)
      → plain_answer f (suc m) (before ++ window) ≡ Report t w → EndsFrame f sent (start + window_length f (suc m)) t
  replaced before window places start h is b t w r =
      let n : length window ≡ window_length f (suc m) = is.as_long ∙ length-take-le (window_length f (suc m)) (drop start (elements f sent)) (omega (arith, length-drop start (elements f sent))) in
      let within = places-within-le (length window - window_length f (suc m)) (window_length f (suc m)) places in
      let e = part-report f m sent gen start places before window (part-replaced f sent start (window_length f (suc m)) places window h is) (omega arith) (omega (arith, within)) (omega (arith, within)) t w r in
      rw n at e

  first-exactly : (q i : ℕ) → i < size f → 0 < i + lead f → q + suc m < length sent → (none : Answer)
      → ((j : ℕ) → suc j < suc (suc m) * size f - i → get_or (plain_answers f (suc m) [] (drop (size f * q + i) (elements f sent))) j none ≡ Quiet)
      × (get_or (plain_answers f (suc m) [] (drop (size f * q + i) (elements f sent))) (suc (suc m) * size f - i - 1) none ≡ Report (sent_at sent (q + suc m)).time (sent_at sent (q + suc m)).control)
  first-exactly q i h l b none =
      let u : q + suc m ≡ suc q + m = omega arith in
      let v : suc (suc m) * size f - i - 1 ≡ size f * suc (suc q + m) - (size f * q + i) - 1 = omega arith in
      let first = first-report f m sent gen (size f * q + i) (suc q) (omega (arith, lead-small f)) (omega arith) (omega arith) none in
      (λ j c. first.0 j (omega arith), rw (u, v) first.1)

  first-from-lead : (q : ℕ) → lead f ≤ size f * q → q + m < length sent → (none : Answer)
      → ((j : ℕ) → suc j < window_length f (suc m) → get_or (plain_answers f (suc m) [] (drop (size f * q - lead f) (elements f sent))) j none ≡ Quiet)
      × (get_or (plain_answers f (suc m) [] (drop (size f * q - lead f) (elements f sent))) (window_length f (suc m) - 1) none ≡ Report (sent_at sent (q + m)).time (sent_at sent (q + m)).control)
  unfolding window_length
  first-from-lead q l b none =
      let v : suc m * size f + lead f - 1 ≡ size f * suc (q + m) - (size f * q - lead f) - 1 = omega arith in
      let first = first-report f m sent gen (size f * q - lead f) q (omega arith) (omega (arith, size-positive f)) b none in
      (λ j c. first.0 j (omega arith), rw v first.1)

  first-within : (start : ℕ) → start / size f + suc m < length sent → (none : Answer)
      → (i : ℕ) × (q : ℕ) × (suc i < suc (suc m) * size f + lead f) × (q < length sent) × (start + suc i ≡ size f * suc q)
      × ((j : ℕ) → j < i → get_or (plain_answers f (suc m) [] (drop start (elements f sent))) j none ≡ Quiet)
      × (get_or (plain_answers f (suc m) [] (drop start (elements f sent))) i none ≡ Report (sent_at sent q).time (sent_at sent q).control)
  first-within start h none =
      let n = size-positive f in
      let x = start + lead f + (size f - 1) in
      let q = x / size f in
      let r : x % size f < size f = mod-lt x n in
      let d : size f * (x / size f) + x % size f ≡ x = div-add-mod x (size f) in
      let e : size f * (start / size f) + start % size f ≡ start = div-add-mod start (size f) in
      let s : start % size f < size f = mod-lt start n in
      let u : x / size f < suc (start / size f + 1) = lt_of_mul-lt-mul_left (size f) (omega (arith, lead-small f)) in
      let first = first-report f m sent gen start q (omega arith) (omega arith) (omega arith) none in
      (size f * suc (q + m) - start - 1, q + m, omega arith, omega arith, omega arith, λ j b. first.0 j (omega arith), first.1)

plain-demand-3 : (f : Format) (m : ℕ) → suc m ≤ 5 → (ss : List ℕ) (none : Answer) → Demand3 f (suc m) ss (plain_answers f (suc m) [] ss) none
plain-demand-3 f m few ss none =
    record {
      each_answered = length-answers f (suc m) [] ss;
      refuses_above_3 = to-refused f (suc m) ss none;
      refuses_no_other = λ i e x h. answer-no-refusal f (suc m) (elements_up_to ss i) x (sym (to-element f (suc m) ss none i e) ∙ h);
      refused_reports_nothing = λ i r t w h. refused-no-report UnknownSymbol t w (sym (to-refused f (suc m) ss none i r) ∙ h);
      elements_decide = to-element f (suc m) ss none;
      reports_exactly_when = exactly-when f m ss none;
      intact_window_reports = λ sent gen i e before q l h is. let u : q + suc m - 1 ≡ q + m = omega arith in rw u (to-element f (suc m) ss none i e ∙ ap (plain_answer f (suc m)) is ∙ intact f m few sent gen before q l (omega arith));
      no_false_time = λ sent gen i e before window places start h at b is t w r.
          replaced f m few sent gen before window places start h at b t w (sym (ap (plain_answer f (suc m)) is) ∙ sym (to-element f (suc m) ss none i e) ∙ r);
      no_false_time_in_stream = λ sent gen places start at i e c t w r.
          let first = first-elements ss i in
          report f m sent gen start places (elements_of ss) at (length (elements_up_to ss i)) first.0 (omega arith) (omega arith) t w
          (sym (ap (plain_answer f (suc m)) first.1) ∙ sym (to-element f (suc m) ss none i e) ∙ r);
      first_report_exactly = λ sent gen q i h l b is. rw is (first-exactly f m few sent gen q i h l b none);
      first_report_from_lead = λ sent gen q l h is. let u : q + suc m - 1 ≡ q + m = omega arith in rw (is, u) (first-from-lead f m few sent gen q l (omega arith) none);
      first_report_within = λ sent gen start h is. rw is (first-within f m few sent gen start h none);
    }

-- the answer to the newest element, whatever is fed after it
newest-answer : (f : Format) (k : ℕ) (ss xs : List ℕ) (none : Answer) (i : ℕ) → IsNewest ss i → get_or (plain_answers f k [] (ss ++ xs)) i none ≡ plain_answer f k (elements_of ss)
newest-answer f k ss xs none i n =
    ap (λ (as' : List Answer). get_or as' i none) (answers-append f k [] ss xs)
    ∙ get_or-append (plain_answers f k [] ss) (plain_answers f k (plain_received f k [] ss) xs) none i (omega (arith, n.0.0, length-answers f k [] ss))
    ∙ to-element f k ss none i n.0
    ∙ ap (plain_answer f k) (elements-to-newest ss i n)

-- ---- so they hold of any answers that are the plain machine's

setting-range : (k : ℕ) → is_setting k ≡ true → (2 ≤ k) × (k ≤ 5)
unfolding is_setting
setting-range k h = (leb-true 2 k (and_left (leb 2 k) (leb k 5) h), leb-true k 5 (and_right (leb 2 k) (leb k 5) h))

pub demand-3 : (f : Format) (k : ℕ) → is_setting k ≡ true → (ss : List ℕ) (answers : List Answer) → answers ≡ plain_answers f k [] ss → (none : Answer) → Demand3 f k ss answers none
demand-3 f zero h ss answers plain none = absurd (not-suc-le-zero (setting-range 0 h).0)
demand-3 f (suc m) h ss answers plain none = subst (λ (as' : List Answer). Demand3 f (suc m) ss as' none) (sym plain) (plain-demand-3 f m (setting-range (suc m) h).1 ss none)

-- k = 2 is the machine of before, in every format except X: a window of 2n + 1, a symbol 2 and two frames that Read accepts, the second's time next after the first's.
pub two-is-setting : is_setting two_frames ≡ true
unfolding is_setting
two-is-setting = refl

pub two-frames-as-before : (f : Format) → is_x f ≡ false → (received : List ℕ)
    → let window = last_of (2 * size f + 1) received in
    plain_answer f two_frames received
    ≡ cond (leb (2 * size f + 1) (length received)) (cond (eqb (get_or window 0 0) 2) (confirm f (read_of f (frame_in f window 0)) (read_of f (frame_in f window 1))) Quiet) Quiet
unfolding plain_answer window_length lead opens
two-frames-as-before f n received = rw n (ap (λ (a : Answer). cond (leb (2 * size f + 1) (length received)) a Quiet) (rw n at (two-frames f (last_of (2 * size f + 1) received))))

-- In X it is a window of 50 symbols: two frames that Read accepts, the second's time next after the first's.
pub two-frames-of-x : (f : Format) → is_x f ≡ true → (received : List ℕ)
    → let window = last_of 50 received in plain_answer f two_frames received ≡ cond (leb 50 (length received)) (confirm f (read_of f (take 25 window)) (read_of f (take 25 (drop 25 window)))) Quiet
unfolding plain_answer window_length lead opens frame_in
two-frames-of-x f x received = rw (x, x-size f x) (ap (λ (a : Answer). cond (leb 50 (length received)) a Quiet) (rw (x, x-size f x) at (two-frames f (last_of 50 received))))

-- Two readers of one format and one setting k, each fed from fresh, whose last kn + 1 elements (in X kn) agree gave the same answer to the newest of them, and give the same answers, refusals too, to the same symbols after it.
pub two-readers : (f : Format) (k : ℕ) (ss rs xs : List ℕ) (first second : List Answer) → first ≡ plain_answers f k [] (ss ++ xs) → second ≡ plain_answers f k [] (rs ++ xs)
    → SameWindow f k (elements_of ss) (elements_of rs) → (none : Answer) → SameAnswers ss rs first second none
two-readers f k ss rs xs first second first_plain second_plain same none = rw (first_plain, second_plain) (record { to_newest = newest; after = after-them })
  where
    newest : (i j : ℕ) → IsNewest ss i → IsNewest rs j → get_or (plain_answers f k [] (ss ++ xs)) i none ≡ get_or (plain_answers f k [] (rs ++ xs)) j none
    newest i j a b = newest-answer f k ss xs none i a ∙ same_answer f k (elements_of ss) (elements_of rs) same ∙ sym (newest-answer f k rs xs none j b)

    after-them : drop (length ss) (plain_answers f k [] (ss ++ xs)) ≡ drop (length rs) (plain_answers f k [] (rs ++ xs))
    after-them =
        answers-after f k [] ss xs
        ∙ ap (λ (received : List ℕ). plain_answers f k received xs) (holds-the-elements f k ss)
        ∙ same-answers f k xs (elements_of ss) (elements_of rs) same
        ∙ ap (λ (received : List ℕ). plain_answers f k received xs) (sym (holds-the-elements f k rs))
        ∙ sym (answers-after f k [] rs xs)

-- ---- a higher setting reports a part of what a lower one reports: fed the same, a report with m is the report with k to the same Feed

pub higher-setting-reports-a-part : (f : Format) (k m : ℕ) → 1 ≤ k → k ≤ m → (ss : List ℕ) (lower higher : List Answer) → lower ≡ plain_answers f k [] ss → higher ≡ plain_answers f m [] ss
    → (none : Answer) (i : ℕ) → i < length ss → (t : Time) (w : ℕ) → get_or higher i none ≡ Report t w → get_or lower i none ≡ Report t w
higher-setting-reports-a-part f k m a b ss lower higher lower-plain higher-plain none i h t w r =
    rw lower-plain (go (subst (λ (as' : List Answer). get_or as' i none ≡ Report t w) higher-plain r) (dec_le (get_or ss i 0) 3))
  where
    go : get_or (plain_answers f m [] ss) i none ≡ Report t w → Dec (get_or ss i 0 ≤ 3) → get_or (plain_answers f k [] ss) i none ≡ Report t w
    go p (yes s) = to-element f k ss none i (h, s) ∙ higher-report f k m a b (elements_up_to ss i) t w (sym (to-element f m ss none i (h, s)) ∙ p)
    go p (no s) = refused-no-report UnknownSymbol t w (sym (to-refused f m ss none i (h, omega arith)) ∙ p)

-- ---- one replaced, as demand 3 words it for document 01's reader: fewer than any k

module _ (f : Format) (k : ℕ) (two : 2 ≤ k) (ss : List ℕ) (answers : List Answer) (none : Answer) (holds : Demand3 f k ss answers none) (sent : List Sent) (gen : Generator f sent) where
  -- none where p is past the window
  pub no-false-time-with-one-replaced : (i : ℕ) → IsElement ss i → (before : List ℕ) (start p x : ℕ) → start + window_length f k ≤ length (elements f sent)
      → elements_up_to ss i ≡ before ++ set (take (window_length f k) (drop start (elements f sent))) p x
      → (t : Time) (w : ℕ) → get_or answers i none ≡ Report t w → EndsFrame f sent (start + window_length f k) t
  no-false-time-with-one-replaced i e before start p x h is t w r =
      let window = take (window_length f k) (drop start (elements f sent)) in
      holds.no_false_time sent gen i e before (set window p x) (p ∷ []) start h (one-replaced window p x) (omega arith) is t w r

  -- no false year either
  pub no-false-year-with-one-replaced : (i : ℕ) → IsElement ss i → (before : List ℕ) (start p x : ℕ) → start + window_length f k ≤ length (elements f sent)
      → elements_up_to ss i ≡ before ++ set (take (window_length f k) (drop start (elements f sent))) p x
      → (t : Time) (w : ℕ) → get_or answers i none ≡ Report t w
      → (j : ℕ) × (j < length sent) × (start + window_length f k ≡ size f * suc j) × (t.year ≡ (sent_at sent j).time.year)
  no-false-year-with-one-replaced i e before start p x h is t w r =
      let ends = no-false-time-with-one-replaced i e before start p x h is t w r in
      (ends.frame, ends.inside, ends.whole, ap (λ (u : Time). u.year) ends.time)

  pub no-false-time-in-stream-with-one-replaced : (start p x : ℕ) → x ≤ 3 → ss ≡ set (drop start (elements f sent)) p x
      → (i : ℕ) → i < length ss → (t : Time) (w : ℕ) → get_or answers i none ≡ Report t w → EndsFrame f sent (start + suc i) t
  no-false-time-in-stream-with-one-replaced start p x small is i b t w r =
      let stream = drop start (elements f sent) in
      let symbols : (j : ℕ) → get_or ss j 0 ≤ 3 = λ j. rw is (symbol-replaced f sent start p x small j) in
      let at : ReplacedAt (p ∷ []) (elements_of ss) (drop start (elements f sent)) = rw (all-elements ss (λ j c. symbols j), is) (one-replaced stream p x) in
      let first : elements_up_to ss i ≡ take (suc i) ss = all-elements (take (suc i) ss) (λ j c. rw (get_or-take (suc i) ss j 0 (omega (arith, length-take-le (suc i) ss b))) (symbols j)) in
      let n : length (elements_up_to ss i) ≡ suc i = ap length first ∙ length-take-le (suc i) ss b in
      let few = places-within-le (length (elements_up_to ss i) - window_length f k) (window_length f k) (p ∷ []) in
      rw n at (holds.no_false_time_in_stream sent gen (p ∷ []) start at i (b, symbols i) (omega (arith, few)) t w r)

-- ---- X

-- With two frames, joined at any element, the first report comes within 74 elements.
pub first-report-of-x-within-74 : (f : Format) → is_x f ≡ true → (ss : List ℕ) (answers : List Answer) (none : Answer) → Demand3 f two_frames ss answers none
    → (sent : List Sent) → Generator f sent → (start : ℕ) → start / size f + two_frames < length sent → ss ≡ drop start (elements f sent)
    → (i : ℕ) × (q : ℕ) × (suc i ≤ 74) × (q < length sent) × (start + suc i ≡ size f * suc q) × ((j : ℕ) → j < i → get_or answers j none ≡ Quiet)
    × (get_or answers i none ≡ Report (sent_at sent q).time (sent_at sent q).control)
first-report-of-x-within-74 f x ss answers none holds sent gen start h is =
    let first = holds.first_report_within sent gen start h is in
    (first.0, first.1, omega (arith, first.2, x-size f x, lead-none f x), first.3, first.4, first.5, first.6)
