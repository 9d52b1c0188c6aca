-- Feeds heard in blocks: the progress after those that a block takes, the lines of its records, and blocks one after the other.
use Rattle.block.specs.declared.Taken.{Taken}
use Rattle.timecode.specs.declared.Refusal.{Refusal}
use Rattle.std.specs.Prelude.{◌≡◌, Bool, true, ◌&&◌, length, drop, Result, Ok, Err}
use Rattle.std.proofs.Math.Path.{refl, sym, ap, ap₂}
use Rattle.std.proofs.Common.{◌∙◌, add-one, arith, length-drop, take-append-drop, take-add}
use Rattle.std.proofs.Math.Bool.{false}
use mathlib.Core.List.{List, [], ◌∷◌, ◌++◌, map, append_assoc, append-nil}
use Prim.Native.Nat.{ℕ, zero, suc, ◌+◌, ◌-◌, ◌<◌, ◌≤◌}
use Rattle.std.proofs.Math.ListN.{get_or, take, get_or-map}
use Rattle.std.proofs.Math.Seq.{take-suc, take-length}
use Rattle.timecode.specs.Frames.{no_time}
use Rattle.timecode.proofs.Laws.Tests.{by-test, and_left, and_right}
use Rattle.timecode.specs.Stream.{is_setting}
use Rattle.timecode.specs.declared.Answer.{Answer}
use Rattle.timecode.specs.declared.Answer.TheVariants.{Quiet, Report}
use Rattle.lines.specs.Text.{report_line}
use Rattle.stream.specs.Feeding.{is_valid, next_of, answer_of, feed_of}
use Rattle.stream.specs.Refinement.{answers, reader_after}
use Rattle.stream.specs.declared.Reader.{Reader}
use Rattle.stream.proofs.FeedLists.{length-feed-answers}
use Rattle.block.specs.Blocks.{Reported, report_at, Block, stopped, with_first, block_in, block_of, Lists, room_in, are_records, field_left, index_of, year_of, day_of, hundredths_of, control_of, lists_left, block_for, block_answer, feed_block_of}
use Rattle.block.proofs.Folds.{block-takes, left-first}
use Rattle.block.specs.declared.FedBlock.{FedBlock}
use Rattle.block.specs.declared.Stop.{Stop}
use Rattle.block.specs.declared.Stop.TheVariants.{AllTaken, UnknownSymbol, NoRoom}
use Rattle.progress.specs.Progress.{running_at, one_more, more_by, answered, answer_line, after_feed, feed_line, after_feeds, text_feeds}
use Rattle.progress.specs.Steps.{after-append, text-append, step-fed, running-at, ended-stays, ended-no-text}
use Rattle.progress.specs.declared.Progress.{Progress}

-- ---- the lines of records

-- a record's line, the count of elements before the block given
abbrev pub record_line : ℕ → Reported → List ℕ
record_line e r = report_line (more_by (suc r.index) e) r.time r.control

unfoldable pub record_lines : ℕ → List Reported → List ℕ
record_lines e [] = []
record_lines e (r ∷ rs) = record_line e r ++ record_lines e rs

-- the record at an index of the lent list
abbrev pub record_at : Lists → ℕ → Reported
record_at l k = report_at (get_or l.indexes k 0) (record { year = get_or l.years k 0; day = get_or l.days k 0; hundredths = get_or l.hundredths k 0 }) (get_or l.controls k 0)

-- the lines of the list's first records
unfoldable pub first_lines : ℕ → Lists → ℕ → List ℕ
first_lines e l zero = []
first_lines e l (suc k) = first_lines e l k ++ record_line e (record_at l k)

pub lines_start : (e : ℕ) (l : Lists) (text : List ℕ) → text ≡ text ++ first_lines e l 0
unfolding first_lines
lines_start e l text = sym (append-nil text)

-- one line more, the number of the element at index 0 given
pub lines_more : (e : ℕ) (l : Lists) (k first element : ℕ) (text lines : List ℕ) → lines ≡ text ++ first_lines e l k → first ≡ one_more e → element ≡ more_by (record_at l k).index first → lines ++ report_line element (record_at l k).time (record_at l k).control ≡ text ++ first_lines e l (k + 1)
unfolding first_lines more_by
lines_more e l k first element text lines before one more =
    let line = record_line e (record_at l k) in
    rw (more, one, before, add-one k) (append_assoc text (first_lines e l k) line)

lines-append : (e : ℕ) (rs qs : List Reported) → record_lines e (rs ++ qs) ≡ record_lines e rs ++ record_lines e qs
unfolding record_lines
lines-append e [] qs = refl
lines-append e (r ∷ rs) qs = ap (λ (t : List ℕ). record_line e r ++ t) (lines-append e rs qs) ∙ sym (append_assoc (record_line e r) (record_lines e rs) (record_lines e qs))

module _ (b : Block) (l : Lists) where
  abbrev none : Reported
  none = report_at 0 (no_time) 0

  field_at : (field : Reported → ℕ) (entries : List ℕ) (k : ℕ) → field none ≡ 0 → k < length b.reports → get_or (field_left field b entries) k 0 ≡ field (get_or b.reports k none)
  field_at field entries k z h = left-first field b entries k h ∙ ap (get_or (map field b.reports) k) (sym z) ∙ get_or-map field b.reports k none

  -- The lent list holds the block's records.
  record-left : (k : ℕ) → k < length b.reports → record_at (lists_left b l) k ≡ get_or b.reports k none
  record-left k h =
      rw (
        field_at index_of l.indexes k refl h,
        field_at year_of l.years k refl h,
        field_at day_of l.days k refl h,
        field_at hundredths_of l.hundredths k refl h,
        field_at control_of l.controls k refl h,
      )

  first-lines : (e k : ℕ) → k ≤ length b.reports → first_lines e (lists_left b l) k ≡ record_lines e (take k b.reports)
  unfolding first_lines record_lines
  first-lines e zero h = refl
  first-lines e (suc k) h =
      let r = get_or b.reports k none in
      ap₂ (λ (t : List ℕ) (x : Reported). t ++ record_line e x) (first-lines e k (omega arith)) (record-left k h)
      ∙ sym (ap (record_lines e) (take-suc b.reports k none h) ∙ lines-append e (take k b.reports) (r ∷ []) ∙ ap (λ (t : List ℕ). record_lines e (take k b.reports) ++ t) (append-nil (record_line e r)))

  pub lines_left : (e : ℕ) → first_lines e (lists_left b l) (length b.reports) ≡ record_lines e b.reports
  lines_left e = first-lines e (length b.reports) (omega arith) ∙ ap (record_lines e) (take-length b.reports)

-- ---- the Feeds that a block takes

-- the progress after them, and their lines
pub record Heard (e : ℕ) (p : Progress) (ss : List ℕ) (b : Block) : Type 0 where
  pub reached : after_feeds p (take b.taken ss) ≡ running_at (reader_after p.reader (take b.taken ss)) (more_by b.taken p.elements) (more_by (length b.reports) p.reports)
  pub told : text_feeds p (take b.taken ss) ≡ record_lines e b.reports

heard-none : (why : Stop) (e : ℕ) (p : Progress) (ss : List ℕ) → p.ended ≡ false → Heard e p ss (stopped why)
unfolding after_feeds text_feeds reader_after more_by record_lines
heard-none why e p ss g = record { reached = sym (running-at p g); told = refl }

more-last : (k e : ℕ) → one_more (more_by k e) ≡ more_by (suc k) e
unfolding more_by
more-last zero e = refl
more-last (suc k) e = more-last k (one_more e)

-- One more in front, at index i, whose answer is no refusal.
module _ (e i : ℕ) (p : Progress) (s : ℕ) (ss : List ℕ) (g : p.ended ≡ false) (place : p.elements ≡ more_by i e) where
  abbrev next : Reader
  next = next_of p.reader s

  abbrev further : ℕ → Progress
  further n = running_at next (one_more p.elements) n

  place-on : one_more p.elements ≡ more_by (suc i) e
  place-on = ap one_more place ∙ more-last i e

  heard-more : (n : ℕ) (rs : List Reported) (b : Block) → after_feed p s ≡ further n → more_by (length b.reports) n ≡ more_by (length (rs ++ b.reports)) p.reports → feed_line p s ≡ record_lines e rs → Heard e (further n) ss b → Heard e p (s ∷ ss) (with_first rs b)
  unfolding after_feeds text_feeds reader_after feed_of more_by
  heard-more n rs b step reports line rest =
      record {
        reached = ap (λ (x : Progress). after_feeds x (take b.taken ss)) step ∙ rest.reached ∙ ap (running_at (reader_after next (take b.taken ss)) (more_by b.taken (one_more p.elements))) reports;
        told = ap₂ (λ (x y : List ℕ). x ++ y) line (ap (λ (x : Progress). text_feeds x (take b.taken ss)) step ∙ rest.told) ∙ sym (lines-append e rs b.reports);
      }

  heard-fed : (room : ℕ) (a : Answer) → answer_of p.reader s ≡ a → ((n left : ℕ) → Heard e (further n) ss (block_in (suc i) left (answers next ss))) → Heard e p (s ∷ ss) (block_in i room (a ∷ answers next ss))
  unfolding block_in more_by record_lines
  heard-fed room Quiet a rest =
      let step : after_feed p s ≡ further p.reports = (step-fed p s g).0 ∙ ap (answered p next) a in
      heard-more p.reports [] (block_in (suc i) room (answers next ss)) step refl ((step-fed p s g).1 ∙ rw a) (rest p.reports room)
  heard-fed room (Answer.Refused x) a rest = heard-none UnknownSymbol e p (s ∷ ss) g
  heard-fed zero (Report t w) a rest = heard-none NoRoom e p (s ∷ ss) g
  heard-fed (suc room) (Report t w) a rest =
      let step : after_feed p s ≡ further (one_more p.reports) = (step-fed p s g).0 ∙ ap (answered p next) a in
      let element : (after_feed p s).elements ≡ more_by (suc i) e = ap (λ (x : Progress). x.elements) step ∙ place-on in
      heard-more (one_more p.reports) (report_at i t w ∷ []) (block_in (suc i) room (answers next ss)) step refl ((step-fed p s g).1 ∙ ap₂ answer_line element a ∙ sym (append-nil (report_line (more_by (suc i) e) t w))) (rest (one_more p.reports) room)

-- A block is heard as its Feeds are, one after the other; e elements before the block, i of its own before these.
block-heard : (e i room : ℕ) (p : Progress) (ss : List ℕ) → p.ended ≡ false → p.elements ≡ more_by i e → Heard e p ss (block_in i room (answers p.reader ss))
unfolding block_in answers feed_of
block-heard e i room p [] g place = heard-none AllTaken e p [] g
block-heard e i room p (s ∷ ss) g place =
    heard-fed e i p s ss g place room (answer_of p.reader s) refl
    (λ n left. block-heard e (suc i) left (running_at (next_of p.reader s) (one_more p.elements) n) ss refl (place-on e i p s ss g place))

-- ---- where a block stops

few_reports : (i room : ℕ) (as' : List Answer) → length (block_in i room as').reports ≤ (block_in i room as').taken
unfolding block_in
few_reports i room [] = omega arith
few_reports i room (Quiet ∷ as') = omega (arith, few_reports (suc i) room as')
few_reports i room (Answer.Refused x ∷ as') = omega arith
few_reports i zero (Report t w ∷ as') = omega arith
few_reports i (suc room) (Report t w ∷ as') = omega (arith, few_reports (suc i) room as')

-- ---- what the call answers

-- the symbols taken and the reports put in: none, where it refuses
abbrev pub taken_of : Result Taken Refusal → ℕ
taken_of (Ok b) = b.symbols
taken_of (Err x) = 0

abbrev pub reports_of : Result Taken Refusal → ℕ
reports_of (Ok b) = b.reports
reports_of (Err x) = 0

answer-says : (r : Reader) (ss : List ℕ) (l : Lists) → (taken_of (block_answer r ss l) ≡ (block_for r ss l).taken) × (reports_of (block_answer r ss l) ≡ length (block_for r ss l).reports)
unfolding block_answer block_for
answer-says r ss l =
    by-test (is_valid r)
    (λ v. by-test (is_setting r.setting) (λ k. by-test (are_records l) (λ y. rw (v, k, y) (refl, refl)) (λ n. rw (v, k, n) (refl, refl))) (λ n. rw (v, n) (refl, refl)))
    (λ n. rw n (refl, refl))

-- neither 13 nor 26
abbrev passes : Reader → Bool
passes r = is_valid r && is_setting r.setting

module _ (r : Reader) (ss : List ℕ) (l : Lists) (same : are_records l ≡ true) where
  abbrev b : Block
  b = block_for r ss l

  for-valid : passes r ≡ true → b ≡ block_of r (room_in l) ss
  unfolding block_for
  for-valid y = rw (and_left (is_valid r) (is_setting r.setting) y, and_right (is_valid r) (is_setting r.setting) y, same)

  for-invalid : passes r ≡ false → b ≡ stopped AllTaken
  unfolding block_for
  for-invalid n = by-test (is_valid r) (λ v. let k : is_setting r.setting ≡ false = rw v at n in rw (v, k)) (λ m. rw m)

  taken-within : b.taken ≤ length ss
  taken-within = by-test (passes r) (λ v. rw (for-valid v) (omega (arith, (block-takes 0 (room_in l) (answers r ss)).within, length-feed-answers r ss))) (λ n. rw (for-invalid n) (omega arith))

  reports-fit : length b.reports ≤ room_in l
  reports-fit = by-test (passes r) (λ v. rw (for-valid v) (block-takes 0 (room_in l) (answers r ss)).fits) (λ n. rw (for-invalid n) (omega arith))

  reports-few : length b.reports ≤ b.taken
  reports-few = by-test (passes r) (λ v. rw (for-valid v) (few_reports 0 (room_in l) (answers r ss))) (λ n. rw (for-invalid n) (omega arith))

-- ---- the progress that the call makes, and its lines

-- after the Feeds that it took
abbrev pub progress_after : Progress → FedBlock → Progress
progress_after p fed = running_at fed.reader (more_by (taken_of fed.answer) p.elements) (more_by (reports_of fed.answer) p.reports)

module _ (p : Progress) (ss : List ℕ) (l : Lists) (same : are_records l ≡ true) (fed : FedBlock) (is : fed ≡ feed_block_of p.reader ss l) where
  abbrev block : Block
  block = block_for p.reader ss l

  taken_is : taken_of fed.answer ≡ block.taken
  unfolding feed_block_of
  taken_is = ap (λ (x : FedBlock). taken_of x.answer) is ∙ (answer-says p.reader ss l).0

  reports-is : reports_of fed.answer ≡ length block.reports
  unfolding feed_block_of
  reports-is = ap (λ (x : FedBlock). reports_of x.answer) is ∙ (answer-says p.reader ss l).1

  reader_is : fed.reader ≡ reader_after p.reader (take block.taken ss)
  unfolding feed_block_of
  reader_is = ap (λ (x : FedBlock). x.reader) is

  pub fed-within : taken_of fed.answer ≤ length ss
  fed-within = rw taken_is (taken-within p.reader ss l same)

  pub fed-fits : reports_of fed.answer ≤ room_in l
  fed-fits = rw reports-is (reports-fit p.reader ss l same)

  pub fed-few : reports_of fed.answer ≤ taken_of fed.answer
  fed-few = rw (reports-is, taken_is) (reports-few p.reader ss l same)

  module _ (g : p.ended ≡ false) (left : Lists) (leaves : left ≡ lists_left block l) (reports : ℕ) (n : reports ≡ reports_of fed.answer) (text lines : List ℕ) (put : lines ≡ text ++ first_lines p.elements left reports) where
    abbrev current : Progress
    current = progress_after p fed

    block-told : Heard p.elements p ss block
    unfolding more_by
    block-told =
        by-test (passes p.reader)
        (λ v. rw (for-valid p.reader ss l same v) (block-heard p.elements 0 (room_in l) p ss g refl))
        (λ f. rw (for-invalid p.reader ss l same f) (heard-none AllTaken p.elements p ss g))

    part-reached : current ≡ after_feeds p (take block.taken ss)
    part-reached = rw (reader_is, taken_is, reports-is) (sym block-told.reached)

    part-told : lines ≡ text ++ text_feeds p (take block.taken ss)
    part-told = put ∙ ap (λ (x : List ℕ). text ++ x) (rw (leaves, n, reports-is) (lines_left block l p.elements) ∙ sym block-told.told)

    -- the Feeds that it took
    pub fed-taken : (taken : ℕ) → taken ≡ taken_of fed.answer → (current ≡ after_feeds p (take taken ss)) × (lines ≡ text ++ text_feeds p (take taken ss))
    fed-taken taken t =
        let whole : take block.taken ss ≡ take taken ss = ap (λ (k : ℕ). take k ss) (sym (t ∙ taken_is)) in
        (part-reached ∙ ap (after_feeds p) whole, part-told ∙ ap (λ (xs : List ℕ). text ++ text_feeds p xs) whole)

    -- and the next one
    pub fed-next : (taken : ℕ) → taken ≡ taken_of fed.answer → taken < length ss → (after_feed current (get_or ss taken 0) ≡ after_feeds p (take (taken + 1) ss)) × (lines ++ feed_line current (get_or ss taken 0) ≡ text ++ text_feeds p (take (taken + 1) ss))
    unfolding after_feeds text_feeds
    fed-next taken t h =
        let front = take taken ss in
        let s = get_or ss taken 0 in
        let before = fed-taken taken t in
        let whole : take (taken + 1) ss ≡ front ++ (s ∷ []) = ap (λ (k : ℕ). take k ss) (add-one taken) ∙ take-suc ss taken 0 h in (
          sym (ap (after_feeds p) whole ∙ after-append p front (s ∷ []) ∙ ap (λ (x : Progress). after_feed x s) (sym before.0)),
          ap (λ (x : List ℕ). x ++ feed_line current s) before.1
              ∙ append_assoc text (text_feeds p front) (feed_line current s)
              ∙ sym (ap (λ (x : List ℕ). text ++ x) (ap (text_feeds p) whole ∙ text-append p front (s ∷ []) ∙ rw (← before.0) (ap (λ (x : List ℕ). text_feeds p front ++ x) (append-nil (feed_line current s))))),
        )

-- ---- some symbols, in blocks one after the other

-- the first i symbols are heard
pub record HeardTo (p : Progress) (ss text : List ℕ) (i : ℕ) (q : Progress) (lines : List ℕ) : Type 0 where
  pub within : i ≤ length ss
  pub reached : q ≡ after_feeds p (take i ss)
  pub told : lines ≡ text ++ text_feeds p (take i ss)

pub heard-start : (p : Progress) (ss text : List ℕ) → HeardTo p ss text 0 p text
unfolding after_feeds text_feeds
heard-start p ss text = record { within = omega arith; reached = refl; told = sym (append-nil text) }

-- the rest of the symbols
abbrev pub rest_of : List ℕ → ℕ → List ℕ
rest_of ss i = take (length ss - i) (drop i ss)

pub rest_is : (ss : List ℕ) (i : ℕ) → rest_of ss i ≡ drop i ss
rest_is ss i = ap (λ (k : ℕ). take k (drop i ss)) (sym (length-drop i ss)) ∙ take-length (drop i ss)

pub length_rest : (ss : List ℕ) (i : ℕ) → length (rest_of ss i) ≡ length ss - i
length_rest ss i = ap length (rest_is ss i) ∙ length-drop i ss

module _ {p : Progress} {ss text : List ℕ} {i : ℕ} {q : Progress} {lines : List ℕ} (heard : HeardTo p ss text i q lines) where
  pub heard-turn : (k : ℕ) (r : Progress) (longer : List ℕ) → k ≤ length ss - i → r ≡ after_feeds q (take k (rest_of ss i)) → longer ≡ lines ++ text_feeds q (take k (rest_of ss i)) → HeardTo p ss text (i + k) r longer
  heard-turn k r longer few reached told =
      let part = take k (drop i ss) in
      let same : take k (rest_of ss i) ≡ part = ap (take k) (rest_is ss i) in
      record {
        within = omega (arith, heard.within);
        reached = reached ∙ ap₂ after_feeds heard.reached same ∙ sym (ap (after_feeds p) (take-add i k ss) ∙ after-append p (take i ss) part);
        told =
            told
            ∙ ap₂ (λ (x y : List ℕ). x ++ y) heard.told (ap₂ text_feeds heard.reached same)
            ∙ append_assoc text (text_feeds p (take i ss)) (text_feeds (after_feeds p (take i ss)) part)
            ∙ sym (ap (λ (x : List ℕ). text ++ x) (ap (text_feeds p) (take-add i k ss) ∙ text-append p (take i ss) part));
      }

  -- none is left, or the listing has ended
  pub heard_all : length ss ≤ i → (q ≡ after_feeds p ss) × (lines ≡ text ++ text_feeds p ss)
  heard_all all =
      let same_count : i ≡ length ss = omega (arith, heard.within) in
      let whole : take i ss ≡ ss = ap (λ (k : ℕ). take k ss) (same_count) ∙ take-length ss in
      (heard.reached ∙ ap (after_feeds p) whole, heard.told ∙ ap (λ (xs : List ℕ). text ++ text_feeds p xs) whole)

  pub heard-ended : q.ended ≡ true → (q ≡ after_feeds p ss) × (lines ≡ text ++ text_feeds p ss)
  heard-ended e =
      let front = take i ss in
      let rest = drop i ss in
      let whole : front ++ rest ≡ ss = take-append-drop i ss in (
        ended-stays q rest e ∙ ap (λ (x : Progress). after_feeds x rest) heard.reached ∙ sym (after-append p front rest) ∙ ap (after_feeds p) whole,
        heard.told
            ∙ ap (λ (x : List ℕ). text ++ x)
            (sym (append-nil (text_feeds p front)) ∙ ap (λ (x : List ℕ). text_feeds p front ++ x) (ended-no-text q rest e ∙ ap (λ (x : Progress). text_feeds x rest) heard.reached) ∙ sym (text-append p front rest) ∙ ap (text_feeds p) whole),
      )
