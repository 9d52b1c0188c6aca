-- A block equals feeding its symbols singly; parts of a block fed one after the other equal the whole; what a refused block leaves; its answers from its records.
use Rattle.timecode.specs.Answers.{accepted}
use Rattle.std.specs.Prelude.{◌≡◌, refl, true, List, [], ◌∷◌, ◌++◌, map, ℕ, zero, suc, ◌+◌, ◌-◌, ◌<◌, get_or, length, take, drop, Err}
use Rattle.std.proofs.Common.{sym, ap, ap₂, ◌∙◌, append_assoc, zero-add, suc-add, not-suc-le-zero, arith, leb-true, leb-false, eq-eqb, ne_eqb, ext_get_or, get_or-take, get_or-append-add, get_or-drop, length-take-le}
use Rattle.std.proofs.lemmas.List.{length-map, take-append-le}
use Rattle.std.proofs.Math.ListN.{get_or-append, get_or-map}
use Rattle.std.proofs.Math.Seq.{take-append-add}
use Rattle.timecode.specs.Formats.{is_symbol}
use Rattle.timecode.specs.Frames.{no_time}
use Rattle.timecode.proofs.Laws.Checks.{refused-no-report}
use Rattle.timecode.proofs.Laws.Runs.{length-tabulate, get_d_tabulate}
use Rattle.timecode.proofs.Laws.Tests.{by-test}
use Rattle.timecode.specs.Layout.{tabulate}
use Rattle.timecode.specs.Stream.{is_setting}
use Rattle.timecode.specs.declared.Answer.{Answer}
use Rattle.timecode.specs.declared.Answer.TheVariants.{Quiet, Report}
use Rattle.timecode.specs.declared.Refusal.{Refusal}
use Rattle.stream.specs.Feeding.{is_valid}
use Rattle.stream.specs.Refinement.{answers, reader_after}
use Rattle.stream.specs.declared.Reader.{Reader}
use Rattle.stream.proofs.FeedLists.{feed-answers-append, reader-append, length-feed-answers, answers-take, answers_at, valid-after, has-setting-after, refused-above, quiet-no-refusal, above-refused}
use Rattle.block.specs.Blocks.{Reported, report_at, Block, with_first, block_in, block_of, Lists, are_records, field_left, index_of, year_of, day_of, hundredths_of, control_of, lists_left, record_at, records_in, answers_from, block_for, block_answer, feed_block_of, block_taken}
use Rattle.block.specs.declared.Stop.{Stop}
use Rattle.block.specs.declared.Stop.TheVariants.{AllTaken, UnknownSymbol, NoRoom}
use Rattle.block.specs.Folds.{reports_in, StopsFor, Takes, StopsBefore, FedSingly, later, followed, reader_followed}

-- ---- what was taken

stops-with-first : (why : Stop) (room longer : ℕ) (a : Answer) (as' : List Answer) (taken reports more : ℕ) → (reports ≡ room → more ≡ longer) → StopsFor why room as' taken reports → StopsFor why longer (a ∷ as') (suc taken) more
stops-with-first AllTaken room longer a as' taken reports more e h = ap suc h
stops-with-first UnknownSymbol room longer a as' taken reports more e h = (omega (arith, h.0), h.1)
stops-with-first NoRoom room longer a as' taken reports more e h = (omega (arith, h.0), e h.1, h.2)

refused-later : (a : Answer) (as' : List Answer) (taken : ℕ) → ((x : Refusal) → a ≡ Answer.Refused x → ⊥) → ((k : ℕ) → k < taken → (x : Refusal) (none : Answer) → get_or as' k none ≡ Answer.Refused x → ⊥)
    → (k : ℕ) → k < suc taken → (x : Refusal) (none : Answer) → get_or (a ∷ as') k none ≡ Answer.Refused x → ⊥
refused-later a as' taken n later zero h x none e = n x e
refused-later a as' taken n later (suc k) h x none e = later k (omega arith) x none e

-- A block takes Feeds that are not refused, puts in their reports, and stops for the reason that it says.
pub block-takes : (i room : ℕ) (as' : List Answer) → Takes i room as' (block_in i room as')
unfolding block_in
block-takes i room [] = record { within = omega arith; fits = omega arith; reported = refl; refused_none = λ k h. absurd (not-suc-le-zero h); stops = refl }
block-takes i room (Quiet ∷ as') =
    let rest = block_in (suc i) room as' in
    let later = block-takes (suc i) room as' in
    record {
      within = omega (arith, later.within);
      fits = later.fits;
      reported = later.reported;
      refused_none = refused-later Quiet as' rest.taken quiet-no-refusal later.refused_none;
      stops = stops-with-first rest.stop room room Quiet as' rest.taken (length rest.reports) (length rest.reports) (λ e. e) later.stops;
    }
block-takes i room (Answer.Refused x ∷ as') =
    record { within = omega arith; fits = omega arith; reported = refl; refused_none = λ k h. absurd (not-suc-le-zero h); stops = (omega arith, (x, λ none. refl)) }
block-takes i zero (Report t w ∷ as') =
    record { within = omega arith; fits = omega arith; reported = refl; refused_none = λ k h. absurd (not-suc-le-zero h); stops = (omega arith, refl, (t, w, λ none. refl)) }
block-takes i (suc room) (Report t w ∷ as') =
    let rest = block_in (suc i) room as' in
    let later = block-takes (suc i) room as' in
    record {
      within = omega (arith, later.within);
      fits = omega (arith, later.fits);
      reported = ap (λ (rs : List Reported). report_at i t w ∷ rs) later.reported;
      refused_none = refused-later (Report t w) as' rest.taken (λ x e. refused-no-report x t w (sym e)) later.refused_none;
      stops = stops-with-first rest.stop room (suc room) (Report t w) as' rest.taken (length rest.reports) (suc (length rest.reports)) (λ e. ap suc e) later.stops;
    }

-- ---- the lent list afterwards

-- The reports stand in the first entries, in their order.
pub left-first : (field : Reported → ℕ) (b : Block) (entries : List ℕ) (k : ℕ) → k < length b.reports → get_or (field_left field b entries) k 0 ≡ get_or (map field b.reports) k 0
unfolding field_left
left-first field b entries k h = get_or-append (map field b.reports) _ 0 k (omega (arith, length-map b.reports field))

-- The entries past the last report are as they were.
pub left_after : (field : Reported → ℕ) (b : Block) (entries : List ℕ) (k : ℕ) → get_or (field_left field b entries) (length b.reports + k) 0 ≡ get_or entries (length b.reports + k) 0
unfolding field_left
left_after field b entries k =
    let xs = map field b.reports in
    let n = length b.reports in
    ap (λ (m : ℕ). get_or (xs ++ drop n entries) (m + k) 0) (sym (length-map b.reports field)) ∙ get_or-append-add xs (drop n entries) k 0 ∙ get_or-drop n entries k 0

-- ---- the block of a reader

stops-before : (why : Stop) (r : Reader) (room : ℕ) (ss : List ℕ) (taken reports : ℕ) → is_valid r ≡ true → is_setting r.setting ≡ true → StopsFor why room (answers r ss) taken reports → StopsBefore why r room ss taken reports
stops-before AllTaken r room ss taken reports v k h = h ∙ length-feed-answers r ss
stops-before UnknownSymbol r room ss taken reports v k h =
    let b : taken < length ss = omega (arith, h.0, length-feed-answers r ss) in
    (b, above-refused (reader_after r (take taken ss)) (get_or ss taken 0) h.1.0 (valid-after r (take taken ss) v) (has-setting-after r (take taken ss) k) (sym (answers_at r ss Quiet taken b) ∙ h.1.1 Quiet))
stops-before NoRoom r room ss taken reports v k h =
    let b : taken < length ss = omega (arith, h.0, length-feed-answers r ss) in
    (b, h.1, (h.2.0, h.2.1, sym (answers_at r ss Quiet taken b) ∙ h.2.2 Quiet))

pub block-is-fed-singly : (r : Reader) (room : ℕ) (ss : List ℕ) → is_valid r ≡ true → is_setting r.setting ≡ true → FedSingly r room ss (block_of r room ss)
block-is-fed-singly r room ss v k =
    let b = block_of r room ss in
    let t = block-takes 0 room (answers r ss) in
    record {
      within = omega (arith, t.within, length-feed-answers r ss);
      fits = t.fits;
      reported = t.reported ∙ ap (reports_in 0) (sym (answers-take r ss b.taken));
      accepted = λ j h. by-test (is_symbol (get_or ss j 0)) (λ y. leb-true (get_or ss j 0) 3 y) (λ n.
          absurd (t.refused_none j h Refusal.UnknownSymbol Quiet
          (answers_at r ss Quiet j (omega (arith, t.within, length-feed-answers r ss)) ∙ refused-above (reader_after r (take j ss)) (get_or ss j 0) (valid-after r (take j ss) v) (has-setting-after r (take j ss) k) (leb-false (get_or ss j 0) 3 n))));
      stops = stops-before b.stop r room ss b.taken (length b.reports) v k t.stops;
    }

-- ---- a block in two parts

pub block-later : (k i room : ℕ) (as' : List Answer) → later k (block_in i room as') ≡ block_in (k + i) room as'
unfolding block_in
block-later k i room [] = refl
block-later k i room (Quiet ∷ as') =
    let next : k + suc i ≡ suc (k + i) = omega arith in
    ap (with_first []) (rw next at (block-later k (suc i) room as'))
block-later k i room (Answer.Refused x ∷ as') = refl
block-later k i zero (Report t w ∷ as') = refl
block-later k i (suc room) (Report t w ∷ as') =
    let next : k + suc i ≡ suc (k + i) = omega arith in
    ap (with_first (report_at (k + i) t w ∷ [])) (rw next at (block-later k (suc i) room as'))

with-first-followed : (why : Stop) (rs : List Reported) (b c : Block) → followed why (with_first rs b) c ≡ with_first rs (followed why b c)
with-first-followed AllTaken rs b c = ap₂ (λ (k : ℕ) (qs : List Reported). record { taken = k; reports = qs; stop = c.stop }) (suc-add b.taken c.taken) (append_assoc rs b.reports c.reports)
with-first-followed UnknownSymbol rs b c = refl
with-first-followed NoRoom rs b c = refl

pub block-append : (i room : ℕ) (as' bs : List Answer)
    → block_in i room (as' ++ bs) ≡ followed (block_in i room as').stop (block_in i room as') (block_in (i + length as') (room - length (block_in i room as').reports) bs)
unfolding block_in
block-append i room [] bs =
    let all : room - 0 ≡ room = omega arith in
    let here : i + 0 ≡ i = omega arith in
    rw (all, here) (ap (λ (k : ℕ). record { taken = k; reports = (block_in i room bs).reports; stop = (block_in i room bs).stop }) (sym (zero-add (block_in i room bs).taken)))
block-append i room (Quiet ∷ as') bs =
    let first = block_in (suc i) room as' in
    let place : i + suc (length as') ≡ suc i + length as' = omega arith in
    rw place (ap (with_first []) (block-append (suc i) room as' bs) ∙ sym (with-first-followed first.stop [] first (block_in (suc i + length as') (room - length first.reports) bs)))
block-append i room (Answer.Refused x ∷ as') bs = refl
block-append i zero (Report t w ∷ as') bs = refl
block-append i (suc room) (Report t w ∷ as') bs =
    let first = block_in (suc i) room as' in
    let place : i + suc (length as') ≡ suc i + length as' = omega arith in
    let left : suc room - suc (length first.reports) ≡ room - length first.reports = omega arith in
    rw (place, left)
    (ap (with_first (report_at i t w ∷ [])) (block-append (suc i) room as' bs)
    ∙ sym (with-first-followed first.stop (report_at i t w ∷ []) first (block_in (suc i + length as') (room - length first.reports) bs)))

-- Splitting a block anywhere and feeding the parts one after the other gives the same symbols taken, reports and stop.
pub split-block : (r : Reader) (room : ℕ) (ss rs : List ℕ)
    → block_of r room (ss ++ rs) ≡ followed (block_of r room ss).stop (block_of r room ss) (later (length ss) (block_of (reader_after r ss) (room - length (block_of r room ss).reports) rs))
split-block r room ss rs =
    let first = block_of r room ss in
    let left = room - length first.reports in
    let bs = answers (reader_after r ss) rs in
    let place : 0 + length (answers r ss) ≡ length ss + 0 = omega (arith, length-feed-answers r ss) in
    ap (block_in 0 room) (feed-answers-append r ss rs)
    ∙ block-append 0 room (answers r ss) bs
    ∙ ap (followed first.stop first) (ap (λ (k : ℕ). block_in k left bs) place ∙ sym (block-later (length ss) 0 left bs))

pub all-taken : (i room : ℕ) (as' : List Answer) → (block_in i room as').stop ≡ AllTaken → (block_in i room as').taken ≡ length as'
all-taken i room as' all = rw all at (block-takes i room as').stops

pub split-reader : (r : Reader) (room : ℕ) (ss rs : List ℕ)
    → reader_after r (take (block_of r room (ss ++ rs)).taken (ss ++ rs))
    ≡ reader_followed (block_of r room ss).stop (reader_after r (take (block_of r room ss).taken ss))
    (reader_after (reader_after r ss) (take (block_of (reader_after r ss) (room - length (block_of r room ss).reports) rs).taken rs))
split-reader r room ss rs = rw (split-block r room ss rs) (by-stop first.stop refl)
  where
    first : Block
    first = block_of r room ss

    second : Block
    second = block_of (reader_after r ss) (room - length first.reports) rs

    front : reader_after r (take first.taken (ss ++ rs)) ≡ reader_after r (take first.taken ss)
    front = ap (reader_after r) (take-append-le first.taken ss rs (omega (arith, (block-takes 0 room (answers r ss)).within, length-feed-answers r ss)))

    by-stop : (why : Stop) → first.stop ≡ why
        → reader_after r (take (followed why first (later (length ss) second)).taken (ss ++ rs)) ≡ reader_followed why (reader_after r (take first.taken ss)) (reader_after (reader_after r ss) (take second.taken rs))
    by-stop AllTaken e =
        let all : first.taken ≡ length ss = all-taken 0 room (answers r ss) e ∙ length-feed-answers r ss in
        rw (all, take-append-add ss rs second.taken) (reader-append r ss (take second.taken rs))
    by-stop UnknownSymbol e = front
    by-stop NoRoom e = front

taken-not-refused : (taken reports : ℕ) (why : Stop) (x : Refusal) → block_taken taken reports why ≡ Err x → ⊥
taken-not-refused taken reports why x h = let n : ◌≡◌ {A = ℕ} 0 1 = cc in omega arith

-- ---- demand 1: a refused block leaves the reader and the five lists as they were

pub refused-block-leaves : (r : Reader) (ss : List ℕ) (l : Lists) (x : Refusal) → (feed_block_of r ss l).answer ≡ Err x → ((feed_block_of r ss l).reader ≡ r) × (lists_left (block_for r ss l) l ≡ l)
unfolding feed_block_of block_answer block_for field_left reader_after
refused-block-leaves r ss l x h =
    by-test (is_valid r)
    (λ v.
    by-test (is_setting r.setting)
    (λ k.
    by-test (are_records l)
    (λ y. absurd (taken-not-refused _ _ _ x (rw (v, k, y) at h)))
    (λ n. rw (v, k, n) (refl, refl)))
    (λ n. rw (v, n) (refl, refl)))
    (λ n. rw n (refl, refl))

-- ---- the answers to the symbols of a block, from its records

-- The first records are the reports.
pub records-are-reports : (b : Block) (l : Lists) → records_in (length b.reports) (lists_left b l) ≡ b.reports
unfolding record_at
records-are-reports b l =
    ext_get_or no_report (tabulate n 0 (record_at (lists_left b l))) b.reports (length-tabulate n 0 (record_at (lists_left b l)))
    (λ k h.
    let inside : k < length b.reports = omega (arith, length-tabulate n 0 (record_at (lists_left b l))) in
    get_d_tabulate n 0 (record_at (lists_left b l)) no_report k inside
    ∙ ap (record_at (lists_left b l)) (zero-add k)
    ∙ rw (put-at index_of refl l.indexes k inside, put-at year_of refl l.years k inside, put-at day_of refl l.days k inside, put-at hundredths_of refl l.hundredths k inside, put-at control_of refl l.controls k inside))
  where
    n : ℕ
    n = length b.reports

    no_report : Reported
    no_report = report_at 0 (no_time) 0

    put-at : (field : Reported → ℕ) → field no_report ≡ 0 → (entries : List ℕ) (k : ℕ) → k < length b.reports → get_or (field_left field b entries) k 0 ≡ field (get_or b.reports k no_report)
    put-at field z entries k h = left-first field b entries k h ∙ ap (get_or (map field b.reports) k) (sym z) ∙ get_or-map field b.reports k no_report

quiet-before : (i j n : ℕ) (as' : List Answer) → i < j → answers_from i (suc n) (reports_in j as') ≡ Quiet ∷ answers_from (suc i) n (reports_in j as')
quiet-before i j n [] h = refl
quiet-before i j n (Quiet ∷ as') h = quiet-before i (suc j) n as' (omega arith)
quiet-before i j n (Report t w ∷ as') h = rw (ne_eqb j i (λ e. let no : ⊥ = omega arith in no))
quiet-before i j n (Answer.Refused x ∷ as') h = quiet-before i (suc j) n as' (omega arith)

-- Where none is refused, the reports with their indexes give all answers back.
pub answers-from-reports : (i : ℕ) (as' : List Answer) → ((k : ℕ) → k < length as' → (x : Refusal) (none : Answer) → get_or as' k none ≡ Answer.Refused x → ⊥) → answers_from i (length as') (reports_in i as') ≡ as'
answers-from-reports i [] h = refl
answers-from-reports i (Quiet ∷ as') h =
    quiet-before i (suc i) (length as') as' (omega arith) ∙ ap (λ (xs : List Answer). Quiet ∷ xs) (answers-from-reports (suc i) as' (λ k b. h (suc k) (omega arith)))
answers-from-reports i (Report t w ∷ as') h = rw (eq-eqb i i refl) (ap (λ (xs : List Answer). Report t w ∷ xs) (answers-from-reports (suc i) as' (λ k b. h (suc k) (omega arith))))
answers-from-reports i (Answer.Refused x ∷ as') h = absurd (h 0 (omega arith) x Quiet refl)

-- The symbols that a block takes got the answers of single Feeds.
pub block-answers : (r : Reader) (room : ℕ) (ss : List ℕ) (l : Lists)
    → answers_from 0 (block_of r room ss).taken (records_in (length (block_of r room ss).reports) (lists_left (block_of r room ss) l)) ≡ answers r (take (block_of r room ss).taken ss)
block-answers r room ss l =
    let b = block_of r room ss in
    let takes = block-takes 0 room (answers r ss) in
    let long : length (take b.taken (answers r ss)) ≡ b.taken = length-take-le b.taken (answers r ss) takes.within in
    ap (answers_from 0 b.taken) (records-are-reports b l ∙ takes.reported)
    ∙ ap (λ (k : ℕ). answers_from 0 k (reports_in 0 (take b.taken (answers r ss)))) (sym long)
    ∙ answers-from-reports 0 (take b.taken (answers r ss))
    (λ k h x none e.
    let inside : k < b.taken = omega arith in
    takes.refused_none k inside x none (sym (get_or-take b.taken (answers r ss) k none inside) ∙ e))
    ∙ sym (answers-take r ss b.taken)
