-- A block that is being fed in the words of its reader, stride by stride.
use Rattle.block.specs.declared.Taken.{Taken}
use Rattle.timecode.specs.Answers.{accepted}
use Rattle.std.specs.Prelude.{◌≡◌, Bool, true, false, cond, ◌&&◌, List, [], ◌∷◌, ℕ, ◌+◌, ◌-◌, ◌%◌, ◌<◌, ◌≤◌, eqb, leb, get_or, length, set, Result, Err}
use Rattle.std.proofs.Math.Path.{refl, sym, ap}
use Rattle.std.proofs.Common.{ap₂, subst, ◌∙◌, zero-add, add-one, arith}
use borrow.Author.Tests.{eqb-true, leb-true, leb-false}
use Rattle.std.proofs.Math.ListN.{take}
use Rattle.std.proofs.Math.Seq.{take-suc}
use Rattle.timecode.specs.Formats.{is_symbol, size}
use Rattle.timecode.proofs.Laws.Checks.{refused-no-report}
use Rattle.timecode.proofs.Laws.Tests.{by-test, and_left, and_right}
use Rattle.timecode.specs.Stream.{is_setting}
use Rattle.timecode.specs.declared.Answer.{Answer}
use Rattle.timecode.specs.declared.Answer.TheVariants.{Quiet, Report}
use Rattle.timecode.specs.declared.Refusal.{Refusal}
use Rattle.timecode.specs.declared.Time.{Time}
use Rattle.stream.proofs.FeedLists.{answers_at, length-feed-answers, reader-append, setting-next, valid-next, refused-above, quiet-no-refusal}
use Rattle.stream.specs.Feeding.{is_valid, next_of, answer_of, feed_of}
use Rattle.stream.specs.Refinement.{answers, reader_after}
use Rattle.stream.proofs.Refinement.{symbol-leaves}
use Rattle.stream.specs.declared.Reader.{Reader}
use Rattle.register.specs.Receiving.{receive_of, frame_of}
use Rattle.receive_many.specs.ManySymbols.{slice}
use Rattle.openings.specs.Accepted.{accepted_in, accepted-within, accepted-at}
use Rattle.stride.specs.Shown.{frame-in-block}
use Rattle.reader_words.proofs.WordLaws.{words_back, words-fit, next_fits, into-words}
use Rattle.reader_words.specs.Words.{words_for, reader_in, words_into, feed_words, words_left}
use Rattle.word_feed.specs.FrameEnds.{is_stored, words_if_stored, whole_register, received-whole}
use Rattle.word_feed.specs.InPlace.{Ready, is_inside, same-words, ready-place, ready-valid, ready-setting, ready-format, words-ready, inside-quiet, inside-left}
use Rattle.word_stride.specs.FewSymbols.{accepted-more}
use Rattle.word_stride.specs.WordRuns.{RunsIn}
use Rattle.block.specs.Blocks.{Block, report_at, block_of, Lists, room_in, are_records, field_left, lists_left, block_for, block_answer, feed_block_of, block_taken}
use Rattle.block.proofs.Folds.{block-takes}
use Rattle.block.specs.declared.FedBlock.{FedBlock}
use Rattle.block.specs.declared.Stop.{Stop}
use Rattle.block.specs.declared.Stop.TheVariants.{AllTaken, UnknownSymbol, NoRoom}
use Rattle.block_words.specs.BlockWords.{fed_block_with, block_words_left}
use Rattle.word_block.specs.Standing.{set_record, put_from, put-left, Even, stops_at, Standing, standing-quiet, standing-report, standing-full, standing-refused, standing-room, standing-fits, standing-end, FedTo, fed-start, fed-within, answers-slice, reader-slice, quiets}

pub records-even : (l : Lists) → are_records l ≡ true → Even l
records-even l h =
    let second = eqb (length l.years) (room_in l) in
    let third = eqb (length l.days) (room_in l) in
    let fourth = eqb (length l.hundredths) (room_in l) in
    let fifth = eqb (length l.controls) (room_in l) in
    let others = and_right second (third && (fourth && fifth)) h in
    let last = and_right third (fourth && fifth) others in (
      eqb-true (length l.years) (room_in l) (and_left second (third && (fourth && fifth)) h),
      eqb-true (length l.days) (room_in l) (and_left third (fourth && fifth) others),
      eqb-true (length l.hundredths) (room_in l) (and_left fourth fifth last),
      eqb-true (length l.controls) (room_in l) (and_right fourth fifth last),
    )

-- ---- the block that stops

abbrev taken_block : Reader → ℕ → ℕ → Stop → FedBlock
taken_block r taken reports why = fed_block_with r (block_taken taken reports why)

module _ (r : Reader) (ss : List ℕ) (l : Lists) where
  pub block_refused : (x : Refusal) → (is_valid r && (is_setting r.setting && are_records l)) ≡ false → Err x ≡ block_answer r ss l → (fed_block_with r (Err x) ≡ feed_block_of r ss l) × (l ≡ lists_left (block_for r ss l) l)
  unfolding feed_block_of block_for field_left reader_after
  block_refused x n e = (rw n (ap (fed_block_with r) e), rw n)

  block-taken : {i reports : ℕ} {l₁ : Lists} {current : Reader} {why : Stop} → is_valid r ≡ true → is_setting r.setting ≡ true → are_records l ≡ true → FedTo r ss l i reports l₁ current
      → block_of r (room_in l) ss ≡ stops_at 0 (room_in l) (answers r ss) i why → (taken_block current i reports why ≡ feed_block_of r ss l) × (l₁ ≡ lists_left (block_for r ss l) l)
  unfolding feed_block_of block_for block_answer
  block-taken {i} {why = why} v is_set same g stops = (
    rw (v, is_set, same, stops) (ap₂ (λ (q : Reader) (k : ℕ). taken_block q i k why) g.reader g.standing.counted),
    rw (v, is_set, same) (g.standing.filled ∙ ap (λ (b : Block). put_from 0 b.reports l) (sym stops) ∙ put-left (block_of r (room_in l) ss) l (block-takes 0 (room_in l) (answers r ss)).fits (records-even l same)),
  )

-- ---- i symbols are fed to the words

format-next : (r : Reader) (s : ℕ) → (next_of r s).format ≡ r.format
unfolding next_of
format-next r s = by-test (is_valid r && (is_setting r.setting && is_symbol s)) (λ y. rw y (symbol-leaves r s).0) (λ n. rw n)

pub record FedIn (words₀ : List ℕ) (n : ℕ) (ss : List ℕ) (l₀ : Lists) (i reports : ℕ) (l : Lists) (words : List ℕ) : Type 0 where
  pub fed : FedTo (reader_in words₀) ss l₀ i reports l (reader_in words)
  pub accepted : i ≤ accepted_in ss
  pub ready : Ready words n
  pub long : length words ≡ 14

pub in_start : {words₀ : List ℕ} {n : ℕ} {ss : List ℕ} {l₀ : Lists} → Ready words₀ n → length words₀ ≡ 14 → FedIn words₀ n ss l₀ 0 0 l₀ words₀
in_start {words₀} {n} {ss} at long = record { fed = fed-start (reader_in words₀) ss; accepted = omega arith; ready = at; long = long }

-- what the call gives and leaves
abbrev pub Gives : List ℕ → List ℕ → Lists → Result Taken Refusal → List ℕ → Lists → Type 0
Gives words₀ ss l₀ answer words l =
    (answer ≡ (feed_block_of (reader_in words₀) ss l₀).answer) × ((words ≡ block_words_left (feed_block_of (reader_in words₀) ss l₀) words₀) × (l ≡ lists_left (block_for (reader_in words₀) ss l₀) l₀))

module _ {words₀ : List ℕ} {n : ℕ} {ss : List ℕ} {l₀ : Lists} {i reports : ℕ} {l : Lists} {words : List ℕ} (g : FedIn words₀ n ss l₀ i reports l words) where
  abbrev r : Reader
  r = reader_in words

  abbrev s : ℕ
  s = get_or ss i 0

  abbrev next : Reader
  next = next_of r s

  valid-there : is_valid r ≡ true
  valid-there = ready-valid words n g.ready

  set_there : is_setting r.setting ≡ true
  set_there = ready-setting words n g.ready

  -- the next reader's words
  next-words : words_into words next ≡ words_for next
  next-words = ap (λ (ws : List ℕ). words_into ws next) (same-words words n g.ready g.long) ∙ into-words r next

  next-ready : Ready (words_for next) n
  next-ready =
      let same : size next.format ≡ n = ap size (format-next r s) ∙ ready-format words n g.ready in
      let set : is_setting next.setting ≡ true = ap is_setting (setting-next r s) ∙ set_there in
      subst (Ready (words_for next)) same (words-ready next (next_fits r s (words-fit words)) (valid-next r s valid-there) set)

  -- it is not fed in the words, which are as they were
  pub in-outside : {left : List ℕ} → is_inside words s n ≡ false → left ≡ cond (is_inside words s n) (words_left (feed_words words s) words) words → FedIn words₀ n ss l₀ i reports l left
  in-outside {left} outside e = let same : left ≡ words = rw outside at e in rw same g

  pub in-still : {left : List ℕ} → is_inside words s n ≡ false → left ≡ cond (is_inside words s n) (words_left (feed_words words s) words) words → is_inside left s n ≡ false
  in-still {left} outside e = let same : left ≡ words = rw outside at e in rw same outside

  -- a run
  pub in-run : {stop : ℕ} {left : List ℕ} → RunsIn words n ss i (accepted_in ss) left stop → FedIn words₀ n ss l₀ stop reports l left
  in-run {stop} {left} run =
      let there : i + (stop - i) ≡ stop = omega (arith, run.start) in
      let within : i + (stop - i) ≤ length ss = omega (arith, run.within, accepted-within ss, there) in
      let same : slice ss i (i + (stop - i)) ≡ slice ss i stop = ap (slice ss i) there in
      let quiet = quiets g.fed (stop - i) within (λ k b. answers-slice g.fed (stop - i) within Quiet k b ∙ rw same (run.quiet Quiet k b)) in
      record {
        fed = record { standing = rw there at quiet; reader = rw there at (reader-slice g.fed (stop - i) within (reader_in left) (run.reader_is ∙ ap (reader_after r) (sym same))) };
        accepted = run.within;
        ready = run.ready;
        long = run.long;
      }

  module _ (h : i < length ss) where
    -- its answer is the block's
    answer_at : get_or (answers (reader_in words₀) ss) i Quiet ≡ answer_of r s
    answer_at = answers_at (reader_in words₀) ss Quiet i h ∙ ap (λ (q : Reader). answer_of q s) (sym g.fed.reader)

    within : i < length (answers (reader_in words₀) ss)
    within = rw (length-feed-answers (reader_in words₀) ss) h

    reader-on : next ≡ reader_after (reader_in words₀) (take (i + 1) ss)
    unfolding reader_after feed_of
    reader-on =
        ap (λ (q : Reader). next_of q s) g.fed.reader
        ∙ sym (ap (reader_after (reader_in words₀)) (ap (λ (k : ℕ). take k ss) (add-one i) ∙ take-suc ss i 0 h) ∙ reader-append (reader_in words₀) (take i ss) (s ∷ []))

    -- the symbol is taken
    goes_on : {reports₁ : ℕ} {l₁ : Lists} {left : List ℕ} → s ≤ 3 → Standing (answers (reader_in words₀) ss) l₀ (i + 1) reports₁ l₁ → left ≡ words_into words next → FedIn words₀ n ss l₀ (i + 1) reports₁ l₁ left
    unfolding words_for
    goes_on {reports₁} {l₁} {left} small standing e =
        let is : left ≡ words_for next = e ∙ next-words in
        rw is
        (record {
          fed = record { standing = standing; reader = words_back next (next_fits r s (words-fit words)) ∙ reader-on };
          accepted = accepted-more ss i g.accepted h small;
          ready = next-ready;
          long = refl;
        })

    -- no frame is whole with it
    pub in-inside : {left : List ℕ} → is_inside words s n ≡ true → left ≡ cond (is_inside words s n) (words_left (feed_words words s) words) words → FedIn words₀ n ss l₀ (i + 1) reports l left
    unfolding feed_of
    in-inside {left} inside e =
        let quiet = inside-quiet words s n g.ready inside in
        let small = (inside-left words s n g.ready g.long inside left e).0 in
        goes_on small (standing-quiet g.fed.standing within Quiet (answer_at ∙ quiet)) (rw (inside, quiet) at e)

    -- a run may follow it
    pub in-before-run : {left : List ℕ} → is_inside words s n ≡ true → left ≡ cond (is_inside words s n) (words_left (feed_words words s) words) words → (get_or left 4 0 < n) × (get_or left 5 0 % 4 ≡ get_or ss (i + 1 - 1) 0)
    in-before-run {left} inside e =
        let back : i + 1 - 1 ≡ i = omega arith in
        rw back (inside-left words s n g.ready g.long inside left e).1

    -- a frame is whole with it, or it is refused
    module _ (outside : is_inside words s n ≡ false) where
      pub in_frame : Ready words₀ n → s ≤ 3 → n ≤ i + 1 → frame_of (whole_register words s n) n ≡ slice ss (i + 1 - n) (i + 1)
      unfolding reader_in
      in_frame at₀ small b =
          let more = accepted-more ss i g.accepted h small in
          frame-in-block (reader_in words₀) ss i r.format n (ready-valid words₀ n at₀, ready-setting words₀ n at₀) (ready-place words n g.ready).1 h (λ j u. accepted-at ss j (omega arith)) b (whole_register words s n)
          (sym (received-whole words s n g.ready g.long small outside) ∙ ap (λ (q : Reader). receive_of r.format n q.received s) g.fed.reader)
          refl

      module _ {a : Answer} (room : Bool) {left : List ℕ} (is : a ≡ (feed_words words s).answer) (e : left ≡ words_if_stored room (feed_words words s) words) where
        answered : {b : Answer} → a ≡ b → get_or (answers (reader_in words₀) ss) i Quiet ≡ b
        unfolding feed_of
        answered q = answer_at ∙ sym is ∙ q

        stored : {b : Answer} → a ≡ b → is_stored room b ≡ true → left ≡ words_into words next
        unfolding feed_of
        stored q y = e ∙ rw (sym is ∙ q, y)

        -- what is not refused is a symbol
        accepted-symbol : {b : Answer} → a ≡ b → (Answer.Refused Refusal.UnknownSymbol ≡ b → ⊥) → s ≤ 3
        unfolding feed_of
        accepted-symbol q never =
            by-test (leb s 3)
            (λ y. leb-true s 3 y)
            (λ m. absurd (never (sym (refused-above r s valid-there set_there (leb-false s 3 m)) ∙ sym is ∙ q)))

        pub in-quiet : a ≡ Quiet → FedIn words₀ n ss l₀ (i + 1) reports l left
        in-quiet quiet =
            goes_on (accepted-symbol quiet (λ z. quiet-no-refusal Refusal.UnknownSymbol (sym z))) (standing-quiet g.fed.standing within Quiet (answered quiet)) (stored quiet refl)

        pub in-report : {l₁ : Lists} {t : Time} {w : ℕ} → a ≡ Report t w → room ≡ true → reports < room_in l → l₁ ≡ set_record l reports (report_at i t w) → FedIn words₀ n ss l₀ (i + 1) (reports + 1) l₁ left
        in-report {l₁} {t} {w} report some fits put =
            let record_is : l₁ ≡ set_record l reports (report_at (0 + i) t w) = put ∙ ap (λ (k : ℕ). set_record l reports (report_at k t w)) (sym (zero-add i)) in
            goes_on (accepted-symbol report (λ z. refused-no-report Refusal.UnknownSymbol t w z)) (rw record_is (standing-report g.fed.standing within Quiet t w (answered report) fits)) (stored report some)

        -- it is not taken: the words are as they were
        pub in_kept : {b : Answer} → a ≡ b → is_stored room b ≡ false → left ≡ words
        in_kept q none = e ∙ rw (sym is ∙ q, none)

  -- the reports that are put in, and room for one more
  in-room : are_records l₀ ≡ true → reports ≤ room_in l
  in-room records = (standing-room g.fed.standing (records-even l₀ records)).0

  pub in-fits : are_records l₀ ≡ true → (reports ≡ room_in l → ⊥) → (reports < room_in l) × (reports < length l.years) × (reports < length l.days) × (reports < length l.hundredths) × (reports < length l.controls)
  in-fits records some = standing-fits g.fed.standing (records-even l₀ records) (omega (arith, in-room records, some))

  -- it stops there
  module _ (at₀ : Ready words₀ n) (long₀ : length words₀ ≡ 14) (records : are_records l₀ ≡ true) {answer : Result Taken Refusal} where
    stops : {why : Stop} → block_of (reader_in words₀) (room_in l₀) ss ≡ stops_at 0 (room_in l₀) (answers (reader_in words₀) ss) i why → answer ≡ block_taken i reports why → Gives words₀ ss l₀ answer words l
    stops {why} stop e =
        let given = block-taken (reader_in words₀) ss l₀ (ready-valid words₀ n at₀) (ready-setting words₀ n at₀) records g.fed stop in
        let put : words ≡ words_into words₀ r =
        same-words words n g.ready g.long ∙ sym (ap (λ (ws : List ℕ). words_into ws r) (same-words words₀ n at₀ long₀) ∙ into-words (reader_in words₀) r) in
        (rw (← given.0) e, (rw (← given.0) put, given.1))

    pub in_end : length ss ≤ i → answer ≡ block_taken i reports AllTaken → Gives words₀ ss l₀ answer words l
    in_end all e = stops (standing-end g.fed.standing (omega (arith, all, fed-within g.fed, length-feed-answers (reader_in words₀) ss))) e

    module _ (h : i < length ss) {a : Answer} (is : a ≡ (feed_words words s).answer) where
      pub in-unknown : {x : Refusal} → a ≡ Answer.Refused x → answer ≡ block_taken i reports UnknownSymbol → Gives words₀ ss l₀ answer words l
      unfolding feed_of
      in-unknown {x} refused e = stops (standing-refused g.fed.standing (within h) Quiet x (answer_at h ∙ sym is ∙ refused)) e

      pub in-full : {t : Time} {w : ℕ} → a ≡ Report t w → reports ≡ room_in l → answer ≡ block_taken i reports NoRoom → Gives words₀ ss l₀ answer words l
      unfolding feed_of
      in-full {t} {w} report full e = stops (standing-full g.fed.standing (within h) Quiet t w (answer_at h ∙ sym is ∙ report) full) e
