-- Demand 3 with the setting k, of the program's reader: from a fresh reader of any format and setting, the answers to any list of Feeds are the plain machine's.
use Rattle.std.specs.Prelude.{◌≡◌, false, ℕ, ◌+◌, ◌-◌, ◌%◌, ◌≤◌, leb, eqb, length}
use Rattle.std.proofs.Math.Path.{refl, sym, ap, ap₂}
use Rattle.std.proofs.Common.{◌∙◌, mod-lt, arith, length-append}
use Rattle.std.proofs.Math.Bool.{true, cond}
use mathlib.Core.List.{List, [], ◌∷◌, ◌++◌}
use Rattle.std.proofs.Math.Nat.{zero-mod, mod-add-mod}
use borrow.Author.Tests.{lt-ltb, leb-true, eqb-true, eqb-false, eq-eqb, ne_eqb}
use Rattle.timecode.specs.Demand3.{Demand3, SameAnswers}
use Rattle.timecode.proofs.Demand3.{holds-the-elements, demand-3, two-readers}
use Rattle.timecode.specs.Formats.{is_symbol, known, size}
use Rattle.timecode.specs.Frames.{read_of}
use Rattle.timecode.proofs.Laws.Checks.{by-reading}
use Rattle.timecode.proofs.Laws.Marks.{size-positive}
use Rattle.timecode.proofs.Laws.Table.{size-range}
use Rattle.timecode.proofs.Laws.Tests.{by-test}
use Rattle.timecode.specs.Stream.{is_setting, plain_feed, plain_answers, plain_received, elements_of, SameWindow}
use Rattle.timecode.specs.declared.Answer.{Answer}
use Rattle.timecode.specs.declared.Format.{Format}
use Rattle.following.specs.Rows.{opens_frame}
use Rattle.following.specs.Following.{Following, nothing_received, with_reading, following_next, following_answer}
use Rattle.following.proofs.Equal.{step, fresh-describes, following-plain, setting-range}
use Rattle.register.specs.Receiving.{receive_of, frame_of}
use Rattle.register.specs.Contents.{Shows, pushed-low, whole-frame, shows-opened, shows-idle, shows-lost, shows-grown, receive-newest, receive-row}
use Rattle.register.specs.declared.Register.{Register}
use Rattle.stream.specs.Feeding.{fresh_register, fresh_reader, is_valid, with_row, with_register, reader_with_reading, when_whole, with_symbol_of, next_of, answer_after, answer_of, feed_of}
use Rattle.stream.specs.declared.Reader.{Reader}
use Rattle.stream.specs.Refinement.{answers, reader_after, Shown, Receives}

-- ---- a list of Feeds: each takes the reader that the Feed before gave back

-- a frame that is not whole is left as it is
not_whole : (r : Reader) → (r.received.count ≡ size r.format → ⊥) → when_whole r ≡ r
unfolding when_whole
not_whole r n = rw (ne_eqb r.received.count (size r.format) n)

shows-with-row : (h : Register) (frame : List ℕ) (c : ℕ) → Shows h frame → Shows (with_row h c) frame
shows-with-row h frame c sh = record { count_is = sh.count_is; newest_is = sh.newest_is; words_are = sh.words_are }

opened-row : (f : Format) (n : ℕ) (h : Register) (s : ℕ) → opens_frame f (h.newest % 4) s ≡ true → (receive_of f n h s).row ≡ cond (eqb h.count n) h.row 0
unfolding receive_of
opened-row f n h s y = rw y

idle-row : (f : Format) (n : ℕ) (h : Register) (s : ℕ) → opens_frame f (h.newest % 4) s ≡ false → eqb h.count 0 ≡ true → (receive_of f n h s).row ≡ h.row
unfolding receive_of
idle-row f n h s y e = rw (y, e)

lost-row : (f : Format) (n : ℕ) (h : Register) (s : ℕ) → opens_frame f (h.newest % 4) s ≡ false → eqb h.count 0 ≡ false → leb n h.count ≡ true → (receive_of f n h s).row ≡ 0
unfolding receive_of
lost-row f n h s y e l = rw (y, e, l)

module _ (f : Format) (r : Reader) (x : Following) (place s : ℕ) (b : s ≤ 3) (fo : Shown f r x) where
  abbrev n : ℕ
  n = size f

  abbrev next : Register
  next = receive_of f n r.received s

  low : next.newest % 4 ≡ s
  low = ap (λ (w : ℕ). w % 4) (receive-newest f n r.received s) ∙ pushed-low r.received.newest s b

  -- a symbol that makes no frame whole
  partly : (frame : List ℕ) (row : ℕ) → Shows next frame → next.row ≡ row → (length frame ≡ n → ⊥) → Shown f (when_whole (with_register r place next)) (record { last = s; frame = frame; row = row; time = x.time; control = x.control })
  partly frame row sh c other =
      rw (not_whole (with_register r place next) (λ e. other (sym sh.count_is ∙ e ∙ ap size fo.same_format))) (
      record { same_format = fo.same_format; shows = sh; last_is = low; row_is = c; time_is = fo.time_is; control_is = fo.control_is }
      )

  count_same : r.received.count ≡ length x.frame
  count_same = fo.shows.count_is

  -- a symbol that makes a frame whole
  wholly : Shows next (x.frame ++ (s ∷ [])) → next.row ≡ x.row → length (x.frame ++ (s ∷ [])) ≡ n → Shown f (when_whole (with_register r place next)) (with_reading f x s (read_of f (x.frame ++ (s ∷ []))))
  unfolding when_whole reader_with_reading with_reading
  wholly sh c e =
      let all : next.count ≡ size r.format = sh.count_is ∙ e ∙ sym (ap size fo.same_format) in
      let read : frame_of next (size r.format) ≡ x.frame ++ (s ∷ []) = rw fo.same_format (whole-frame next (x.frame ++ (s ∷ [])) n (omega (arith, size-range f)) e sh) in
      rw (eq-eqb next.count (size r.format) all, read, fo.same_format)
      (by-reading (read_of f (x.frame ++ (s ∷ [])))
      (λ q z. rw z (record { same_format = refl; shows = shows-with-row next (x.frame ++ (s ∷ [])) 0 sh; last_is = low; row_is = refl; time_is = fo.time_is; control_is = fo.control_is }))
      (λ t w z. rw z (record { same_format = refl; shows = shows-with-row next (x.frame ++ (s ∷ [])) _ sh; last_is = low; row_is = rw (c, fo.time_is); time_is = refl; control_is = refl })))

  shown-next : Shown f (when_whole (with_register r place next)) (following_next f x s)
  unfolding following_next
  shown-next =
      let k = size-range f in
      let same : opens_frame f (r.received.newest % 4) s ≡ opens_frame f x.last s = ap (λ (l : ℕ). opens_frame f l s) fo.last_is in
      by-test (opens_frame f x.last s)
      (λ y.
      rw y (partly (s ∷ []) (cond (eqb (length x.frame) n) x.row 0) (shows-opened f n r.received s b (same ∙ y)) (row_opened (same ∙ y)) (λ e. omega arith)))
      (λ y.
      by-test (eqb (length x.frame) 0)
      (λ e. rw (y, e) (partly [] x.row (shows-idle f n r.received s (same ∙ y) (count_same ∙ eqb-true (length x.frame) 0 e)) (row-idle (same ∙ y) (rw (← count_same) at e)) (λ z. omega arith)))
      (λ e.
      by-test (leb n (length x.frame))
      (λ l. rw (y, e, l) (partly [] 0 (shows-lost f n r.received s (same ∙ y) (rw (← count_same) at e) (rw (← count_same) at l)) (row-lost (same ∙ y) (rw (← count_same) at e) (rw (← count_same) at l)) (λ z. omega arith)))
      (λ l.
      let sh = shows-grown f n r.received x.frame s b (same ∙ y) (rw (← count_same) at e) (rw (← count_same) at l) fo.shows in
      let c : next.row ≡ x.row = receive-row f n r.received s (same ∙ y) (rw (← count_same) at e) (rw (← count_same) at l) ∙ fo.row_is in
      by-test (eqb (length x.frame + 1) n)
      (λ z. rw (y, e, l, z) (wholly sh c (length-append x.frame (s ∷ []) ∙ eqb-true (length x.frame + 1) n z)))
      (λ z. rw (y, e, l, z) (partly (x.frame ++ (s ∷ [])) x.row sh c (λ q. eqb-false (length x.frame + 1) n z (sym (length-append x.frame (s ∷ [])) ∙ q)))))))
    where
      row_opened : opens_frame f (r.received.newest % 4) s ≡ true → next.row ≡ cond (eqb (length x.frame) n) x.row 0
      row_opened y = opened-row f n r.received s y ∙ rw (count_same, fo.row_is)

      row-idle : opens_frame f (r.received.newest % 4) s ≡ false → eqb r.received.count 0 ≡ true → next.row ≡ x.row
      row-idle y e = idle-row f n r.received s y e ∙ fo.row_is

      row-lost : opens_frame f (r.received.newest % 4) s ≡ false → eqb r.received.count 0 ≡ false → leb n r.received.count ≡ true → next.row ≡ 0
      row-lost y e l = lost-row f n r.received s y e l

-- ---- one Feed

fresh-low : fresh_register.newest % 4 ≡ 3
fresh-low = omega arith

pub fresh-receives : (f : Format) (k : ℕ) → Receives f k (fresh_reader f k) []
fresh-receives f k =
    record {
      setting_is = refl;
      place_is = sym (zero-mod (size f));
      state = nothing_received;
      shown = record {
        same_format = refl;
        shows = record { count_is = refl; newest_is = λ j l m. let z : ⊥ = omega arith in absurd z; words_are = λ j i u l m. let z : ⊥ = omega arith in absurd z };
        last_is = fresh-low;
        row_is = refl;
        time_is = refl;
        control_is = refl;
      };
      describes = fresh-describes f;
    }

-- what a symbol leaves: the format and the setting; the place goes on by one, modulo n
whole-leaves : (r : Reader) → ((when_whole r).format ≡ r.format) × (((when_whole r).setting ≡ r.setting) × ((when_whole r).place ≡ r.place))
unfolding when_whole reader_with_reading
whole-leaves r =
    by-test (eqb r.received.count (size r.format))
    (λ y. by-reading (read_of r.format (frame_of r.received (size r.format))) (λ q z. rw (y, z) (refl, (refl, refl))) (λ t w z. rw (y, z) (refl, (refl, refl))))
    (λ n. rw n (refl, (refl, refl)))

pub symbol-leaves : (r : Reader) (s : ℕ) → ((with_symbol_of r s).format ≡ r.format) × (((with_symbol_of r s).setting ≡ r.setting) × ((with_symbol_of r s).place ≡ (r.place + 1) % size r.format))
unfolding with_symbol_of
symbol-leaves r s = whole-leaves (with_register r ((r.place + 1) % size r.format) (receive_of r.format (size r.format) r.received s))

symbol-receives : (f : Format) (k : ℕ) (r : Reader) (received : List ℕ) (s : ℕ) → s ≤ 3 → Receives f k r received → Receives f k (with_symbol_of r s) (received ++ (s ∷ []))
unfolding with_symbol_of
symbol-receives f k r received s b h =
    let left = symbol-leaves r s in
    record {
      setting_is = left.1.0 ∙ h.setting_is;
      place_is = left.1.1 ∙ rw (h.shown.same_format, h.place_is, length-append received (s ∷ [])) (mod-add-mod (length received) (size f) 1);
      state = following_next f h.state s;
      shown = rw h.shown.same_format (rw h.shown.same_format at (shown-next f r h.state ((r.place + 1) % size r.format) s b h.shown));
      describes = step f h.state received s h.describes;
    }

answer-is : (f : Format) (k : ℕ) (r : Reader) (received : List ℕ) (h : Receives f k r received) → answer_after r ≡ following_answer f k h.state
unfolding answer_after following_answer
answer-is f k r received h = rw (h.shown.same_format, h.shown.shows.count_is, h.setting_is, h.shown.row_is, h.shown.time_is, h.shown.control_is)

-- ---- Demand 3

module _ (f : Format) (k : ℕ) (y : known f ≡ true) (set : is_setting k ≡ true) where
  pub receives-valid : (r : Reader) (received : List ℕ) → Receives f k r received → is_valid r ≡ true
  unfolding is_valid
  receives-valid r received h = rw (h.shown.same_format, y, h.place_is) (lt-ltb (length received % size f) (size f) (mod-lt (length received) (size-positive f)))

  pub receives-setting : (r : Reader) (received : List ℕ) → Receives f k r received → is_setting r.setting ≡ true
  receives-setting r received h = ap is_setting h.setting_is ∙ set

  pub feed-receives : (r : Reader) (received : List ℕ) (s : ℕ) → Receives f k r received → ((feed_of r s).answer ≡ (plain_feed f k received s).answer) × Receives f k (feed_of r s).reader (plain_feed f k received s).received
  unfolding feed_of answer_of next_of plain_feed
  feed-receives r received s h =
      let valid = receives-valid r received h in
      let ok = receives-setting r received h in
      let range = setting-range k set in
      by-test (is_symbol s)
      (λ z.
      let on = symbol-receives f k r received s (leb-true s 3 z) h in
      rw (valid, ok, z) (answer-is f k (with_symbol_of r s) (received ++ (s ∷ [])) on ∙ following-plain f k on.state (received ++ (s ∷ [])) range.0 range.1 on.describes, on))
      (λ n. rw (valid, ok, n) (refl, h))

  pub answers-plain : (r : Reader) (received ss : List ℕ) → Receives f k r received → answers r ss ≡ plain_answers f k received ss
  unfolding answers plain_answers
  answers-plain r received [] h = refl
  answers-plain r received (s ∷ ss) h =
      let fed = feed-receives r received s h in
      ap₂ (λ (a : Answer) (as' : List Answer). a ∷ as') fed.0 (answers-plain (feed_of r s).reader (plain_feed f k received s).received ss fed.1)

  pub receives-after : (r : Reader) (received ss : List ℕ) → Receives f k r received → Receives f k (reader_after r ss) (plain_received f k received ss)
  unfolding reader_after plain_received
  receives-after r received [] h = h
  receives-after r received (s ∷ ss) h = receives-after (feed_of r s).reader (plain_feed f k received s).received ss (feed-receives r received s h).1

  -- With every Feed of the list the answer is the plain machine's, refusals too.
  pub answers-are-plain : (ss : List ℕ) → answers (fresh_reader f k) ss ≡ plain_answers f k [] ss
  answers-are-plain ss = answers-plain (fresh_reader f k) [] ss (fresh-receives f k)

  -- So all that demand 3 says holds of them.
  pub reader-demand-3 : (ss : List ℕ) (none : Answer) → Demand3 f k ss (answers (fresh_reader f k) ss) none
  reader-demand-3 ss none = demand-3 f k set ss (answers (fresh_reader f k) ss) (answers-are-plain ss) none

  pub two-readers-agree : (ss rs xs : List ℕ) → SameWindow f k (elements_of ss) (elements_of rs)
      → (none : Answer) → SameAnswers ss rs (answers (fresh_reader f k) (ss ++ xs)) (answers (fresh_reader f k) (rs ++ xs)) none
  two-readers-agree ss rs xs = two-readers f k ss rs xs (answers (fresh_reader f k) (ss ++ xs)) (answers (fresh_reader f k) (rs ++ xs)) (answers-are-plain (ss ++ xs)) (answers-are-plain (rs ++ xs))

  pub fed-receives : (ss : List ℕ) → Receives f k (reader_after (fresh_reader f k) ss) (plain_received f k [] ss)
  fed-receives ss = receives-after (fresh_reader f k) [] ss (fresh-receives f k)

  -- A reader made by feeding a fresh one never meets 13 or 26, it keeps its setting, and its place is the number of its elements modulo n.
  pub fed-is-valid : (ss : List ℕ) → is_valid (reader_after (fresh_reader f k) ss) ≡ true
  fed-is-valid ss = receives-valid (reader_after (fresh_reader f k) ss) (plain_received f k [] ss) (fed-receives ss)

  pub fed-setting : (ss : List ℕ) → (reader_after (fresh_reader f k) ss).setting ≡ k
  fed-setting ss = (fed-receives ss).setting_is

  pub fed-has-setting : (ss : List ℕ) → is_setting (reader_after (fresh_reader f k) ss).setting ≡ true
  fed-has-setting ss = receives-setting (reader_after (fresh_reader f k) ss) (plain_received f k [] ss) (fed-receives ss)

  pub fed-place : (ss : List ℕ) → (reader_after (fresh_reader f k) ss).place ≡ length (elements_of ss) % size f
  fed-place ss = (fed-receives ss).place_is ∙ ap (λ (received : List ℕ). length received % size f) (holds-the-elements f k ss)
