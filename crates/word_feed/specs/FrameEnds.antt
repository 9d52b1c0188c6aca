-- The Feed with which a frame is whole, in the caller's words: the row that ends with it, its answer and the words after it.
use Rattle.std.proofs.Math.Path.{◌≡◌, refl, sym, ap, ap₂}
use Rattle.std.proofs.Common.{◌∙◌}
use Rattle.std.specs.Prelude.{Bool, false, cond, ℕ, ◌+◌, ◌%◌, ◌<◌, ◌≤◌, leb, ltb, eqb, get_or, length, set}
use Rattle.std.proofs.Math.Bool.{true}
use mathlib.Core.List.{List}
use native.Mathlib.Omega.{arith}
use borrow.Author.Tests.{lt-ltb, le-leb, ltb-true, eqb-true, eq-eqb}
use Rattle.timecode.specs.Formats.{table, look_up, row_of, known, size}
use Rattle.timecode.specs.Frames.{read_of}
use Rattle.timecode.specs.Laws.Table.{every_format}
use Rattle.timecode.proofs.Laws.Table.{of-every, size-range}
use Rattle.timecode.proofs.Laws.Tests.{by-test, clash}
use Rattle.timecode.specs.Stream.{is_setting}
use Rattle.timecode.specs.declared.Answer.{Answer}
use Rattle.timecode.specs.declared.Answer.TheVariants.{Quiet, Report}
use Rattle.timecode.specs.declared.Format.{Format}
use Rattle.following.specs.Rows.{opens_frame}
use Rattle.register.specs.Receiving.{push_of, continued_of, receive_of, frame_of}
use Rattle.register.specs.declared.Register.{Register}
use Rattle.stream.proofs.FeedLists.{refused-above}
use Rattle.stream.specs.Feeding.{is_valid, row_in, row_with, reader_with_row, with_register, when_whole, with_symbol_of, next_of, answer_after, answer_of, feed_of}
use Rattle.stream.proofs.Feeding.{with-row-reading}
use Rattle.stream.specs.declared.Fed.{Fed}
use Rattle.stream.specs.declared.Reader.{Reader}
use Rattle.stream.specs.declared.FrameRow.{FrameRow}
use Rattle.ffi.proofs.Fields.{refusal-numbered}
use Rattle.reader_words.proofs.WordLaws.{into-words}
use Rattle.reader_words.specs.Words.{words_for, reader_in, words_into, feed_words, words_left}
use Rattle.word_feed.specs.InPlace.{format_in, register_in, Ready, is_inside, setting_same, same-words, ready-valid, ready-setting}

-- the row in some words
abbrev pub row_at : ℕ → ℕ → ℕ → ℕ → ℕ → FrameRow
row_at count year day hundredths control = record { count = count; time = record { year = year % 256; day = day % 65536; hundredths = hundredths % 4294967296 }; control = control }

abbrev pub row_of_words : List ℕ → FrameRow
row_of_words words = row_at (get_or words 9 0) (get_or words 10 0) (get_or words 11 0) (get_or words 12 0) (get_or words 13 0)

-- the words that change with the end of a frame
abbrev pub whole_into : List ℕ → ℕ → ℕ → ℕ → FrameRow → List ℕ
whole_into words place newest n row =
    set (set (set (set (set (set (set (set words 10 row.time.year) 11 row.time.day) 12 row.time.hundredths) 13 row.control) 9 row.count) 5 newest) 4 n) 3 place

-- a report where the row is as long as the setting asks
unfoldable pub end_answer : ℕ → FrameRow → Answer
end_answer setting row = cond (leb setting row.count) (Report row.time row.control) Quiet

-- whether the words change: they do not where a report has no room, or the symbol is refused
abbrev pub is_stored : Bool → Answer → Bool
is_stored room Quiet = true
is_stored room (Report t w) = room
is_stored room (Answer.Refused x) = false

abbrev pub words_if_stored : Bool → Fed → List ℕ → List ℕ
words_if_stored room fed words = cond (is_stored room fed.answer) (words_into words fed.reader) words

-- the register that has the whole frame
abbrev pub whole_register : List ℕ → ℕ → ℕ → Register
whole_register words s n = continued_of (register_in words) (push_of (get_or words 5 0) s) n

-- no frame ends where a word of the register is full
no-word-full : every_format (λ f. ltb 0 (size f % 32)) ≡ true
unfolding every_format table size row_of look_up
no-word-full = refl

size-no-word : (f : Format) → known f ≡ true → size f % 32 ≡ 0 → ⊥
size-no-word f k e = let some = ltb-true 0 (size f % 32) (of-every (λ g. ltb 0 (size g % 32)) no-word-full f k) in omega arith

-- the words of the reader with a whole frame
same-packed : (r : Reader) (place newest n : ℕ) (row : FrameRow) → words_for (reader_with_row (with_register r place (continued_of r.received newest n)) row) ≡ whole_into (words_for r) place newest n row
unfolding words_for
same-packed r place newest n row = refl

-- with room for a report, the words are those of the Feed
pub room-left : (fed : Fed) (words : List ℕ) → words_if_stored true fed words ≡ words_left fed words
room-left fed words = go fed.answer refl
  where
    go : (a : Answer) → fed.answer ≡ a → words_if_stored true fed words ≡ words_left fed words
    go Quiet e = rw e
    go (Report t w) e = rw e
    go (Answer.Refused x) e = rw (e, refusal-numbered x)

-- a refused symbol leaves them
pub refused-left : (words : List ℕ) (s n : ℕ) → Ready words n → 3 < s → (room : Bool) → words_left (feed_words words s) words ≡ words_if_stored room (feed_words words s) words
unfolding feed_of
refused-left words s n at above room = rw (refused-above (reader_in words) s (ready-valid words n at) (ready-setting words n at) above)

-- a symbol with which a frame is whole
module _ (r : Reader) (s n : ℕ) (h : Register) (k : known r.format ≡ true) (z : n ≡ size r.format) (inside : r.place < n) (is_set : is_setting r.setting ≡ true) (small : s ≤ 3)
    (got : receive_of r.format n r.received s ≡ h) (whole : h.count ≡ n) where
  abbrev after : Reader
  after = with_register r ((r.place + 1) % n) h

  next_is : (row : FrameRow) → row ≡ row_with r.format (row_in after) (read_of r.format (frame_of h n)) → next_of r s ≡ reader_with_row after row
  unfolding next_of with_symbol_of when_whole is_valid
  next_is row e =
      rw (k, ← z, lt-ltb r.place n inside, is_set, le-leb s 3 small, got, eq-eqb h.count n whole) (sym (with-row-reading after (read_of r.format (frame_of h n))) ∙ ap (reader_with_row after) (sym e))

  answer-is : (row : FrameRow) → next_of r s ≡ reader_with_row after row → answer_of r s ≡ end_answer r.setting row
  unfolding answer_of answer_after is_valid end_answer
  answer-is row e = rw (e, k, ← z, lt-ltb r.place n inside, is_set, le-leb s 3 small, eq-eqb h.count n whole)

module _ (words : List ℕ) (s n : ℕ) (at : Ready words n) (long : length words ≡ 14) (small : s ≤ 3) (whole : is_inside words s n ≡ false) where
  abbrev f : Format
  f = format_in (get_or words 0 0) (get_or words 1 0)

  abbrev h : Register
  h = register_in words

  count-whole : (receive_of f n h s).count ≡ n
  unfolding is_inside
  count-whole =
      by-test (eqb (receive_of f n h s).count n)
      (λ y. eqb-true (receive_of f n h s).count n y)
      (λ m. let fed : is_inside words s n ≡ true = rw (le-leb s 3 small, m) in clash fed whole)

  pub received-whole : receive_of f n h s ≡ whole_register words s n
  unfolding receive_of
  received-whole =
      let range = size-range f in
      let sized = at.size_is in
      by-test (opens_frame f (h.newest % 4) s)
      (λ y. let q : ◌≡◌ {A = ℕ} 1 n = rw y at count-whole in let no : ⊥ = omega arith in absurd no)
      (λ y.
      by-test (eqb h.count 0)
      (λ e. let q : ◌≡◌ {A = ℕ} 0 n = rw (y, e) at count-whole in let no : ⊥ = omega arith in absurd no)
      (λ e.
      by-test (leb n h.count)
      (λ l. let q : ◌≡◌ {A = ℕ} 0 n = rw (y, e, l) at count-whole in let no : ⊥ = omega arith in absurd no)
      (λ l.
      by-test (eqb ((h.count + 1) % 32) 0)
      (λ d.
      let q : h.count + 1 ≡ n = rw (y, e, l, d) at count-whole in
      let full = eqb-true ((h.count + 1) % 32) 0 d in
      absurd (size-no-word f at.is_known (ap (λ (k : ℕ). k % 32) (sym sized ∙ sym q) ∙ full)))
      (λ d.
      let q : h.count + 1 ≡ n = rw (y, e, l, d) at count-whole in
      rw (y, e, l, d) (ap (continued_of h (push_of (get_or words 5 0) s)) q)))))

  module _ (row : FrameRow) (e : row ≡ row_with f (row_of_words words) (read_of f (frame_of (whole_register words s n) n))) where
    abbrev next : Reader
    next = reader_with_row (with_register (reader_in words) ((get_or words 3 0 + 1) % n) (whole_register words s n)) row

    next-there : next_of (reader_in words) s ≡ next
    unfolding reader_in
    next-there = next_is (reader_in words) s n (whole_register words s n) at.is_known at.size_is at.inside at.is_set small received-whole refl row e

    answer-there : (feed_words words s).answer ≡ end_answer (get_or words 2 0) row
    unfolding feed_of reader_in
    answer-there = answer-is (reader_in words) s n (whole_register words s n) at.is_known at.size_is at.inside at.is_set small received-whole refl row next-there ∙ ap (λ (k : ℕ). end_answer k row) (setting_same (get_or words 2 0) at.is_set)

    packed : words_for next ≡ whole_into (words_for (reader_in words)) ((get_or words 3 0 + 1) % n) (push_of (get_or words 5 0) s) n row
    unfolding reader_in
    packed = same-packed (reader_in words) ((get_or words 3 0 + 1) % n) (push_of (get_or words 5 0) s) n row

    into-there : words_into words (feed_words words s).reader ≡ whole_into words ((get_or words 3 0 + 1) % n) (push_of (get_or words 5 0) s) n row
    unfolding feed_of
    into-there =
        ap₂ (λ (ws : List ℕ) (q : Reader). words_into ws q) (same-words words n at long) next-there
        ∙ into-words (reader_in words) next
        ∙ packed
        ∙ sym (ap (λ (ws : List ℕ). whole_into ws ((get_or words 3 0 + 1) % n) (push_of (get_or words 5 0) s) n row) (same-words words n at long))

    -- the Feed by its row
    pub ends_with : (room : Bool) (a : Answer) (left : List ℕ) → a ≡ end_answer (get_or words 2 0) row
        → left ≡ cond (is_stored room (end_answer (get_or words 2 0) row)) (whole_into words ((get_or words 3 0 + 1) % n) (push_of (get_or words 5 0) s) n row) words
        → (a ≡ (feed_words words s).answer) × (left ≡ words_if_stored room (feed_words words s) words)
    ends_with room a left ea el = (ea ∙ sym answer-there, el ∙ rw (answer-there, into-there))
