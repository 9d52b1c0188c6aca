-- A reader whose numbers fit their widths comes back from its words, and no Feed makes another; what words that no call made are refused with.
use Rattle.std.specs.Prelude.{◌≡◌, refl, true, false, ◌&&◌, List, [], ◌∷◌, ℕ, ◌+◌, ◌%◌, ◌<◌, ◌≤◌, leb, ltb, eqb, get_or, Result, Ok, Err}
use Rattle.std.proofs.Common.{sym, ap, ◌∙◌, mod-eq_of_lt, arith, lt-ltb, le-ltb, ltb-true, leb-true}
use Rattle.timecode.specs.Answers.{answer_result}
use Rattle.timecode.specs.Formats.{is_symbol, known, look_up, row_of, size, table}
use Rattle.timecode.specs.Frames.{read_of}
use Rattle.timecode.proofs.Laws.Checks.{by-reading}
use Rattle.timecode.proofs.Laws.Reading.{accepted-was-written}
use Rattle.timecode.specs.Laws.Table.{every_format}
use Rattle.timecode.proofs.Laws.Table.{of-every}
use Rattle.timecode.proofs.Laws.Tests.{by-test, clash, and_left, and_right}
use Rattle.timecode.proofs.Laws.Times.{year-below}
use Rattle.timecode.specs.Stream.{is_setting}
use Rattle.timecode.specs.declared.Answer.{Answer}
use Rattle.timecode.specs.declared.Answer.TheVariants.{Quiet, Report}
use Rattle.timecode.specs.declared.Format.{Format}
use Rattle.timecode.specs.declared.Refusal.{Refusal}
use Rattle.register.specs.Receiving.{receive_of, frame_of}
use Rattle.stream.specs.Feeding.{fresh_reader, made_of, made_result, is_valid, with_register, reader_with_reading, when_whole, with_symbol_of, next_of, answer_after, answer_of, feed_of}
use Rattle.stream.specs.Refinement.{reader_after}
use Rattle.stream.specs.declared.Reader.{Reader}
use Rattle.ffi.proofs.Fields.{refusal-numbered}
use Rattle.ffi.specs.Indexes.{refused_values}
use Rattle.reader_words.specs.Words.{words_for, byte_in, reader_in, words_into, fresh_result_of, fed_with, feed_words, words_left}
use Rattle.reader_words.specs.WordLaws.{Fits, made_or}

-- ---- readers whose numbers fit their widths, as the program's do

pub words_back : (r : Reader) → Fits r → reader_in (words_for r) ≡ r
unfolding reader_in words_for byte_in
words_back r h =
    rw (lt-ltb r.format.letter 256 h.letter, lt-ltb r.format.expression 256 h.expression, lt-ltb r.setting 256 h.setting, mod-eq_of_lt h.year, mod-eq_of_lt h.day, mod-eq_of_lt h.hundredths)

byte_small : (w : ℕ) → byte_in w < 256
unfolding byte_in
byte_small w = by-test (ltb w 256) (λ y. rw y (ltb-true w 256 y)) (λ n. rw n (omega arith))

-- the reader in any words fits
pub words-fit : (words : List ℕ) → Fits (reader_in words)
unfolding reader_in
words-fit words =
    record {
      letter = byte_small (get_or words 0 0);
      expression = byte_small (get_or words 1 0);
      setting = byte_small (get_or words 2 0);
      year = omega arith;
      day = omega arith;
      hundredths = omega arith;
    }

known_bytes : (f : Format) → known f ≡ true → (f.letter < 256) × (f.expression < 256)
unfolding every_format table
known_bytes f k =
    let both = of-every (λ f. ltb f.letter 256 && ltb f.expression 256) refl f k in
    (ltb-true _ _ (and_left (ltb f.letter 256) (ltb f.expression 256) both), ltb-true _ _ (and_right (ltb f.letter 256) (ltb f.expression 256) both))

setting-few : (k : ℕ) → is_setting k ≡ true → k ≤ 5
unfolding is_setting
setting-few k h = leb-true k 5 (and_right (leb 2 k) (leb k 5) h)

pub fresh-fits : (f : Format) (k : ℕ) → known f ≡ true → is_setting k ≡ true → Fits (fresh_reader f k)
fresh-fits f k h set =
    let few = setting-few k set in
    let b = known_bytes f h in
    record { letter = b.0; expression = b.1; setting = omega (arith, few); year = omega arith; day = omega arith; hundredths = omega arith }

whole-fits : (r : Reader) → Fits r → Fits (when_whole r)
unfolding when_whole reader_with_reading
whole-fits r h =
    by-test (eqb r.received.count (size r.format))
    (λ y.
    by-reading (read_of r.format (frame_of r.received (size r.format)))
    (λ x z. rw (y, z) (record { letter = h.letter; expression = h.expression; setting = h.setting; year = h.year; day = h.day; hundredths = h.hundredths }))
    (λ t w z.
    let v = accepted-was-written r.format (frame_of r.received (size r.format)) t w z in
    rw (y, z) (record { letter = h.letter; expression = h.expression; setting = h.setting; year = omega (arith, year-below r.format t.year v.0.time.year_is); day = omega (arith, v.0.time.last); hundredths = omega (arith, v.0.time.below) })))
    (λ n. rw n h)

pub next_fits : (r : Reader) (s : ℕ) → Fits r → Fits (next_of r s)
unfolding next_of with_symbol_of
next_fits r s h =
    by-test (is_valid r && (is_setting r.setting && is_symbol s))
    (λ y. rw y (whole-fits (with_register r ((r.place + 1) % size r.format) (receive_of r.format (size r.format) r.received s)) (record { letter = h.letter; expression = h.expression; setting = h.setting; year = h.year; day = h.day; hundredths = h.hundredths })))
    (λ n. rw n h)

pub after-fits : (r : Reader) (ss : List ℕ) → Fits r → Fits (reader_after r ss)
unfolding reader_after feed_of
after-fits r [] h = h
after-fits r (s ∷ ss) h = after-fits (next_of r s) ss (next_fits r s h)

-- ---- the words after a call are those of the reader that it gives back, refused or not

-- of fourteen words the reader's own are left
pub into-words : (r next : Reader) → words_into (words_for r) next ≡ words_for next
unfolding words_into words_for
into-words r next = refl

pub left-fed : (r next : Reader) (a : Answer) → ((x : Refusal) → a ≡ Answer.Refused x → next ≡ r) → words_left (fed_with next a) (words_for r) ≡ words_for next
left-fed r next Quiet h = into-words r next
left-fed r next (Report t w) h = into-words r next
left-fed r next (Answer.Refused x) h = rw (refusal-numbered x) (ap words_for (sym (h x refl)))

-- ---- words that no call made: a letter or an expression that is no byte, and a setting that is none

pub no-letter : (e : ℕ) → known (record { letter = 255; expression = e }) ≡ false
unfolding known row_of look_up table
no-letter e = refl

pub no-expression : (l : ℕ) → known (record { letter = l; expression = 255 }) ≡ false
unfolding every_format table
no-expression l = by-test (known (record { letter = l; expression = 255 })) (λ y. clash (of-every (λ f. ltb f.expression 255) refl (record { letter = l; expression = 255 }) y) refl) (λ n. n)

pub letter-above-255 : (words : List ℕ) (s : ℕ) → 256 ≤ get_or words 0 0 → (answer_result (feed_words words s).answer).number ≡ 13
unfolding feed_of answer_of is_valid reader_in byte_in
letter-above-255 words s h = rw (le-ltb (get_or words 0 0) 256 h, no-letter (byte_in (get_or words 1 0)))

pub expression-above-255 : (words : List ℕ) (s : ℕ) → 256 ≤ get_or words 1 0 → (answer_result (feed_words words s).answer).number ≡ 13
unfolding feed_of answer_of is_valid reader_in byte_in
expression-above-255 words s h = rw (le-ltb (get_or words 1 0) 256 h, no-expression (byte_in (get_or words 0 0)))

pub setting-above-255 : (words : List ℕ) (s : ℕ) → is_valid (reader_in words) ≡ true → 256 ≤ get_or words 2 0 → (answer_result (feed_words words s).answer).number ≡ 26
unfolding feed_of answer_of reader_in byte_in is_setting
setting-above-255 words s v h = rw (v, le-ltb (get_or words 2 0) 256 h)

pub made-fresh : (f : Format) (k : ℕ) (r : Reader) → made_of f k ≡ Ok r → r ≡ fresh_reader f k
unfolding made_of
made-fresh f k r e =
    let or-fresh : made_or (fresh_reader f k) (made_of f k) ≡ fresh_reader f k = by-test (known f) (λ y. by-test (is_setting k) (λ z. rw (y, z)) (λ n. rw (y, n))) (λ n. rw n) in
    sym (ap (made_or (fresh_reader f k)) e) ∙ or-fresh

-- ---- the structs' numbers, and no index left out

pub fresh-number : (m : Result Reader Refusal) → (fresh_result_of m).number ≡ (made_result m).number
fresh-number (Ok r) = refl
fresh-number (Err x) = refl

pub feed-no-index : (r : Reader) (s : ℕ) → refused_values (answer_result (answer_of r s)) ≡ []
unfolding answer_of answer_after
feed-no-index r s =
    by-test (is_valid r)
    (λ a.
    rw a
    (by-test (is_setting r.setting)
    (λ b.
    rw b
    (by-test (is_symbol s)
    (λ d. rw d (by-test (eqb (next_of r s).received.count (size (next_of r s).format) && leb (next_of r s).setting (next_of r s).received.row) (λ g. rw g) (λ g. rw g)))
    (λ d. rw d)))
    (λ b. rw b)))
    (λ a. rw a)
