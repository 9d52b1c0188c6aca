-- A C program's reader: its fourteen words give the results of their reader, so demand 3 holds of any list of calls on them; and a refused call leaves them.
use Rattle.std.specs.Prelude.{◌≡◌, refl, true, false, List, [], ◌∷◌, ◌++◌, map, ℕ, eqb, Err}
use Rattle.std.proofs.Common.{sym, ap, ap₂, subst, ◌∙◌, arith, ne_eqb}
use Rattle.timecode.specs.Answers.{answer_result}
use Rattle.timecode.specs.Demand3.{Demand3, SameAnswers}
use Rattle.timecode.proofs.Demand3.{demand-3, two-readers}
use Rattle.timecode.specs.Formats.{known}
use Rattle.timecode.proofs.Laws.Tests.{by-test}
use Rattle.timecode.specs.Stream.{is_setting, plain_answers, elements_of, SameWindow}
use Rattle.timecode.specs.declared.Answer.{Answer}
use Rattle.timecode.specs.declared.Format.{Format}
use Rattle.timecode.specs.declared.Refusal.{Refusal}
use Rattle.lost_element.specs.LostElement.{OneLostOrPutIn}
use Rattle.lost_element.proofs.Streams.{one-lost-or-put-in}
use Rattle.stream.proofs.FeedLists.{refused-feed-same-reader}
use Rattle.stream.specs.Feeding.{fresh_reader, made_of, feed_of}
use Rattle.stream.specs.declared.Reader.{Reader}
use Rattle.block.specs.Blocks.{Lists, lists_left, block_result, block_for, feed_block_of}
use Rattle.block.proofs.Folds.{refused-block-leaves}
use Rattle.pulse_feed.specs.PulseFeeds.{feed_pulse_of}
use Rattle.pulse_feed.proofs.PulseFeeds.{refused-pulse-same-reader}
use Rattle.reader_calls.proofs.MixedCalls.{call-reader, calls-are-plain}
use Rattle.reader_calls.specs.ReaderCalls.{ReaderCall, symbol, symbol_in_place, pulse, block, CallResult, symbols_fed, all_fed, all_answers, call_result, reader_of, call_results, reader_after_calls, plain_call_results}
use Rattle.ffi.proofs.Fields.{feed-number}
use Rattle.ffi.specs.Structs.{feed_result_of}
use Rattle.reader_words.specs.WordLaws.{Fits}
use Rattle.reader_words.proofs.WordLaws.{words_back, fresh-fits, after-fits, left-fed}
use Rattle.reader_words.specs.Words.{words_for, reader_in, fresh_result_of, fresh_left, feed_words}
use Rattle.block_words.proofs.BlockFields.{block-number, left-block}
use Rattle.block_words.specs.BlockWords.{feed_block_words}
use Rattle.word_calls.specs.WordCalls.{feed_pulse_words, words_result, words_after, words_results, words_after_calls, given_of, number_given}

-- ---- demand 1

refused-answer : (a : Answer) → ((feed_result_of a).number ≡ 0 → ⊥) → eqb (answer_result a).number 0 ≡ false
refused-answer a h = ne_eqb (answer_result a).number 0 (λ e. h (feed-number a ∙ e))

-- A call that refuses, on any words, leaves the words as they were,
pub refused-call-leaves-words : (words : List ℕ) (c : ReaderCall) → (number_given (given_of (words_result words c)) ≡ 0 → ⊥) → words_after words c ≡ words
refused-call-leaves-words words (symbol s) h = rw (refused-answer (feed_words words s).answer h)
refused-call-leaves-words words (symbol_in_place s) h = rw (refused-answer (feed_words words s).answer h)
refused-call-leaves-words words (pulse s T width period) h = rw (refused-answer (feed_pulse_words words s T width period).answer h)
refused-call-leaves-words words (block ss l) h =
    let a = (feed_block_words words ss l).answer in
    rw (ne_eqb (block_result a).number 0 (λ e. h (block-number a ∙ e)))

-- and a block the lists too.
pub refused-block-leaves-lists : (words ss : List ℕ) (l : Lists) (x : Refusal) → (feed_block_words words ss l).answer ≡ Err x → lists_left (block_for (reader_in words) ss l) l ≡ l
refused-block-leaves-lists words ss l x h = (refused-block-leaves (reader_in words) ss l x h).1

-- ---- the words after a call are those of the reader that it gives back, refused or not

left-words : (r : Reader) (c : ReaderCall) → Fits r → words_after (words_for r) c ≡ words_for (reader_of r c)
left-words r (symbol s) h = rw (words_back r h) (left-fed r (feed_of r s).reader (feed_of r s).answer (refused-feed-same-reader r s))
left-words r (symbol_in_place s) h = rw (words_back r h) (left-fed r (feed_of r s).reader (feed_of r s).answer (refused-feed-same-reader r s))
left-words r (pulse s T width period) h =
    rw (words_back r h) (left-fed r (feed_pulse_of r s T width period).reader (feed_pulse_of r s T width period).answer (refused-pulse-same-reader r s T width period))
left-words r (block ss l) h = rw (words_back r h) (left-block r (feed_block_of r ss l).reader (feed_block_of r ss l).answer (λ x e. (refused-block-leaves r ss l x e).0))

fits_kept : (r : Reader) (c : ReaderCall) → Fits r → Fits (reader_of r c)
fits_kept r c h = subst Fits (sym (call-reader r c)) (after-fits r (symbols_fed (call_result r c)) h)

-- ---- so the words give the results of their reader

result-of-words : (r : Reader) (c : ReaderCall) → Fits r → words_result (words_for r) c ≡ call_result r c
result-of-words r (symbol s) h = rw (words_back r h)
result-of-words r (symbol_in_place s) h = rw (words_back r h)
result-of-words r (pulse s T width period) h = rw (words_back r h)
result-of-words r (block ss l) h = rw (words_back r h)

pub results-of-words : (r : Reader) → Fits r → (cs : List ReaderCall) → words_results (words_for r) cs ≡ call_results r cs
unfolding words_results call_results
results-of-words r h [] = refl
results-of-words r h (c ∷ cs) =
    ap₂ (λ (x : CallResult) (xs : List CallResult). x ∷ xs) (result-of-words r c h) (ap (λ (words : List ℕ). words_results words cs) (left-words r c h) ∙ results-of-words (reader_of r c) (fits_kept r c h) cs)

pub words-of-reader : (r : Reader) → Fits r → (cs : List ReaderCall) → words_after_calls (words_for r) cs ≡ words_for (reader_after_calls r cs)
unfolding words_after_calls reader_after_calls
words-of-reader r h [] = refl
words-of-reader r h (c ∷ cs) = ap (λ (words : List ℕ). words_after_calls words cs) (left-words r c h) ∙ words-of-reader (reader_of r c) (fits_kept r c h) cs

-- ---- demand 3, of the words in a C program's memory

-- Where duskveyra_fresh gives 0, the format is one and the setting too.
pub made-of-format : (f : Format) (k : ℕ) → (fresh_result_of (made_of f k)).number ≡ 0 → (known f ≡ true) × (is_setting k ≡ true)
unfolding made_of
made-of-format f k h =
    by-test (known f)
    (λ y.
    by-test (is_setting k)
    (λ z. (y, z))
    (λ n.
    let refused : ◌≡◌ {A = ℕ} 26 0 = rw (y, n) at h in
    absurd (let no : ⊥ = omega arith in no)))
    (λ n.
    let refused : ◌≡◌ {A = ℕ} 1 0 = rw n at h in
    absurd (let no : ⊥ = omega arith in no))

module _ (f : Format) (k : ℕ) (old : List ℕ) (is_Known : known f ≡ true) (set : is_setting k ≡ true) where
  -- the words after duskveyra_fresh, whatever they were before
  abbrev fresh : List ℕ
  fresh = fresh_left f k old

  made-words : fresh ≡ words_for (fresh_reader f k)
  unfolding fresh_left made_of
  made-words = rw (is_Known, set)

  fits : Fits (fresh_reader f k)
  fits = fresh-fits f k is_Known set

  -- The results of any list of calls in any mix are those of the reader,
  pub words-results : (cs : List ReaderCall) → words_results fresh cs ≡ call_results (fresh_reader f k) cs
  words-results cs = ap (λ (words : List ℕ). words_results words cs) made-words ∙ results-of-words (fresh_reader f k) fits cs

  -- so each is the plain machine's, refusals too,
  pub words-results-are-plain : (cs : List ReaderCall) → words_results fresh cs ≡ plain_call_results f k [] cs
  words-results-are-plain cs = words-results cs ∙ (calls-are-plain f k is_Known set cs).each-result

  -- and so is each struct that C gets, with a block's lists;
  pub words-given-are-plain : (cs : List ReaderCall) → map given_of (words_results fresh cs) ≡ map given_of (plain_call_results f k [] cs)
  words-given-are-plain cs = ap (map given_of) (words-results-are-plain cs)

  -- the answers are the plain machine's to the symbols fed,
  pub words-answers-are-plain : (cs : List ReaderCall) → all_answers (words_results fresh cs) ≡ plain_answers f k [] (all_fed (words_results fresh cs))
  words-answers-are-plain cs = rw (words-results cs) (calls-are-plain f k is_Known set cs).all-answers

  -- and the words afterwards are those of the reader fed so.
  pub words-after-calls : (cs : List ReaderCall) → words_after_calls fresh cs ≡ words_for (reader_after_calls (fresh_reader f k) cs)
  words-after-calls cs = ap (λ (words : List ℕ). words_after_calls words cs) made-words ∙ words-of-reader (fresh_reader f k) fits cs

  -- So demand 3 holds of them.
  pub words-demand-3 : (cs : List ReaderCall) (none : Answer) → Demand3 f k (all_fed (words_results fresh cs)) (all_answers (words_results fresh cs)) none
  words-demand-3 cs = demand-3 f k set (all_fed (words_results fresh cs)) (all_answers (words_results fresh cs)) (words-answers-are-plain cs)

  -- And so does what document 02 says of one element lost or put in.
  pub words-one-lost-or-put-in : (cs : List ReaderCall) (none : Answer) → OneLostOrPutIn f k (all_fed (words_results fresh cs)) (all_answers (words_results fresh cs)) none
  words-one-lost-or-put-in cs = one-lost-or-put-in f k set (all_fed (words_results fresh cs)) (all_answers (words_results fresh cs)) (words-answers-are-plain cs)

-- Two readers of one format and one setting in two memories, each by its own calls.
pub two-words-agree : (f : Format) (k : ℕ) (old other : List ℕ) → known f ≡ true → is_setting k ≡ true → (cs ds : List ReaderCall) (ss rs xs : List ℕ)
    → all_fed (words_results (fresh_left f k old) cs) ≡ ss ++ xs → all_fed (words_results (fresh_left f k other) ds) ≡ rs ++ xs
    → SameWindow f k (elements_of ss) (elements_of rs)
    → (none : Answer) → SameAnswers ss rs (all_answers (words_results (fresh_left f k old) cs)) (all_answers (words_results (fresh_left f k other) ds)) none
two-words-agree f k old other is_Known set cs ds ss rs xs first second =
    two-readers f k ss rs xs (all_answers (words_results (fresh_left f k old) cs)) (all_answers (words_results (fresh_left f k other) ds))
    (words-answers-are-plain f k old is_Known set cs ∙ ap (plain_answers f k []) first)
    (words-answers-are-plain f k other is_Known set ds ∙ ap (plain_answers f k []) second)
