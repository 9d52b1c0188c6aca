-- Calls in any mix equal single Feeds of the symbols that they feed; so from a fresh reader demand 3 and what document 02 says of one element lost or put in hold of them.
use Rattle.std.specs.Prelude.{◌≡◌, true, cond, ◌&&◌, ℕ, ℤ}
use Rattle.std.proofs.Math.Path.{refl, ap, ap₂, subst}
use Rattle.std.proofs.Common.{sym, ◌∙◌, le-leb}
use mathlib.Core.List.{List, [], ◌∷◌, ◌++◌}
use Rattle.timecode.specs.Calls.{is_interval, are_width_settings, pulse_of}
use Rattle.timecode.specs.Demand3.{Demand3, SameAnswers}
use Rattle.timecode.proofs.Demand3.{demand-3, two-readers}
use Rattle.timecode.specs.Formats.{known}
use Rattle.timecode.proofs.Laws.Machine.{answer-no-refusal}
use Rattle.timecode.proofs.Laws.Tests.{by-test}
use Rattle.timecode.proofs.Laws.Widths.{pulse-symbol-small}
use Rattle.timecode.specs.Stream.{is_setting, plain_feed, plain_answers, plain_received, elements_of, SameWindow}
use Rattle.timecode.specs.declared.Answer.{Answer}
use Rattle.timecode.specs.declared.Answer.TheVariants.{Quiet, Report}
use Rattle.timecode.specs.declared.Format.{Format}
use Rattle.lost_element.specs.LostElement.{OneLostOrPutIn}
use Rattle.lost_element.proofs.Streams.{one-lost-or-put-in}
use Rattle.timecode.specs.declared.Refusal.{Refusal}
use Rattle.timecode.specs.declared.WidthSettings.{WidthSettings}
use Rattle.stream.proofs.FeedLists.{feed-answers-append, reader-append}
use Rattle.stream.specs.Feeding.{fresh_reader, is_valid}
use Rattle.stream.specs.Refinement.{answers, reader_after, Receives}
use Rattle.stream.proofs.Refinement.{fresh-receives, receives-valid, receives-setting, feed-receives, answers-plain, receives-after, answers-are-plain}
use Rattle.stream.specs.declared.Reader.{Reader}
use Rattle.block.specs.Blocks.{Lists, room_in, are_records, field_left, lists_left, block_for, block_answer, feed_block_of}
use Rattle.block.specs.Folds.{Takes}
use Rattle.block.proofs.Folds.{block-takes, block-answers}
use Rattle.pulse_feed.specs.PulseFeeds.{deviation_beside, feed_pulse_of}
use Rattle.reader_calls.specs.ReaderCalls.{ReaderCall, symbol, symbol_in_place, pulse, block, CallResult, symbol_call_result, in_place_call_result, pulse_call_result, block_call_result, symbols_fed, answers_given, all_fed, all_answers, call_result, reader_of, call_results, reader_after_calls, plain_block, plain_call_result, plain_call_results}

-- ---- one call, of any reader

pub call-answers : (r : Reader) (c : ReaderCall) → answers_given (call_result r c) ≡ answers r (symbols_fed (call_result r c))
unfolding answers feed_pulse_of feed_block_of block_answer block_for
call-answers r (symbol s) = refl
call-answers r (symbol_in_place s) = refl
call-answers r (pulse s T width period) = by-test (is_interval T) (λ y. by-test (are_width_settings s) (λ z. rw (y, z)) (λ n. rw (y, n))) (λ n. rw n)
call-answers r (block ss l) =
    by-test (is_valid r)
    (λ v. by-test (is_setting r.setting) (λ k. by-test (are_records l) (λ y. rw (v, k, y) (block-answers r (room_in l) ss l)) (λ n. rw (v, k, n))) (λ n. rw (v, n)))
    (λ n. rw n)

pulse-reader : (r : Reader) (s : WidthSettings) (T width period : ℕ) → (feed_pulse_of r s T width period).reader ≡ reader_after r (cond (is_interval T && are_width_settings s) ((pulse_of s T width period).symbol ∷ []) [])
unfolding reader_after feed_pulse_of
pulse-reader r s T width period = by-test (is_interval T) (λ y. by-test (are_width_settings s) (λ z. rw (y, z)) (λ n. rw (y, n))) (λ n. rw n)

block-reader : (r : Reader) (ss : List ℕ) (l : Lists) → (feed_block_of r ss l).reader ≡ reader_after r (symbols_fed (block_call_result ss l (feed_block_of r ss l).answer (lists_left (block_for r ss l) l)))
unfolding reader_after feed_block_of block_answer block_for
block-reader r ss l =
    by-test (is_valid r)
    (λ v. by-test (is_setting r.setting) (λ k. by-test (are_records l) (λ y. rw (v, k, y)) (λ n. rw (v, k, n))) (λ n. rw (v, n)))
    (λ n. rw n)

pub call-reader : (r : Reader) (c : ReaderCall) → reader_of r c ≡ reader_after r (symbols_fed (call_result r c))
unfolding reader_after
call-reader r (symbol s) = refl
call-reader r (symbol_in_place s) = refl
call-reader r (pulse s T width period) = pulse-reader r s T width period
call-reader r (block ss l) = block-reader r ss l

-- ---- a list of calls, of any reader

-- The answers are those of single Feeds of the symbols fed, in their order,
pub calls-are-feeds : (r : Reader) (cs : List ReaderCall) → all_answers (call_results r cs) ≡ answers r (all_fed (call_results r cs))
unfolding call_results all_answers all_fed answers
calls-are-feeds r [] = refl
calls-are-feeds r (c ∷ cs) =
    let fed = symbols_fed (call_result r c) in
    ap₂ (λ (xs ys : List Answer). xs ++ ys) (call-answers r c)
    (calls-are-feeds (reader_of r c) cs ∙ ap (λ (q : Reader). answers q (all_fed (call_results (reader_of r c) cs))) (call-reader r c))
    ∙ sym (feed-answers-append r fed (all_fed (call_results (reader_of r c) cs)))

-- and the reader afterwards is the one that they give.
pub reader-is-fed : (r : Reader) (cs : List ReaderCall) → reader_after_calls r cs ≡ reader_after r (all_fed (call_results r cs))
unfolding call_results all_fed reader_after_calls reader_after
reader-is-fed r [] = refl
reader-is-fed r (c ∷ cs) =
    reader-is-fed (reader_of r c) cs
    ∙ ap (λ (q : Reader). reader_after q (all_fed (call_results (reader_of r c) cs))) (call-reader r c)
    ∙ sym (reader-append r (symbols_fed (call_result r c)) (all_fed (call_results (reader_of r c) cs)))

-- ---- from a fresh reader

-- The plain machine's block takes symbols that it accepts, puts in their reports with their indexes, and stops where all are taken, where the machine refuses or where no room is left.
pub plain-block-takes : (f : Format) (k : ℕ) (received ss : List ℕ) (l : Lists) → Takes 0 (room_in l) (plain_answers f k received ss) (plain_block f k received ss l)
plain-block-takes f k received ss l = block-takes 0 (room_in l) (plain_answers f k received ss)

-- the deviation beside an answer that is no refusal, as the plain machine's to a pulse's symbol
taken-beside : (a : Answer) (d : ℤ) → ((x : Refusal) → a ≡ Answer.Refused x → ⊥) → deviation_beside a d ≡ d
taken-beside Quiet d h = refl
taken-beside (Report t w) d h = refl
taken-beside (Answer.Refused x) d h = absurd (h x refl)

plain-beside : (f : Format) (k : ℕ) (received : List ℕ) (s : WidthSettings) (T width period : ℕ) (d : ℤ) → deviation_beside (plain_feed f k received (pulse_of s T width period).symbol).answer d ≡ d
unfolding plain_feed
plain-beside f k received s T width period d =
    let y = (pulse_of s T width period).symbol in
    rw (le-leb y 3 (pulse-symbol-small s T width period)) (taken-beside _ d (answer-no-refusal f k (received ++ (y ∷ []))))

module _ (f : Format) (k : ℕ) (is_Known : known f ≡ true) (is-setting : is_setting k ≡ true) where
  pulse-plain : (r : Reader) (received : List ℕ) (s : WidthSettings) (T width period : ℕ) → Receives f k r received → call_result r (pulse s T width period) ≡ plain_call_result f k received (pulse s T width period)
  unfolding feed_pulse_of
  pulse-plain r received s T width period h =
      let same = (feed-receives f k is_Known is-setting r received (pulse_of s T width period).symbol h).0 in
      let d = (pulse_of s T width period).deviation in
      by-test (is_interval T)
      (λ y.
      by-test (are_width_settings s)
      (λ z. rw (y, z) (ap₂ (pulse_call_result s T width period) same (ap (λ (a : Answer). deviation_beside a d) same ∙ plain-beside f k received s T width period d)))
      (λ n. rw (y, n)))
      (λ n. rw n)

  call-plain : (r : Reader) (received : List ℕ) (c : ReaderCall) → Receives f k r received → call_result r c ≡ plain_call_result f k received c
  unfolding feed_block_of block_answer block_for field_left
  call-plain r received (symbol s) h = ap (symbol_call_result s) (feed-receives f k is_Known is-setting r received s h).0
  call-plain r received (symbol_in_place s) h = ap (in_place_call_result s) (feed-receives f k is_Known is-setting r received s h).0
  call-plain r received (pulse s T width period) h = pulse-plain r received s T width period h
  call-plain r received (block ss l) h =
      rw (receives-valid f k is_Known is-setting r received h, receives-setting f k is_Known is-setting r received h, answers-plain f k is_Known is-setting r received ss h)
      (by-test (are_records l) (λ y. rw y) (λ n. rw n))

  results-plain : (r : Reader) (received : List ℕ) (cs : List ReaderCall) → Receives f k r received → call_results r cs ≡ plain_call_results f k received cs
  unfolding call_results plain_call_results
  results-plain r received [] h = refl
  results-plain r received (c ∷ cs) h =
      let same = call-plain r received c h in
      let fed = receives-after f k is_Known is-setting r received (symbols_fed (call_result r c)) h in
      let next : Receives f k (reader_of r c) (plain_received f k received (symbols_fed (plain_call_result f k received c))) =
      subst (λ (q : Reader). Receives f k q (plain_received f k received (symbols_fed (plain_call_result f k received c)))) (sym (call-reader r c))
      (subst (λ (x : CallResult). Receives f k (reader_after r (symbols_fed (call_result r c))) (plain_received f k received (symbols_fed x))) same fed) in
      ap₂ (λ (x : CallResult) (xs : List CallResult). x ∷ xs) same (results-plain (reader_of r c) (plain_received f k received (symbols_fed (plain_call_result f k received c))) cs next)

  -- Of any list of calls in any mix: each result is the plain machine's, the answers are the plain machine's to the symbols fed, and the reader afterwards is the one that single Feeds of these give.
  pub record ArePlain (cs : List ReaderCall) : Type 0 where
    pub each-result : call_results (fresh_reader f k) cs ≡ plain_call_results f k [] cs
    pub all-answers : all_answers (call_results (fresh_reader f k) cs) ≡ plain_answers f k [] (all_fed (call_results (fresh_reader f k) cs))
    pub reader-after : reader_after_calls (fresh_reader f k) cs ≡ reader_after (fresh_reader f k) (all_fed (call_results (fresh_reader f k) cs))

  pub calls-are-plain : (cs : List ReaderCall) → ArePlain cs
  calls-are-plain cs =
      record {
        each-result = results-plain (fresh_reader f k) [] cs (fresh-receives f k);
        all-answers = calls-are-feeds (fresh_reader f k) cs ∙ answers-are-plain f k is_Known is-setting (all_fed (call_results (fresh_reader f k) cs));
        reader-after = reader-is-fed (fresh_reader f k) cs;
      }

  -- So demand 3 holds of any list of calls.
  pub calls-demand-3 : (cs : List ReaderCall) (none : Answer) → Demand3 f k (all_fed (call_results (fresh_reader f k) cs)) (all_answers (call_results (fresh_reader f k) cs)) none
  calls-demand-3 cs = demand-3 f k is-setting (all_fed (call_results (fresh_reader f k) cs)) (all_answers (call_results (fresh_reader f k) cs)) (calls-are-plain cs).all-answers

  -- And so does what document 02 says of one element lost or put in,
  pub calls-one-lost-or-put-in : (cs : List ReaderCall) (none : Answer) → OneLostOrPutIn f k (all_fed (call_results (fresh_reader f k) cs)) (all_answers (call_results (fresh_reader f k) cs)) none
  calls-one-lost-or-put-in cs = one-lost-or-put-in f k is-setting (all_fed (call_results (fresh_reader f k) cs)) (all_answers (call_results (fresh_reader f k) cs)) (calls-are-plain cs).all-answers

  -- as of any list of single Feeds.
  pub feeds-one-lost-or-put-in : (ss : List ℕ) (none : Answer) → OneLostOrPutIn f k ss (answers (fresh_reader f k) ss) none
  feeds-one-lost-or-put-in ss = one-lost-or-put-in f k is-setting ss (answers (fresh_reader f k) ss) (answers-are-plain f k is_Known is-setting ss)

  -- Two readers, each by its own calls.
  pub two-callers-agree : (cs ds : List ReaderCall) (ss rs xs : List ℕ) → all_fed (call_results (fresh_reader f k) cs) ≡ ss ++ xs → all_fed (call_results (fresh_reader f k) ds) ≡ rs ++ xs
      → SameWindow f k (elements_of ss) (elements_of rs) → (none : Answer) → SameAnswers ss rs (all_answers (call_results (fresh_reader f k) cs)) (all_answers (call_results (fresh_reader f k) ds)) none
  two-callers-agree cs ds ss rs xs first second =
      two-readers f k ss rs xs (all_answers (call_results (fresh_reader f k) cs)) (all_answers (call_results (fresh_reader f k) ds))
      ((calls-are-plain cs).all-answers ∙ ap (plain_answers f k []) first)
      ((calls-are-plain ds).all-answers ∙ ap (plain_answers f k []) second)
