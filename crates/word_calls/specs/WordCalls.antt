-- The calls on a reader's fourteen words as one list in any mix: what each gives its caller, and the words that it leaves to the next.
use Rattle.std.specs.Prelude.{List, [], ◌∷◌, ℕ}
use Rattle.block.specs.Blocks.{Lists, lists_left, block_for}
use Rattle.pulse_feed.specs.PulseFeeds.{feed_pulse_of}
use Rattle.pulse_feed.specs.declared.PulseFed.{PulseFed}
use Rattle.reader_calls.specs.ReaderCalls.{ReaderCall, symbol, symbol_in_place, pulse, block, CallResult, symbol_call_result, in_place_call_result, pulse_call_result, block_call_result}
use Rattle.ffi.specs.Structs.{feed_result_of, with_deviation}
use Rattle.ffi.specs.declared.FeedPulseResult.{FeedPulseResult}
use Rattle.ffi.specs.declared.FeedResult.{FeedResult}
use Rattle.reader_words.specs.Words.{reader_in, fed_with, feed_words, words_left}
use Rattle.timecode.specs.declared.WidthSettings.{WidthSettings}
use Rattle.block_words.specs.BlockWords.{block_result_of, feed_block_words, block_words_left}
use Rattle.block_words.specs.declared.BlockResult.{BlockResult}

-- ---- one call: duskveyra_feed, duskveyra_feed_pulse, duskveyra_feed_block

-- one pulse of the caller's words, and the words after it: a refused one leaves them
abbrev pub feed_pulse_words : List ℕ → WidthSettings → ℕ → ℕ → ℕ → PulseFed
feed_pulse_words words s T width period = feed_pulse_of (reader_in words) s T width period

abbrev pub pulse_words_left : PulseFed → List ℕ → List ℕ
pulse_words_left fed words = words_left (fed_with fed.reader fed.answer) words

-- the answer, of a pulse also its deviation, and of a block also the lent list afterwards
abbrev pub words_result : List ℕ → ReaderCall → CallResult
words_result words (symbol s) = symbol_call_result s (feed_words words s).answer
words_result words (symbol_in_place s) = in_place_call_result s (feed_words words s).answer
words_result words (pulse s T width period) = pulse_call_result s T width period (feed_pulse_words words s T width period).answer (feed_pulse_words words s T width period).deviation
words_result words (block ss l) = block_call_result ss l (feed_block_words words ss l).answer (lists_left (block_for (reader_in words) ss l) l)

-- the words afterwards
abbrev pub words_after : List ℕ → ReaderCall → List ℕ
words_after words (symbol s) = words_left (feed_words words s) words
words_after words (symbol_in_place s) = words_left (feed_words words s) words
words_after words (pulse s T width period) = pulse_words_left (feed_pulse_words words s T width period) words
words_after words (block ss l) = block_words_left (feed_block_words words ss l) words

-- ---- a list of calls: each takes the words that the one before left

unfoldable pub words_results : List ℕ → List ReaderCall → List CallResult
words_results words [] = []
words_results words (c ∷ cs) = words_result words c ∷ words_results (words_after words c) cs

unfoldable pub words_after_calls : List ℕ → List ReaderCall → List ℕ
words_after_calls words [] = words
words_after_calls words (c ∷ cs) = words_after_calls (words_after words c) cs

-- ---- what C gets of a result

-- the struct that the call returns, and of a block also the lent list afterwards
pub data Given : Type 0 where
  feed_given : FeedResult → Given
  pulse_given : FeedPulseResult → Given
  block_given : BlockResult → Lists → Given

abbrev pub given_of : CallResult → Given
given_of (symbol_call_result s a) = feed_given (feed_result_of a)
given_of (in_place_call_result s a) = feed_given (feed_result_of a)
given_of (pulse_call_result s T width period a d) = pulse_given (with_deviation (feed_result_of a) d)
given_of (block_call_result ss l a left) = block_given (block_result_of a) left

-- its number
abbrev pub number_given : Given → ℕ
number_given (feed_given r) = r.number
number_given (pulse_given r) = r.number
number_given (block_given r left) = r.number
