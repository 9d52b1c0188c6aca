-- The calls on a reader as one list in any mix: what each gives its caller, the symbols that it feeds, and the answers to these.
use Rattle.block.specs.declared.Taken.{Taken}
use Rattle.timecode.specs.declared.Refusal.{Refusal}
use Rattle.std.specs.Prelude.{cond, ◌&&◌, List, [], ◌∷◌, ◌++◌, ℕ, ℤ, pos, length, take, Result, Ok, Err}
use Rattle.timecode.specs.Calls.{is_interval, are_width_settings, pulse_of}
use Rattle.timecode.specs.Stream.{plain_feed, plain_answers, plain_received}
use Rattle.timecode.specs.declared.Answer.{Answer}
use Rattle.timecode.specs.declared.Format.{Format}
use Rattle.timecode.specs.declared.Refusal.TheVariants.{WrongLength, InvalidInterval, InvalidWidthSetting}
use Rattle.timecode.specs.declared.WidthSettings.{WidthSettings}
use Rattle.stream.specs.Feeding.{feed_of}
use Rattle.stream.specs.declared.Reader.{Reader}
use Rattle.block.specs.Blocks.{Block, block_in, Lists, room_in, are_records, lists_left, records_in, answers_from, block_for, feed_block_of, block_taken}
use Rattle.pulse_feed.specs.PulseFeeds.{feed_pulse_of}

-- A symbol fed by value; a symbol fed in place; a pulse classified and fed (settings, interval, width, period); a block of symbols, with the lent list for its reports.
pub data ReaderCall : Type 0 where
  symbol : ℕ → ReaderCall
  symbol_in_place : ℕ → ReaderCall
  pulse : WidthSettings → ℕ → ℕ → ℕ → ReaderCall
  block : List ℕ → Lists → ReaderCall

-- A call with its result: the answer, of a pulse also its deviation, and of a block also the lent list afterwards.
pub data CallResult : Type 0 where
  symbol_call_result : ℕ → Answer → CallResult
  in_place_call_result : ℕ → Answer → CallResult
  pulse_call_result : WidthSettings → ℕ → ℕ → ℕ → Answer → ℤ → CallResult
  block_call_result : List ℕ → Lists → Result Taken Refusal → Lists → CallResult

-- ---- what was fed, and what it was answered

-- A symbol is fed, refused or not; a pulse that the classifier refuses feeds none, and a block feeds the symbols that it takes.
abbrev pub symbols_fed : CallResult → List ℕ
symbols_fed (symbol_call_result s a) = s ∷ []
symbols_fed (in_place_call_result s a) = s ∷ []
symbols_fed (pulse_call_result s T width period a d) = cond (is_interval T && are_width_settings s) ((pulse_of s T width period).symbol ∷ []) []
symbols_fed (block_call_result ss l (Ok b) left) = take b.symbols ss
symbols_fed (block_call_result ss l (Err x) left) = []

-- an answer to each symbol fed; a block's are those that its records tell
abbrev pub answers_given : CallResult → List Answer
answers_given (symbol_call_result s a) = a ∷ []
answers_given (in_place_call_result s a) = a ∷ []
answers_given (pulse_call_result s T width period a d) = cond (is_interval T && are_width_settings s) (a ∷ []) []
answers_given (block_call_result ss l (Ok b) left) = answers_from 0 b.symbols (records_in b.reports left)
answers_given (block_call_result ss l (Err x) left) = []

unfoldable pub all_fed : List CallResult → List ℕ
all_fed [] = []
all_fed (x ∷ xs) = symbols_fed x ++ all_fed xs

unfoldable pub all_answers : List CallResult → List Answer
all_answers [] = []
all_answers (x ∷ xs) = answers_given x ++ all_answers xs

-- ---- the calls of a reader: each takes the reader that the call before gave back

abbrev pub call_result : Reader → ReaderCall → CallResult
call_result r (symbol s) = symbol_call_result s (feed_of r s).answer
call_result r (symbol_in_place s) = in_place_call_result s (feed_of r s).answer
call_result r (pulse s T width period) = pulse_call_result s T width period (feed_pulse_of r s T width period).answer (feed_pulse_of r s T width period).deviation
call_result r (block ss l) = block_call_result ss l (feed_block_of r ss l).answer (lists_left (block_for r ss l) l)

abbrev pub reader_of : Reader → ReaderCall → Reader
reader_of r (symbol s) = (feed_of r s).reader
reader_of r (symbol_in_place s) = (feed_of r s).reader
reader_of r (pulse s T width period) = (feed_pulse_of r s T width period).reader
reader_of r (block ss l) = (feed_block_of r ss l).reader

unfoldable pub call_results : Reader → List ReaderCall → List CallResult
call_results r [] = []
call_results r (c ∷ cs) = call_result r c ∷ call_results (reader_of r c) cs

unfoldable pub reader_after_calls : Reader → List ReaderCall → Reader
reader_after_calls r [] = r
reader_after_calls r (c ∷ cs) = reader_after_calls (reader_of r c) cs

-- ---- the same calls of the plain machine, which holds a list of symbols and meets no 13 and no 26

-- the block stops before the first symbol that the machine refuses or whose report would not fit
abbrev pub plain_block : Format → ℕ → List ℕ → List ℕ → Lists → Block
plain_block f k received ss l = block_in 0 (room_in l) (plain_answers f k received ss)

abbrev pub plain_call_result : Format → ℕ → List ℕ → ReaderCall → CallResult
plain_call_result f k received (symbol s) = symbol_call_result s (plain_feed f k received s).answer
plain_call_result f k received (symbol_in_place s) = in_place_call_result s (plain_feed f k received s).answer
plain_call_result f k received (pulse s T width period) =
    cond (is_interval T)
    (cond (are_width_settings s)
    (pulse_call_result s T width period (plain_feed f k received (pulse_of s T width period).symbol).answer (pulse_of s T width period).deviation)
    (pulse_call_result s T width period (Answer.Refused InvalidWidthSetting) (pos 0)))
    (pulse_call_result s T width period (Answer.Refused InvalidInterval) (pos 0))
plain_call_result f k received (block ss l) =
    cond (are_records l)
    (block_call_result ss l (block_taken (plain_block f k received ss l).taken (length (plain_block f k received ss l).reports) (plain_block f k received ss l).stop) (lists_left (plain_block f k received ss l) l))
    (block_call_result ss l (Err WrongLength) l)

unfoldable pub plain_call_results : Format → ℕ → List ℕ → List ReaderCall → List CallResult
plain_call_results f k received [] = []
plain_call_results f k received (c ∷ cs) = plain_call_result f k received c ∷ plain_call_results f k (plain_received f k received (symbols_fed (plain_call_result f k received c))) cs
