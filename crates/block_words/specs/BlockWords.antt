-- The struct of a block's answer, one block of the caller's words, and the words after it.
use Rattle.block.specs.declared.Taken.{Taken}
use Rattle.timecode.specs.declared.Refusal.{Refusal}
use Rattle.std.specs.Prelude.{List, ℕ, Result, Ok, Err}
use Rattle.timecode.specs.Answers.{refusal_number}
use Rattle.stream.specs.declared.Reader.{Reader}
use Rattle.block.specs.Blocks.{Lists, stop_number, block_result, feed_block_of}
use Rattle.block.specs.declared.FedBlock.{FedBlock}
use Rattle.ffi.specs.Fields.{unless_refused}
use Rattle.reader_words.specs.Words.{reader_in, words_into}
use Rattle.block_words.specs.declared.BlockResult.{BlockResult}

-- the number first, then the answer's values; where the block is refused they are 0
abbrev pub block_result_of : Result Taken Refusal → BlockResult
block_result_of (Ok b) = record { number = 0; stop = stop_number b.stop; taken = b.symbols; reports = b.reports }
block_result_of (Err x) = record { number = refusal_number x; stop = 0; taken = 0; reports = 0 }

-- a block's reader and its answer
abbrev pub fed_block_with : Reader → Result Taken Refusal → FedBlock
fed_block_with next answer = record { reader = next; answer = answer }

-- one block of the caller's words, with the lent list for its reports, and the words after a block: a refused one leaves them
abbrev pub feed_block_words : List ℕ → List ℕ → Lists → FedBlock
feed_block_words words symbols l = feed_block_of (reader_in words) symbols l

abbrev pub block_words_left : FedBlock → List ℕ → List ℕ
block_words_left fed words = unless_refused (block_result fed.answer) (words_into words fed.reader) words
