-- The order of a block's checks, 13, 26, 3, and a block of no symbols.
use Rattle.std.specs.Prelude.{List, [], ◌∷◌, ℕ}
use Rattle.timecode.specs.Answers.{Outcome}
use Rattle.timecode.specs.Formats.{H}
use Rattle.timecode.specs.Frames.{no_time}
use Rattle.stream.specs.Feeding.{fresh_register}
use Rattle.stream.specs.declared.Reader.{Reader}
use Rattle.block.specs.Blocks.{Lists, lists, block_answer, block_result}

-- a reader of H1 with that setting, at that place
abbrev at : ℕ → ℕ → Reader
at k place = record { format = record { letter = H; expression = 1 }; setting = k; place = place; received = fresh_register; time = no_time; control = 0 }

-- lists of two lengths, and lists of one
abbrev unequal : Lists
unequal = lists (0 ∷ []) [] [] [] []

abbrev empty : Lists
empty = lists [] [] [] [] []

abbrev pub results : List Outcome
results =
    block_result (block_answer (at 6 60) [] unequal)
    ∷ block_result (block_answer (at 6 0) [] unequal)
    ∷ block_result (block_answer (at 2 0) [] unequal)
    ∷ block_result (block_answer (at 2 0) [] empty)
    ∷ []
