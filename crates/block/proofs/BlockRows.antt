-- The order of a block's checks, 13, 26, 3, and a block of no symbols.
use Rattle.std.specs.Prelude.{◌≡◌, refl, [], ◌∷◌, pos}
use Rattle.timecode.specs.Answers.{success, refusal_result}
use Rattle.timecode.specs.Formats.{table, look_up, row_of, known, size}
use Rattle.timecode.specs.Stream.{is_setting}
use Rattle.timecode.specs.declared.Refusal.TheVariants.{WrongLength, InvalidReader, InvalidSetting}
use Rattle.stream.specs.Feeding.{is_valid}
use Rattle.stream.specs.Refinement.{answers}
use Rattle.block.specs.Blocks.{block_in, block_answer}
use Rattle.block.specs.BlockRows.{results}

pub block-rows : results ≡ refusal_result InvalidReader ∷ refusal_result InvalidSetting ∷ refusal_result WrongLength ∷ success (pos 0 ∷ pos 0 ∷ pos 0 ∷ []) ∷ []
unfolding block_answer block_in answers is_valid is_setting known size row_of look_up table
block-rows = refl
