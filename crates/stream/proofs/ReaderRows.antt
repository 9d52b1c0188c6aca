-- Document 01's example of number 13, that of 1 for a fresh reader and that of 4 for Feed, document 02's 26, and the order of the checks.
use Rattle.std.specs.Prelude.{◌≡◌, refl}
use Rattle.timecode.specs.Formats.{table, look_up, row_of, known, size}
use Rattle.timecode.specs.Stream.{is_setting}
use Rattle.stream.specs.Feeding.{made_of, is_valid, answer_of}
use Rattle.stream.specs.ReaderRows.{results, expected}

pub reader-rows : results ≡ expected
unfolding made_of answer_of is_valid is_setting known size row_of look_up table
reader-rows = refl
