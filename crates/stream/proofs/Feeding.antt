-- What the program's reader is, and what a Feed makes of it, for every reader and symbol.
use Rattle.timecode.specs.declared.Refusal.{Refusal}
use Rattle.timecode.specs.declared.Reading.{Reading}
use Rattle.std.specs.Prelude.{◌≡◌, refl, true, ◌<◌, ltb, Result, Ok, Err}
use Rattle.std.proofs.Common.{ltb-true}
use Rattle.timecode.specs.Formats.{known, size}
use Rattle.timecode.proofs.Laws.Tests.{and_right}
use Rattle.stream.specs.declared.Reader.{Reader}
use Rattle.stream.specs.Feeding.{is_valid, row_in, row_with, reader_with_row, reader_with_reading}

pub with-row-reading : (r : Reader) (reading : Result Reading Refusal) → reader_with_row r (row_with r.format (row_in r) reading) ≡ reader_with_reading r reading
unfolding row_with reader_with_reading
with-row-reading r (Ok read) = refl
with-row-reading r (Err x) = refl

-- a valid reader's place is below n
pub valid-place : (r : Reader) → is_valid r ≡ true → r.place < size r.format
unfolding is_valid
valid-place r h = ltb-true r.place (size r.format) (and_right (known r.format) (ltb r.place (size r.format)) h)
