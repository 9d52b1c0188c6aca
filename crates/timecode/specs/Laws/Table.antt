-- What holds for every line of the table, and what a computed test shows for every format.
use Rattle.std.specs.Prelude.{Bool, true, ◌&&◌, List, [], ◌∷◌, ℕ}
use Rattle.timecode.specs.Formats.{Row, table, no_row}
use Rattle.timecode.specs.declared.Format.{Format}

-- ---- line by line

abbrev pub Lines : (Row → Type 0) → List Row → Type 0
Lines P [] = Unit
Lines P (r ∷ rs) = P r × Lines P rs

-- a test that every line passes, and the line of any other letter
abbrev pub every_row : (Row → Bool) → List Row → Bool
every_row p [] = p no_row
every_row p (r ∷ rs) = p r && every_row p rs

abbrev pub every_expression : (Format → Bool) → ℕ → List ℕ → Bool
every_expression p l [] = true
every_expression p l (e ∷ es) = p (record { letter = l; expression = e }) && every_expression p l es

abbrev pub every_line : (Format → Bool) → List Row → Bool
every_line p [] = true
every_line p (r ∷ rs) = every_expression p r.letter r.expressions && every_line p rs

-- every format passes the test
unfoldable pub every_format : (Format → Bool) → Bool
every_format p = every_line p table
