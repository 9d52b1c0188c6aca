-- Worked rows: the elements at M = 10, other runs, the order of the refusals and number 25's index.
use Rattle.std.specs.Prelude.{List, [], ◌∷◌, ℕ}
use Rattle.timecode.specs.declared.Format.{Format}

abbrev pub zero10 : List ℕ
zero10 = 1 ∷ 1 ∷ 2 ∷ 2 ∷ 2 ∷ 2 ∷ 2 ∷ 2 ∷ 2 ∷ 2 ∷ []

abbrev pub one10 : List ℕ
one10 = 1 ∷ 1 ∷ 1 ∷ 1 ∷ 1 ∷ 2 ∷ 2 ∷ 2 ∷ 2 ∷ 2 ∷ []

abbrev pub mark10 : List ℕ
mark10 = 1 ∷ 1 ∷ 1 ∷ 1 ∷ 1 ∷ 1 ∷ 1 ∷ 1 ∷ 2 ∷ 2 ∷ []

abbrev pub format : ℕ → ℕ → Format
format letter expression = record { letter = letter; expression = expression }
