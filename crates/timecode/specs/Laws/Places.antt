-- Lists of places: fewer places than there are candidates leave one of the candidates out.
use Rattle.std.specs.Prelude.{Bool, true, cond, not, ◌&&◌, List, [], ◌∷◌, ℕ, eqb}
use Rattle.timecode.specs.Formats.{member}

abbrev pub without : ℕ → List ℕ → List ℕ
without k [] = []
without k (p ∷ ps) = cond (eqb k p) (without k ps) (p ∷ without k ps)

abbrev pub distinct : List ℕ → Bool
distinct [] = true
distinct (p ∷ ps) = not (member p ps) && distinct ps
