-- Document 01, timeread: the symbols that the characters of a recording stand for.
use Rattle.std.specs.Prelude.{Bool, cond, ◌||◌, List, [], ◌∷◌, ℕ, eqb}

-- ---- characters 0 1 P - for symbols 0 1 2 3

-- space, CR, LF
unfoldable pub is_skipped : ℕ → Bool
is_skipped b = eqb b 32 || (eqb b 13 || eqb b 10)

-- Another character stands for no symbol: 4, which Feed refuses with the number 4.
unfoldable pub symbol_of_byte : ℕ → ℕ
symbol_of_byte b = cond (eqb b 48) 0 (cond (eqb b 49) 1 (cond (eqb b 80) 2 (cond (eqb b 45) 3 4)))

-- the list of Feeds that the bytes after the first line are
unfoldable pub feeds_of : List ℕ → List ℕ
feeds_of [] = []
feeds_of (b ∷ bs) = cond (is_skipped b) (feeds_of bs) (symbol_of_byte b ∷ feeds_of bs)
