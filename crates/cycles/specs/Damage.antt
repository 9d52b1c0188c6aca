-- Cycles of an element turned: fewer than 3M/10 of them never give another symbol, since two elements differ in 3M/10 cycles at least.
use Rattle.std.specs.Prelude.{cond, List, [], ◌∷◌, ℕ, ◌+◌, eqb}

-- in how many places two lists of one length differ
unfoldable pub differences : List ℕ → List ℕ → ℕ
differences [] ys = 0
differences (x ∷ xs) [] = 0
differences (x ∷ xs) (y ∷ ys) = cond (eqb x y) 0 1 + differences xs ys
