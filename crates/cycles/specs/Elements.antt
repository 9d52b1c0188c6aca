-- One element: its cycles taken apart, and the symbol by the high cycles that it begins with.
use Rattle.std.specs.Prelude.{Bool, cond, ◌&&◌, List, [], ◌∷◌, ℕ, suc}
use Rattle.std.proofs.Math.Bool.{true}
use Prim.Native.Nat.compare
use Rattle.std.proofs.Math.Dec.{eqb}
use Rattle.cycles.specs.Cycles.{is_proper}

-- ---- lists that are one

unfoldable pub leading : List ℕ → ℕ
leading [] = 0
leading (c ∷ cs) = cond (eqb c 1) (suc (leading cs)) 0

unfoldable pub all_low : List ℕ → Bool
all_low [] = true
all_low (c ∷ cs) = eqb c 2 && all_low cs

unfoldable pub all_proper : List ℕ → Bool
all_proper [] = true
all_proper (c ∷ cs) = is_proper c && all_proper cs
