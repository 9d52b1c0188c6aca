-- Writing digits at runs and reading them from there are inverse, at any layout that passes the test `proper`.
use Rattle.std.specs.Prelude.{Bool, true, ◌&&◌, ltb, eqb}
use Rattle.std.proofs.Math.Bool.{not}
use mathlib.Core.List.{List, [], ◌∷◌}
use Prim.Native.Nat.{ℕ, zero, suc}
use Rattle.timecode.specs.Frames.{covered}
use Rattle.timecode.specs.Layout.{Run}

-- ---- a list by its index

unfoldable pub clear : ℕ → (ℕ → ℕ) → List Run → ℕ → ℕ → Bool
clear n fillers rs i zero = true
clear n fillers rs i (suc w) = (ltb i n && (not (eqb (fillers i) 2) && not (covered rs i))) && clear n fillers rs (suc i) w

unfoldable pub proper : ℕ → (ℕ → ℕ) → List Run → Bool
proper n fillers [] = true
proper n fillers (r ∷ rs) = clear n fillers rs r.start r.width && proper n fillers rs
