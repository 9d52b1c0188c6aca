-- The fields of a frame one by one: what stands in all runs together is what stands in each field.
use Rattle.std.specs.Prelude.{◌≡◌, List, [], ◌∷◌, ℕ, ◌^◌, ◌≤◌}
use Rattle.timecode.specs.Layout.{Field}

-- P holds of each field and its number
abbrev pub Each : (Field → ℕ → Type 0) → List Field → List ℕ → Type 0
Each P [] [] = Unit
Each P [] (x ∷ xs) = ⊥
Each P (d ∷ ds) [] = ⊥
Each P (d ∷ ds) (x ∷ xs) = P d x × Each P ds xs

abbrev pub AreDigits : List ℕ → Type 0
AreDigits [] = Unit
AreDigits (x ∷ xs) = (x ≤ 9) × AreDigits xs

abbrev pub Binary : Field → Type 0
Binary [] = Unit
Binary (r ∷ rs) = (r.radix ≡ 2 ^ r.width) × Binary rs
