-- The digits of a number in a field, and the number that digits make: each gives the other back, at any radices.
use Rattle.std.specs.Prelude.{List, [], ◌∷◌, ℕ, ◌+◌, ◌*◌, ◌<◌}
use Rattle.timecode.specs.Layout.{Field}

-- the number whose digits these are
abbrev pub joined : Field → List ℕ → ℕ
joined [] xs = 0
joined (r ∷ rs) [] = 0
joined (r ∷ rs) (x ∷ xs) = x + r.radix * joined rs xs

-- how many numbers the field has digits for
abbrev pub capacity : Field → ℕ
capacity [] = 1
capacity (r ∷ rs) = r.radix * capacity rs

-- each digit is below its radix
abbrev pub Below : Field → List ℕ → Type 0
Below [] [] = Unit
Below [] (x ∷ xs) = ⊥
Below (r ∷ rs) [] = ⊥
Below (r ∷ rs) (x ∷ xs) = (x < r.radix) × Below rs xs

abbrev pub Positive : Field → Type 0
Positive [] = Unit
Positive (r ∷ rs) = (0 < r.radix) × Positive rs
