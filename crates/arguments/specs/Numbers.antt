-- A number as an argument writes it: digits of a base and nothing else, in either case.
use Rattle.std.specs.Prelude.{Bool, true, cond, Option, Some, None, ◌&&◌, List, [], ◌∷◌, ℕ, ◌+◌, ◌*◌, ◌-◌, leb, ltb, length}

-- `0` to `9`, `A` to `F`, `a` to `f`; 16 for every other character, which is a digit of no base here
unfoldable pub digit_of : ℕ → ℕ
digit_of b =
    cond (ltb b 48) 16
    (cond (leb b 57) (b - 48)
    (cond (ltb b 65) 16
    (cond (leb b 70) (b - 55)
    (cond (ltb b 97) 16
    (cond (leb b 102) (b - 87)
    16)))))

unfoldable pub are_digit_bytes : ℕ → List ℕ → Bool
are_digit_bytes base [] = true
are_digit_bytes base (b ∷ bs) = ltb (digit_of b) base && are_digit_bytes base bs

-- the value of the digits behind those of the value v
unfoldable pub value_from : ℕ → ℕ → List ℕ → ℕ
value_from base v [] = v
value_from base v (b ∷ bs) = value_from base (v * base + digit_of b) bs

-- the last number of 64 bits
abbrev pub last : ℕ
last = 18446744073709551615

-- a number past the last is taken for the last
unfoldable pub limited : ℕ → ℕ
limited v = cond (leb v last) v last

unfoldable pub number_of : ℕ → List ℕ → Option ℕ
number_of base text = cond (ltb 0 (length text) && are_digit_bytes base text) (Some (limited (value_from base 0 text))) None
