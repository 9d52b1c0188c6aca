-- Laws of the characters, and of decoding many of them: each to its own place, then those of skipped bytes left out.
use Rattle.std.specs.Prelude.{◌≡◌, cond, List, [], ◌∷◌, ℕ, ◌<◌, ◌≤◌, eqb, get_or, length, take}
use Rattle.characters.specs.ByteSymbols.{is_skipped, symbol_of_byte}

-- ---- characters

unfoldable pub symbol_or_skipped : ℕ → ℕ
symbol_or_skipped b = cond (is_skipped b) 5 (symbol_of_byte b)

-- without the fives
unfoldable pub kept_of : List ℕ → List ℕ
kept_of [] = []
kept_of (s ∷ ss) = cond (eqb s 5) (kept_of ss) (s ∷ kept_of ss)

-- so many bytes are decoded
pub record EachPut (bytes : List ℕ) (room i most : ℕ) (symbols : List ℕ) : Type 0 where
  pub within : i ≤ length bytes
  pub long : length symbols ≡ room
  pub each : (j : ℕ) → j < i → get_or symbols j 0 ≡ symbol_or_skipped (get_or bytes j 0)
  pub greatest : (j : ℕ) → j < i → get_or symbols j 0 ≤ most

unfoldable pub symbols_in : ℕ → ℕ
symbols_in s = cond (eqb s 5) 0 1

-- those kept of the first i stand in the first places, and from i on nothing has changed
pub record ClosedTo (entry : List ℕ) (i count : ℕ) (symbols : List ℕ) : Type 0 where
  pub few : count ≤ i
  pub counted : count ≡ length (kept_of (take i entry))
  pub first : take count symbols ≡ kept_of (take i entry)
  pub long : length symbols ≡ length entry
  pub others : (j : ℕ) → i ≤ j → get_or symbols j 0 ≡ get_or entry j 0
