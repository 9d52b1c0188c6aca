-- Document 01, timeread: the lines that it prints, in ASCII.
use Rattle.std.specs.Prelude.{cond, List, [], ◌∷◌, ◌++◌, ℕ, zero, suc, ◌+◌, ◌-◌, ◌/◌, ◌%◌, ◌^◌, ltb}
use Rattle.timecode.specs.Layout.{second, minute, hour, tabulate}
use Rattle.timecode.specs.declared.Time.{Time}

-- a digit: `0` to `9`, then `a` to `f`
abbrev pub glyph : ℕ → ℕ
glyph d = cond (ltb d 10) (48 + d) (87 + d)

-- digit j of the last digits of a number in a base, as many as the width, the highest first
unfoldable pub digit_at : ℕ → ℕ → ℕ → ℕ → ℕ
digit_at base width number j = glyph (number / base ^ (width - 1 - j) % base)

unfoldable pub digits_of : ℕ → ℕ → ℕ → List ℕ
digits_of base width number = tabulate width 0 (digit_at base width number)

-- how many decimal digits a number below 10^20 has, with no zero in front
unfoldable pub places_in : ℕ → ℕ → ℕ
places_in zero number = 1
places_in (suc k) number = cond (ltb number 10) 1 (suc (places_in k (number / 10)))

unfoldable pub digit_count : ℕ → ℕ
digit_count number = places_in 19 number

unfoldable pub decimal : ℕ → List ℕ
decimal number = digits_of 10 (digit_count number) number

abbrev pub space : ℕ
space = 32

abbrev pub newline : ℕ
newline = 10

-- two digits and what separates them from the next
unfoldable pub pair_of : ℕ → ℕ → List ℕ
pair_of number separator = digits_of 10 2 number ++ (separator ∷ [])

-- texts one behind another
abbrev pub together : List (List ℕ) → List ℕ
together [] = []
together (p ∷ ps) = p ++ together ps

-- hh:mm:ss.cc and a space
unfoldable pub clock_of : ℕ → List ℕ
clock_of c = together (pair_of (hour c) 58 ∷ pair_of (minute c) 58 ∷ pair_of (second c) 46 ∷ pair_of (c % 100) space ∷ [])

-- the element's number, the day in three digits, hh:mm:ss.cc, the control word in 12 hexadecimal digits
unfoldable pub report_line : ℕ → Time → ℕ → List ℕ
report_line element t w = together (decimal element ∷ (space ∷ []) ∷ digits_of 10 3 t.day ∷ (space ∷ []) ∷ clock_of t.hundredths ∷ digits_of 16 12 w ∷ (newline ∷ []) ∷ [])

-- `elements N reports M`
unfoldable pub counts_line : ℕ → ℕ → List ℕ
counts_line elements reports =
    together
    ((101 ∷ 108 ∷ 101 ∷ 109 ∷ 101 ∷ 110 ∷ 116 ∷ 115 ∷ space ∷ []) ∷ decimal elements
    ∷ (space ∷ 114 ∷ 101 ∷ 112 ∷ 111 ∷ 114 ∷ 116 ∷ 115 ∷ space ∷ []) ∷ decimal reports ∷ (newline ∷ []) ∷ [])

-- `refused N`
unfoldable pub refused_line : ℕ → List ℕ
refused_line number = together ((114 ∷ 101 ∷ 102 ∷ 117 ∷ 115 ∷ 101 ∷ 100 ∷ space ∷ []) ∷ decimal number ∷ (newline ∷ []) ∷ [])
