-- A line of a counter's export: blanks, a width, blanks with at most one comma among them, a period, blanks. Both are decimal numbers of 32 bits.
use Rattle.std.specs.Prelude.{Bool, true, false, cond, Option, Some, None, ◌&&◌, List, [], ◌∷◌, ℕ, suc, ◌+◌, ◌-◌, eqb, leb, ltb, get_or, length, take, drop}
use Rattle.arguments.specs.Numbers.{number_of}
use Rattle.pulse_lines.specs.declared.PulseLine.{PulseLine}
use Rattle.pulse_lines.specs.declared.PulseLine.TheVariants.{Pulse, Empty, Other}

-- space, tab, CR
unfoldable pub is_blank : ℕ → Bool
is_blank b = cond (eqb b 32) true (cond (eqb b 9) true (eqb b 13))

unfoldable pub is_digit : ℕ → Bool
is_digit b = leb 48 b && leb b 57

-- how many bytes in front pass a test
unfoldable pub run_of : (ℕ → Bool) → List ℕ → ℕ
run_of t [] = 0
run_of t (b ∷ bs) = cond (t b) (suc (run_of t bs)) 0

-- the end of the bytes from i on that pass a test
unfoldable pub end_of : (ℕ → Bool) → List ℕ → ℕ → ℕ
end_of t line i = i + run_of t (drop i line)

-- behind a comma, if one stands at i
unfoldable pub comma_end : List ℕ → ℕ → ℕ
comma_end line i = cond (ltb i (length line) && eqb (get_or line i 0) 44) (i + 1) i

unfoldable pub separator_end : List ℕ → ℕ → ℕ
separator_end line i = end_of is_blank line (comma_end line (end_of is_blank line i))

-- the bytes from a to b
abbrev pub between : List ℕ → ℕ → ℕ → List ℕ
between line a b = take (b - a) (drop a line)

-- the pulse of two numbers; one that 32 bits do not hold is none
abbrev pub pulse_with : Option ℕ → Option ℕ → PulseLine
pulse_with (Some w) (Some p) = cond (leb w 4294967295) (cond (leb p 4294967295) (Pulse w p) Other) Other
pulse_with (Some w) None = Other
pulse_with None n = Other

-- where the width and the period begin and end
unfoldable pub width_start : List ℕ → ℕ
width_start line = end_of is_blank line 0

unfoldable pub width_end : List ℕ → ℕ
width_end line = end_of is_digit line (width_start line)

unfoldable pub period_start : List ℕ → ℕ
period_start line = separator_end line (width_end line)

unfoldable pub period_end : List ℕ → ℕ
period_end line = end_of is_digit line (period_start line)

-- A line of blanks says nothing; behind the period nothing but blanks stands.
unfoldable pub pulse_line_of : List ℕ → PulseLine
pulse_line_of line =
    cond (eqb (width_start line) (length line)) Empty
    (cond (eqb (end_of is_blank line (period_end line)) (length line))
    (pulse_with (number_of 10 (between line (width_start line) (width_end line))) (number_of 10 (between line (period_start line) (period_end line))))
    Other)

-- `"`, `#`, `A` to `Z`, `a` to `z`
unfoldable pub opens_heading : ℕ → Bool
opens_heading b = cond (eqb b 34) true (cond (eqb b 35) true (cond (ltb b 65) false (cond (leb b 90) true (cond (ltb b 97) false (leb b 122)))))

-- a heading begins with such a character
unfoldable pub is_heading : List ℕ → Bool
is_heading line = ltb (width_start line) (length line) && opens_heading (get_or line (width_start line) 0)
