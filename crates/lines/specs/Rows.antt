-- Worked rows for what no theorem fixes: each line as the text that it is. One theorem holds of all.
use Rattle.std.specs.Prelude.{◌≡◌, refl, List, [], ◌∷◌, map, ℕ}
use Prim.Native.Char.{code}
use Prim.Native.String.{String, [] as none, ◌∷◌ as ◌then◌}
use Rattle.lines.specs.Text.{digit_at, digits_of, places_in, digit_count, decimal, pair_of, clock_of, report_line, counts_line, refused_line}

-- the bytes of a text of ASCII
unfoldable pub ascii : String → List ℕ
ascii none = []
ascii (c then cs) = code c ∷ ascii cs

-- a line: a report with its element's number, its time and its control word; the counts; a refusal
pub data Line : Type 0 where
  report : ℕ → ℕ → ℕ → ℕ → Line
  counts : ℕ → ℕ → Line
  refused : ℕ → Line

abbrev pub bytes_of : Line → List ℕ
bytes_of (report element day c w) = report_line element (record { year = 24; day = day; hundredths = c }) w
bytes_of (counts elements reports) = counts_line elements reports
bytes_of (refused number) = refused_line number

pub record Row : Type 0 where
  pub line : Line
  pub text : String

abbrev ◌reads◌ : Line → String → Row
l reads text = record { line = l; text = text }

infix 5 ◌reads◌
unfoldable pub rows : List Row
rows =
    -- document 01's listing
    (report 121 191 5094000 0 reads "121 191 14:09:00.00 000000000000\n")
    ∷ (counts 121 1 reads "elements 121 reports 1\n")
    -- the day in three digits, the time in pairs, the control word in 12 hexadecimal digits of lower case
    ∷ (report 9 1 0 1 reads "9 001 00:00:00.00 000000000001\n")
    ∷ (report 10 22 4529678 20015998343868 reads "10 022 12:34:56.78 123456789abc\n")
    ∷ (report 1 366 8639999 281474976710655 reads "1 366 23:59:59.99 ffffffffffff\n")
    ∷ (report 60 100 360000 260244934277777 reads "60 100 01:00:00.00 ecb0fedcba91\n")
    -- the added second
    ∷ (report 100 181 8640099 160 reads "100 181 23:59:60.99 0000000000a0\n")
    -- numbers from 0 to the largest of 64 bits
    ∷ (counts 0 0 reads "elements 0 reports 0\n")
    ∷ (counts 18446744073709551615 10000000000000000000 reads "elements 18446744073709551615 reports 10000000000000000000\n")
    ∷ (report 18446744073709551615 366 8640099 281474976710655 reads "18446744073709551615 366 23:59:60.99 ffffffffffff\n")
    ∷ (refused 1 reads "refused 1\n")
    ∷ (refused 4 reads "refused 4\n")
    ∷ (refused 27 reads "refused 27\n")
    ∷ []

pub all-rows : map (λ r. bytes_of r.line) rows ≡ map (λ r. ascii r.text) rows
unfolding rows ascii report_line counts_line refused_line clock_of pair_of decimal digit_count places_in digits_of digit_at
all-rows = refl
