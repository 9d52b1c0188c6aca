-- Document 01, "Where each element stands", with document 02's year and XR3: the runs of elements that carry digits and bits, and the symbol at each index of a frame.
use Rattle.std.specs.Prelude.{Bool, false, cond, not, ◌&&◌, ◌||◌, List, [], ◌∷◌, ◌++◌, map, ℕ, zero, suc, ◌+◌, ◌*◌, ◌-◌, ◌/◌, ◌%◌, ◌^◌, ◌<◌, leb, ltb, eqb, get_or}
use Rattle.timecode.specs.Formats.{A, B, E, G, H, member, is_x, carries_control, carries_seconds, carries_year, control_places, day_length}
use Rattle.timecode.specs.declared.Format.{Format}
use Rattle.timecode.specs.declared.Time.{Time}

-- A run of elements that carries one digit: its first index, its number of elements (0 where the format does not carry it), the digit's radix, and whether its weights fall: the highest first, not the lowest.
pub record Run : Type 0 where
  pub start : ℕ
  pub width : ℕ
  pub radix : ℕ
  pub falls : Bool

-- A field carries one number: the runs of its digits, lowest digit first.
abbrev pub Field : Type 0
Field = List Run

-- ---- where the digits and bits of a format stand

-- a decimal digit in the weights 1, 2, 4, 8
abbrev pub decimal_run : ℕ → ℕ → Run
decimal_run start width = record { start = start; width = width; radix = 10; falls = false }

-- the same, where it is carried
abbrev pub decimal_if : Bool → ℕ → ℕ → Run
decimal_if carried start width = decimal_run start (cond carried width 0)

-- the same, carried by these letters
abbrev pub decimal_in : List ℕ → Format → ℕ → ℕ → Run
decimal_in letters f start width = decimal_if (member f.letter letters) start width

-- bits of a binary number, where they are carried
abbrev pub binary_if : Bool → ℕ → ℕ → Run
binary_if carried start width = record { start = start; width = cond carried width 0; radix = 2 ^ cond carried width 0; falls = false }

-- in X the digit stands there, highest weight first; in the other letters as the run says
abbrev pub in_x : Format → ℕ → ℕ → Run → Run
in_x f start width r = record { start = cond (is_x f) start r.start; width = cond (is_x f) width r.width; radix = r.radix; falls = is_x f }

-- units 1-4, tens 6-8 (A, B, G; E has only the tens); in X units 17-20, tens 14-16
unfoldable pub seconds : Format → Field
seconds f = in_x f 17 4 (decimal_in (A ∷ B ∷ G ∷ []) f 1 4) ∷ in_x f 14 3 (decimal_in (A ∷ B ∷ E ∷ G ∷ []) f 6 3) ∷ []

-- units 10-13, tens 15-17 (all but D); in X units 10-13, tens 7-9
unfoldable pub minutes : Format → Field
minutes f = in_x f 10 4 (decimal_in (A ∷ B ∷ E ∷ G ∷ H ∷ []) f 10 4) ∷ in_x f 7 3 (decimal_in (A ∷ B ∷ E ∷ G ∷ H ∷ []) f 15 3) ∷ []

-- units 20-23, tens 25-26; in X units 3-6, tens 1-2
unfoldable pub hours : Format → Field
hours f = in_x f 3 4 (decimal_run 20 4) ∷ in_x f 1 2 (decimal_run 25 2) ∷ []

-- units 30-33, tens 35-38, hundreds 40-41 (all except X)
unfoldable pub days : Format → Field
days f = decimal_if (not (is_x f)) 30 4 ∷ decimal_if (not (is_x f)) 35 4 ∷ decimal_if (not (is_x f)) 40 2 ∷ []

-- 45-48 (A, G)
unfoldable pub tenths : Format → Field
tenths f = decimal_in (A ∷ G ∷ []) f 45 4 ∷ []

-- 50-53 (G)
unfoldable pub hundredths_digit : Format → Field
hundredths_digit f = decimal_in (G ∷ []) f 50 4 ∷ []

-- SBS, straight binary seconds: weights 1 to 256 at 80-88, 512 to 65,536 at 90-97 (A, B, expressions 0 and 3)
unfoldable pub has_seconds : Format → Bool
has_seconds f = carries_seconds f && member f.letter (A ∷ B ∷ [])

unfoldable pub straight_seconds : Format → Field
straight_seconds f = binary_if (has_seconds f) 80 9 ∷ binary_if (has_seconds f) 90 8 ∷ []

-- Control bit 1, the lowest, takes the first place of the format's ranges of nine; the rest follow in rising index.
unfoldable pub control : Format → Field
control f = map (λ (start : ℕ). binary_if (carries_control f) start 9) (control_places f)

-- the year: units 50-53, tens 55-58 (A, B, expressions 4 to 7)
unfoldable pub years : Format → Field
years f = decimal_if (carries_year f) 50 4 ∷ decimal_if (carries_year f) 55 4 ∷ []

unfoldable pub time_fields : Format → List Field
time_fields f = seconds f ∷ minutes f ∷ hours f ∷ days f ∷ tenths f ∷ hundredths_digit f ∷ []

unfoldable pub fields : Format → List Field
fields f = time_fields f ++ (straight_seconds f ∷ control f ∷ years f ∷ [])

abbrev pub flatten : List Field → List Run
flatten [] = []
flatten (d ∷ ds) = d ++ flatten ds

unfoldable pub runs : Format → List Run
runs f = flatten (fields f)

-- ---- the numbers that the fields carry

-- 1 in the added second, 0 before it
abbrev pub added_in : ℕ → ℕ
added_in c = c / day_length

-- seconds, minutes and hours of c; the added second is one more than the second before it: 23:59:60
abbrev pub second : ℕ → ℕ
second c = (c / 100 - added_in c) % 60 + added_in c

abbrev pub minute : ℕ → ℕ
minute c = (c / 100 - added_in c) / 60 % 60

abbrev pub hour : ℕ → ℕ
hour c = (c / 100 - added_in c) / 60 / 60

-- the day in the digits: X carries none
unfoldable pub day_carried : Format → Time → ℕ
day_carried f t = cond (is_x f) 0 t.day

unfoldable pub time_numbers : Format → Time → List ℕ
time_numbers f t = second t.hundredths ∷ minute t.hundredths ∷ hour t.hundredths ∷ day_carried f t ∷ t.hundredths / 10 % 10 ∷ t.hundredths % 10 ∷ []

-- SBS is the whole seconds c / 100, 86,400 in the added second
unfoldable pub numbers : Format → Time → ℕ → List ℕ
numbers f t w = time_numbers f t ++ (t.hundredths / 100 ∷ w ∷ t.year ∷ [])

-- the digits of a number in a field, lowest first
abbrev pub field_digits : Field → ℕ → List ℕ
field_digits [] x = []
field_digits (r ∷ rs) x = x % r.radix ∷ field_digits rs (x / r.radix)

-- the digits of all numbers
abbrev pub all_digits : List Field → List ℕ → List ℕ
all_digits [] xs = []
all_digits (d ∷ ds) [] = []
all_digits (d ∷ ds) (x ∷ xs) = field_digits d x ++ all_digits ds xs

-- each digit fits the elements of its run
abbrev pub Small : List Run → List ℕ → Type 0
Small [] [] = Unit
Small [] (x ∷ xs) = ⊥
Small (r ∷ rs) [] = ⊥
Small (r ∷ rs) (x ∷ xs) = (x < 2 ^ r.width) × Small rs xs

-- ---- the symbol at each index

abbrev pub in_run : Run → ℕ → Bool
in_run r i = leb r.start i && ltb i (r.start + r.width)

-- which bit of its digit stands at index i of a run, and where bit b stands: lowest weight first, or where the weights fall the highest
abbrev pub bit_of : Run → ℕ → ℕ
bit_of r i = cond r.falls (r.start + r.width - 1 - i) (i - r.start)

abbrev pub place_of : Run → ℕ → ℕ
place_of r b = cond r.falls (r.start + (r.width - 1 - b)) (r.start + b)

-- Marks stand at 0 (Pr) and at 9, 19, .. up to n - 1 (P0), nowhere else; X has its own, at 0 alone.
unfoldable pub is_mark : ℕ → Bool
is_mark i = eqb i 0 || eqb (i % 10) 9

-- what stands where no digit or bit does: a mark, or an index marker, symbol 0; in X a mark at 0, and symbol 3 at 21-24
unfoldable pub filler : Format → ℕ → ℕ
filler f i = cond (is_x f) (cond (eqb i 0) 2 3) (cond (is_mark i) 2 0)

-- the last element of every frame: a mark, in X a 3
unfoldable pub ending : Format → ℕ
ending f = cond (is_x f) 3 2

-- the symbol at index i: the bit of the digit whose run covers i, else the filler
unfoldable pub symbol_at : (ℕ → ℕ) → List Run → List ℕ → ℕ → ℕ
symbol_at fillers [] xs i = fillers i
symbol_at fillers (r ∷ rs) [] i = fillers i
symbol_at fillers (r ∷ rs) (x ∷ xs) i = cond (in_run r i) (x / 2 ^ bit_of r i % 2) (symbol_at fillers rs xs i)

-- g i, g (i + 1), .., n of them
abbrev pub tabulate {ℓ} : {Any : Type ℓ} → ℕ → ℕ → (ℕ → Any) → List Any
tabulate zero i g = []
tabulate (suc n) i g = g i ∷ tabulate n (suc i) g

-- the n symbols in which the digits xs stand at the runs rs
unfoldable pub encode : ℕ → (ℕ → ℕ) → List Run → List ℕ → List ℕ
encode n fillers rs xs = tabulate n 0 (symbol_at fillers rs xs)

-- ---- what the symbols of a frame say

-- the number whose bits are g 0, g 1, .., w of them, lowest first
unfoldable pub value : ℕ → (ℕ → ℕ) → ℕ
value zero g = 0
value (suc w) g = g 0 + 2 * value w (λ b. g (suc b))

-- the digit that stands at a run
abbrev pub digit_in : List ℕ → Run → ℕ
digit_in frame r = value r.width (λ b. get_or frame (place_of r b) 0)

-- the number that stands in a field
abbrev pub number_in : List ℕ → Field → ℕ
number_in frame [] = 0
number_in frame (r ∷ rs) = digit_in frame r + r.radix * number_in frame rs

-- the digits that stand at the runs
abbrev pub decode : List Run → List ℕ → List ℕ
decode rs frame = map (digit_in frame) rs
