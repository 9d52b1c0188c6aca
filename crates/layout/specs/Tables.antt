-- What the code's tables promise: for each letter what document 01's table and layout say, with document 02's year.
use Rattle.std.specs.Prelude.{◌≡◌, Bool, cond, ◌&&◌, List, [], ◌∷◌, map, ℕ, ◌-◌, ◌/◌, ◌%◌, ◌^◌, leb, eqb, get_or, set}
use Rattle.std.specs.Int.Bits.{bit_and}
use Rattle.timecode.specs.Formats.{member, A, B, known, size, interval, carries_leap, carries_year}
use Rattle.timecode.specs.Layout.{Run, tabulate}
use Rattle.timecode.specs.declared.Format.{Format}
use Rattle.layout.specs.Runs.{code_runs}
use Rattle.layout.specs.declared.Row.{Row}

-- the index of each mark in a frame of 100; in one of 60 the first seven
abbrev pub mark_places : List ℕ
mark_places = 0 ∷ 9 ∷ 19 ∷ 29 ∷ 39 ∷ 49 ∷ 59 ∷ 69 ∷ 79 ∷ 89 ∷ 99 ∷ []

-- where the runs start, in every format except X: decimal digits of the time and straight binary seconds, control ranges, digits of the year
abbrev pub digit_starts : List ℕ
digit_starts = 1 ∷ 6 ∷ 10 ∷ 15 ∷ 20 ∷ 25 ∷ 30 ∷ 35 ∷ 40 ∷ 45 ∷ 50 ∷ 80 ∷ 90 ∷ []

abbrev pub control_starts : List ℕ
control_starts = 50 ∷ 60 ∷ 70 ∷ 80 ∷ 90 ∷ []

abbrev pub year_starts : List ℕ
year_starts = 50 ∷ 55 ∷ []

abbrev pub run_starts : List ℕ
run_starts = 1 ∷ 6 ∷ 10 ∷ 15 ∷ 20 ∷ 25 ∷ 30 ∷ 35 ∷ 40 ∷ 45 ∷ 50 ∷ 80 ∷ 90 ∷ 50 ∷ 60 ∷ 70 ∷ 80 ∷ 90 ∷ 50 ∷ 55 ∷ []

-- how wide they are where they are carried
abbrev pub full_widths : List ℕ
full_widths = 4 ∷ 3 ∷ 4 ∷ 3 ∷ 4 ∷ 2 ∷ 4 ∷ 4 ∷ 2 ∷ 4 ∷ 4 ∷ 9 ∷ 8 ∷ 9 ∷ 9 ∷ 9 ∷ 9 ∷ 9 ∷ 4 ∷ 4 ∷ []

-- a set of runs as the bits of a number, the first run the lowest; and how wide each run is, 0 where it is not in the set
unfoldable pub is_carried : ℕ → ℕ → Bool
is_carried runs j = eqb (runs / 2 ^ j % 2) 1

unfoldable pub run_widths : ℕ → List ℕ
run_widths runs = tabulate 20 0 (λ j. cond (is_carried runs j) (get_or full_widths j 0) 0)

-- where the runs of a format start, and how wide they are
unfoldable pub starts_of : Format → List ℕ
starts_of f = map (λ (r : Run). r.start) (code_runs f)

unfoldable pub widths_of : Format → List ℕ
widths_of f = map (λ (r : Run). r.width) (code_runs f)

-- widths without straight binary seconds, and without control bits
abbrev pub clear_seconds : List ℕ → List ℕ
clear_seconds ws = set (set ws 11 0) 12 0

abbrev pub clear_control : List ℕ → List ℕ
clear_control ws = set (set (set (set (set ws 13 0) 14 0) 15 0) 16 0) 17 0

-- what of an edition's widths an expression carries. 0 = BCD, CF, SBS; 1 = BCD, CF; 2 = BCD; 3 = BCD, SBS
unfoldable pub carried_in : ℕ → List ℕ → List ℕ
carried_in e ws = cond (eqb e 0) ws (cond (eqb e 1) (clear_seconds ws) (cond (eqb e 3) (clear_control ws) (clear_control (clear_seconds ws))))

-- the same as a set of runs
unfoldable pub runs_in : ℕ → ℕ
runs_in e = cond (eqb e 0) 1048575 (cond (eqb e 1) 1042431 (cond (eqb e 3) 794623 788479))

-- 4 to 7 are 0 to 3 with the year
unfoldable pub has_year : ℕ → Bool
has_year e = member e (4 ∷ 5 ∷ 6 ∷ 7 ∷ [])

-- the letters that have an edition with the year
abbrev pub takes_year : ℕ → Bool
takes_year l = member l (A ∷ B ∷ [])

unfoldable pub without_year : ℕ → ℕ
without_year e = cond (has_year e) (e - 4) e

abbrev pub with_letter : ℕ → ℕ → Format
with_letter l e = record { letter = l; expression = e }

-- the expression of a format's edition that carries everything
abbrev pub full_of : Format → Format
full_of f = with_letter f.letter (cond (carries_year f) 4 0)

-- the row of a format's edition says what document 01's table and layout say of it, and its runs what each expression carries
pub record RowFor (f : Format) (r : Row) : Type 0 where
  pub elements_are : size f ≡ r.elements
  pub interval_is : interval f ≡ r.interval
  pub expressions_are : known f ≡ (leb r.first f.expression && leb f.expression r.last)
  pub leap_is : carries_leap f ≡ r.leap
  pub year_is : carries_year f ≡ r.year
  pub widths_are : (e : ℕ) → run_widths (bit_and r.runs (runs_in e)) ≡ carried_in e (widths_of (full_of f))
  pub digits_are : r.digits ≡ digit_starts
  pub controls_are : r.controls ≡ control_starts
  pub years_are : r.years ≡ year_starts
  pub marks_are : r.marks ≡ mark_places

-- the row of a format
pub record RowOf (f : Format) (r : Row) : Type 0 where
  pub elements_are : r.elements ≡ size f
  pub interval_is : r.interval ≡ interval f
  pub known_is : (leb r.first f.expression && leb f.expression r.last) ≡ known f
  pub leap_is : r.leap ≡ carries_leap f
  pub year_is : r.year ≡ carries_year f
  pub widths_are : run_widths r.runs ≡ widths_of f
  pub digits_are : r.digits ≡ digit_starts
  pub controls_are : r.controls ≡ control_starts
  pub years_are : r.years ≡ year_starts
  pub marks_are : r.marks ≡ mark_places

-- the row of some format
abbrev pub IsRow : Row → Type 0
IsRow r = (f : Format) × RowOf f r
