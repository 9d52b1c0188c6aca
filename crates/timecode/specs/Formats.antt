-- Document 01, "Elements and formats": the formats, their table, and the times that lie on them.
-- Document 02, "Leap second": a second may be added to a day or taken from it; A, B and G carry that.
-- Document 02, "XR3 tapes": letter X has frames of one second, without a day.
-- Document 02, "The year on the wire": A and B carry the year in expressions 4 to 7.
use Rattle.std.specs.Prelude.{◌≡◌, Bool, true, false, cond, ◌&&◌, ◌||◌, List, [], ◌∷◌, ℕ, ◌%◌, ◌<◌, ◌≤◌, leb, ltb, eqb}
use Rattle.timecode.specs.declared.Format.{Format}
use Rattle.timecode.specs.declared.Time.{Time}

-- is k one of these
abbrev pub member : ℕ → List ℕ → Bool
member k [] = false
member k (x ∷ xs) = eqb k x || member k xs

-- A symbol is 0 (zero or index marker), 1 (one), 2 (mark: position identifier or reference bit) or 3 (spoiled).
abbrev pub is_symbol : ℕ → Bool
is_symbol s = leb s 3

-- the rate letters in ASCII
abbrev pub A : ℕ
A = 65

abbrev pub B : ℕ
B = 66

abbrev pub D : ℕ
D = 68

abbrev pub E : ℕ
E = 69

abbrev pub G : ℕ
G = 71

abbrev pub H : ℕ
H = 72

abbrev pub X : ℕ
X = 88

-- A line of the table: the letter, the expressions that it takes, n, S, and where each nine control bits begin in an expression without the year.
pub record Row : Type 0 where
  pub letter : ℕ
  pub expressions : List ℕ
  pub elements : ℕ
  pub interval : ℕ
  pub control : List ℕ

unfoldable pub table : List Row
table =
    record { letter = A; expressions = 0 ∷ 1 ∷ 2 ∷ 3 ∷ 4 ∷ 5 ∷ 6 ∷ 7 ∷ []; elements = 100; interval = 10; control = 50 ∷ 60 ∷ 70 ∷ [] }
    ∷ record { letter = B; expressions = 0 ∷ 1 ∷ 2 ∷ 3 ∷ 4 ∷ 5 ∷ 6 ∷ 7 ∷ []; elements = 100; interval = 100; control = 50 ∷ 60 ∷ 70 ∷ [] }
    ∷ record { letter = D; expressions = 1 ∷ 2 ∷ []; elements = 60; interval = 360000; control = 50 ∷ [] }
    ∷ record { letter = E; expressions = 1 ∷ 2 ∷ []; elements = 100; interval = 1000; control = 50 ∷ 60 ∷ 70 ∷ 80 ∷ 90 ∷ [] }
    ∷ record { letter = G; expressions = 1 ∷ 2 ∷ []; elements = 100; interval = 1; control = 60 ∷ 70 ∷ 80 ∷ 90 ∷ [] }
    ∷ record { letter = H; expressions = 1 ∷ 2 ∷ []; elements = 60; interval = 6000; control = 50 ∷ [] }
    ∷ record { letter = X; expressions = 2 ∷ []; elements = 25; interval = 100; control = [] }
    ∷ []

-- Any other letter takes no expression, so every call refuses it before it asks for the rest.
abbrev pub no_row : Row
no_row = record { letter = 0; expressions = []; elements = 100; interval = 1; control = [] }

unfoldable pub look_up : ℕ → List Row → Row
look_up l [] = no_row
look_up l (r ∷ rs) = cond (eqb r.letter l) r (look_up l rs)

unfoldable pub row_of : Format → Row
row_of f = look_up f.letter table

-- letter X, the XR3 code: its time has day 1 always
unfoldable pub is_x : Format → Bool
is_x f = eqb f.letter X

-- number 1: the letter and the expression are ones of the table
unfoldable pub known : Format → Bool
known f = member f.expression (row_of f).expressions

-- n, the elements in a frame
unfoldable pub size : Format → ℕ
size f = (row_of f).elements

-- S, the frame interval in hundredths
unfoldable pub interval : Format → ℕ
interval f = (row_of f).interval

-- 0 = BCD, CF, SBS; 1 = BCD, CF; 2 = BCD; 3 = BCD, SBS; 4 to 7 are 0 to 3 with the year
unfoldable pub carries_control : Format → Bool
carries_control f = member f.expression (0 ∷ 1 ∷ 4 ∷ 5 ∷ [])

unfoldable pub carries_seconds : Format → Bool
carries_seconds f = member f.expression (0 ∷ 3 ∷ 4 ∷ 7 ∷ [])

unfoldable pub carries_year : Format → Bool
carries_year f = member f.expression (4 ∷ 5 ∷ 6 ∷ 7 ∷ []) && member f.letter (A ∷ B ∷ [])

-- where each nine control bits begin: with the year they are left at 60-68 and 70-78
unfoldable pub control_places : Format → List ℕ
control_places f = cond (carries_year f) (60 ∷ 70 ∷ []) (row_of f).control

-- A time is a year, a day (1 to 366) and c, hundredths of a second since midnight (0 to 8,640,099: a day may have a second added).
abbrev pub last_day : ℕ
last_day = 366

abbrev pub last_hundredth : ℕ
last_hundredth = 8640099

-- a usual day has 86,400 seconds; the added second begins there
abbrev pub day_length : ℕ
day_length = 8640000

-- Years mean 2000 to 2099, and every fourth from 2000 has 366 days.
abbrev pub last_year : ℕ
last_year = 99

unfoldable pub days_in : ℕ → ℕ
days_in year = cond (eqb (year % 4) 0) 366 365

-- number 17: the year is at most 99, and 0 in a format without one
unfoldable pub year_carried : Format → ℕ → Bool
year_carried f year = cond (carries_year f) (leb year last_year) (eqb year 0)

-- the last day of a year: where the format carries the year, that year's own; in X day 1
unfoldable pub last_day_in : Format → ℕ → ℕ
last_day_in f year = cond (is_x f) 1 (cond (carries_year f) (days_in year) last_day)

-- day and c are in range, the day up to that last one
unfoldable pub in_range : ℕ → Time → Bool
in_range last t = leb 1 t.day && (leb t.day last && leb t.hundredths last_hundredth)

-- number 2: day and c are in range, and S divides c
unfoldable pub on_format : Format → Time → Bool
on_format f t = in_range (last_day_in f t.year) t && eqb (t.hundredths % interval f) 0

-- A, B and G carry an added or taken second; D, E, H and X do not.
unfoldable pub carries_leap : Format → Bool
carries_leap f = member f.letter (A ∷ B ∷ G ∷ [])

-- number 14: the time is not in the added second, or the format carries it
unfoldable pub second_carried : Format → Time → Bool
second_carried f t = cond (carries_leap f) true (ltb t.hundredths day_length)

-- a time that passes numbers 17, 2 and 14, part by part; the year's last day is at most 366
pub record OnFormat (f : Format) (t : Time) : Type 0 where
  pub year_is : year_carried f t.year ≡ true
  pub first : 1 ≤ t.day
  pub within_year : t.day ≤ last_day_in f t.year
  pub last : t.day ≤ last_day
  pub below : t.hundredths ≤ last_hundredth
  pub grid : t.hundredths % interval f ≡ 0
  pub carried : carries_leap f ≡ false → t.hundredths < day_length
