-- Document 01's starred rows, and rows for what no theorem fixes: the table, the places, the ends of ranges, the numbers and their order. What each call says; one theorem holds of all.
use Rattle.timecode.specs.declared.Refusal.{Refusal}
use Rattle.std.specs.Prelude.{cond, List, [], ◌∷◌, ◌++◌, map, ℕ, zero, suc, eqb, ℤ, pos, negsuc, length, drop, set, replicate, Result, Ok, Err}
use Rattle.timecode.specs.Answers.{Outcome, refusal_result, written_result, reading_result, stepped_result, subtracted_result, classified_result, scanned_result, answer_result}
use Rattle.timecode.specs.Calls.{five_percent, classify_of, classify_list_of, symbols_left, deviations_left, difference_of, scan_of}
use Rattle.timecode.specs.Editions.{forward_of, forward_leaves, backward_of, backward_leaves}
use Rattle.timecode.specs.Formats.{A, B, D, E, G, H, X, size}
use Rattle.timecode.specs.Frames.{new_year, usual, second_added, second_taken, step_of, step_back_of, written, write_of, write_leaves, read_of}
use Rattle.timecode.specs.Stream.{two_frames, plain_answer}
use Rattle.timecode.specs.declared.Format.{Format}
use Rattle.timecode.specs.declared.Time.{Time}
use Rattle.timecode.specs.declared.WidthSettings.{WidthSettings}

-- a call: Step; the step back; Write into a frame of n zeros (or of k), by its answer, by the bytes that it leaves, or by the indices from k on where it leaves a one; the formats that Write takes; Read; the answer to the last of a list of symbols; Difference; the classifier; the classifier over lists into so many zeros and so many deviations of 0, by its answer, or by the symbols and then the deviations that it leaves; Scan; the converters into k zeros, by the bytes that they leave
pub data Call : Type 0 where
  step : Format → Time → ℕ → ℕ → Call
  back : Format → Time → ℕ → ℕ → Call
  write : Format → Time → ℕ → Call
  write_into : ℕ → Format → Time → ℕ → Call
  frame : Format → Time → ℕ → Call
  ones : ℕ → Format → Time → ℕ → Call
  formats : Call
  read : Format → List ℕ → Call
  feed : Format → List ℕ → Call
  difference : Time → Time → Call
  classify : WidthSettings → ℕ → ℕ → ℕ → Call
  list : WidthSettings → ℕ → List ℕ → List ℕ → ℕ → ℕ → Call
  pulses : WidthSettings → ℕ → List ℕ → List ℕ → Call
  scan : Format → List ℕ → ℕ → Call
  forward : ℕ → Format → List ℕ → ℕ → Call
  backward : ℕ → Format → List ℕ → Call

abbrev ones_from : ℕ → List ℕ → List ℤ
ones_from i [] = []
ones_from i (s ∷ ss) = cond (eqb s 1) (pos i ∷ ones_from (suc i) ss) (ones_from (suc i) ss)

abbrev lent : Format → List ℕ
lent f = replicate (size f) 0

abbrev format : ℕ → ℕ → Format
format letter expression = record { letter = letter; expression = expression }

-- the expressions below 9, from e on, with which Write takes the letter at day 1, c 0, each after the letter
abbrev expressions_from : ℕ → ℕ → ℕ → List ℤ
expressions_from letter zero e = []
expressions_from letter (suc k) e =
    cond (eqb (written_result (write_of (format letter e) (new_year 0) 0 (lent (format letter e)))).number 0)
    (pos letter ∷ (pos e ∷ expressions_from letter k (suc e)))
    (expressions_from letter k (suc e))

-- the same for k letters, from that one on
abbrev formats_from : ℕ → ℕ → List ℤ
formats_from letter zero = []
formats_from letter (suc k) = expressions_from letter 9 0 ++ formats_from (suc letter) k

-- the bytes that a call leaves, or its refusal
abbrev left_result : Result Unit Refusal → List ℕ → Outcome
left_result (Ok u) bytes = record { number = 0; values = map pos bytes }
left_result (Err r) bytes = refusal_result r

abbrev pub result_of : Call → Outcome
result_of (step f t year kind) = stepped_result (step_of f t year kind)
result_of (back f t year kind) = stepped_result (step_back_of f t year kind)
result_of (write f t w) = written_result (write_of f t w (lent f))
result_of (write_into k f t w) = written_result (write_of f t w (replicate k 0))
result_of (frame f t w) = record { number = 0; values = map pos (write_leaves f t w (lent f)) }
result_of (ones k f t w) = record { number = 0; values = ones_from k (drop k (write_leaves f t w (lent f))) }
result_of formats = record { number = 0; values = formats_from 64 27 }
result_of (read f bytes) = reading_result (read_of f bytes)
result_of (feed f received) = answer_result (plain_answer f two_frames received)
result_of (difference t u) = subtracted_result (difference_of t u)
result_of (classify s T width period) = classified_result (classify_of s T width period)
result_of (list s T widths periods k m) = written_result (classify_list_of s T widths periods (replicate k 0) (replicate m (pos 0)))
result_of (pulses s T widths periods) = record { number = 0; values = map pos (symbols_left s T widths periods (replicate (length widths) 0) (replicate (length widths) (pos 0))) ++ deviations_left s T widths periods (replicate (length widths) 0) (replicate (length widths) (pos 0)) }
result_of (scan f recording start) = scanned_result (scan_of f recording start)
result_of (forward k f bytes year) = left_result (forward_of f bytes year (replicate k 0)) (forward_leaves f bytes year (replicate k 0))
result_of (backward k f bytes) = left_result (backward_of f bytes (replicate k 0)) (backward_leaves f bytes (replicate k 0))

pub record Line : Type 0 where
  pub call : Call
  pub result : Outcome

-- the call gives numbers, or is refused with one
abbrev ◌gives◌ : Call → List ℤ → Line
c gives vs = record { call = c; result = record { number = 0; values = vs } }

abbrev ◌refused◌ : Call → ℕ → Line
c refused k = record { call = c; result = record { number = k; values = [] } }

-- with 5 and 6 goes the index
abbrev ◌refused◌at◌ : Call → ℕ → ℕ → Line
c refused k at i = record { call = c; result = record { number = k; values = pos i ∷ [] } }

abbrev time : ℕ → ℕ → Time
time day hundredths = record { year = 0; day = day; hundredths = hundredths }

abbrev dated : ℕ → ℕ → ℕ → Time
dated year day hundredths = record { year = year; day = day; hundredths = hundredths }

abbrev settings : ℕ → ℕ → ℕ → WidthSettings
settings z o m = record { zeros = z; ones = o; marks = m }

abbrev indices : List ℕ → List ℤ
indices is = map pos is

infix 5 ◌gives◌
infix 5 ◌refused◌
infix 5 ◌refused◌at◌
unfoldable pub lines : List Line
lines =
    -- H1, day 191, c 5,088,000: the first frame of the listing
    (frame (format H 1) (time 191 5088000) 0 gives indices (2 ∷ 0 ∷ 0 ∷ 0 ∷ 0 ∷ 0 ∷ 0 ∷ 0 ∷ 0 ∷ 2 ∷ 0 ∷ 0 ∷ 0 ∷ 1 ∷ 0 ∷ 0 ∷ 0 ∷ 0 ∷ 0 ∷ 2 ∷ 0 ∷ 0 ∷ 1 ∷ 0 ∷ 0 ∷ 1 ∷ 0 ∷ 0 ∷ 0 ∷ 2 ∷ 1 ∷ 0 ∷ 0 ∷ 0 ∷ 0 ∷ 1 ∷ 0 ∷ 0 ∷ 1 ∷ 2 ∷ 1 ∷ 0 ∷ 0 ∷ 0 ∷ 0 ∷ 0 ∷ 0 ∷ 0 ∷ 0 ∷ 2 ∷ 0 ∷ 0 ∷ 0 ∷ 0 ∷ 0 ∷ 0 ∷ 0 ∷ 0 ∷ 0 ∷ 2 ∷ []))
    -- B0 at 14:08:32: SBS 50,912
    ∷ (ones 80 (format B 0) (time 191 5091200) 0 gives indices (85 ∷ 86 ∷ 87 ∷ 90 ∷ 91 ∷ 95 ∷ 96 ∷ []))
    -- the end of the year
    ∷ (step (format B 0) (time 365 8639900) 365 usual gives indices (0 ∷ 1 ∷ 0 ∷ []))
    ∷ (step (format B 0) (time 365 8639900) 366 usual gives indices (0 ∷ 366 ∷ 0 ∷ []))
    -- control words
    ∷ (ones 50 (format H 1) (time 191 5088000) 511 gives indices (50 ∷ 51 ∷ 52 ∷ 53 ∷ 54 ∷ 55 ∷ 56 ∷ 57 ∷ 58 ∷ []))
    ∷ (write (format H 1) (time 191 5088000) 512 refused 9)
    -- formats and days
    ∷ (write (format D 0) (time 191 0) 0 refused 1)
    ∷ (write (format B 0) (time 366 0) 0 gives [])
    ∷ (write (format B 0) (time 367 0) 0 refused 2)
    -- Difference
    ∷ (difference (time 2 0) (time 1 8639999) gives (pos 1 ∷ []))
    ∷ (difference (time 1 8639999) (time 2 0) gives (negsuc 0 ∷ []))
    ∷ (difference (time 2 0) (time 2 0) gives (pos 0 ∷ []))
    -- the classifier
    ∷ (classify five_percent 1000 150 1000 gives (pos 0 ∷ negsuc 4999 ∷ []))
    ∷ (classify five_percent 1000 250 1000 gives (pos 0 ∷ pos 5000 ∷ []))
    ∷ (classify five_percent 1000 149 1000 gives (pos 3 ∷ pos 0 ∷ []))
    ∷ (classify five_percent 1000 251 1000 gives (pos 3 ∷ pos 0 ∷ []))
    -- which letters, in ASCII, take which expressions
    ∷ (formats gives indices (65 ∷ 0 ∷ 65 ∷ 1 ∷ 65 ∷ 2 ∷ 65 ∷ 3 ∷ 65 ∷ 4 ∷ 65 ∷ 5 ∷ 65 ∷ 6 ∷ 65 ∷ 7 ∷ 66 ∷ 0 ∷ 66 ∷ 1 ∷ 66 ∷ 2 ∷ 66 ∷ 3 ∷ 66 ∷ 4 ∷ 66 ∷ 5 ∷ 66 ∷ 6 ∷ 66 ∷ 7 ∷ 68 ∷ 1 ∷ 68 ∷ 2 ∷ 69 ∷ 1 ∷ 69 ∷ 2 ∷ 71 ∷ 1 ∷ 71 ∷ 2 ∷ 72 ∷ 1 ∷ 72 ∷ 2 ∷ 88 ∷ 2 ∷ []))
    -- expression 3 carries no control bits, expression 1 no SBS
    ∷ (write (format A 3) (time 1 0) 1 refused 9)
    ∷ (ones 80 (format B 1) (time 191 5091200) 0 gives [])
    -- a whole frame of 100: day 246, 02:52:37.4, every second control bit
    ∷ (frame (format A 0) (time 246 1035740) 89478485 gives indices (2 ∷ 1 ∷ 1 ∷ 1 ∷ 0 ∷ 0 ∷ 1 ∷ 1 ∷ 0 ∷ 2 ∷ 0 ∷ 1 ∷ 0 ∷ 0 ∷ 0 ∷ 1 ∷ 0 ∷ 1 ∷ 0 ∷ 2 ∷ 0 ∷ 1 ∷ 0 ∷ 0 ∷ 0 ∷ 0 ∷ 0 ∷ 0 ∷ 0 ∷ 2 ∷ 0 ∷ 1 ∷ 1 ∷ 0 ∷ 0 ∷ 0 ∷ 0 ∷ 1 ∷ 0 ∷ 2 ∷ 0 ∷ 1 ∷ 0 ∷ 0 ∷ 0 ∷ 0 ∷ 0 ∷ 1 ∷ 0 ∷ 2 ∷ 1 ∷ 0 ∷ 1 ∷ 0 ∷ 1 ∷ 0 ∷ 1 ∷ 0 ∷ 1 ∷ 2 ∷ 0 ∷ 1 ∷ 0 ∷ 1 ∷ 0 ∷ 1 ∷ 0 ∷ 1 ∷ 0 ∷ 2 ∷ 1 ∷ 0 ∷ 1 ∷ 0 ∷ 1 ∷ 0 ∷ 1 ∷ 0 ∷ 1 ∷ 2 ∷ 1 ∷ 0 ∷ 1 ∷ 0 ∷ 1 ∷ 1 ∷ 1 ∷ 0 ∷ 0 ∷ 2 ∷ 0 ∷ 0 ∷ 1 ∷ 0 ∷ 1 ∷ 0 ∷ 0 ∷ 0 ∷ 0 ∷ 2 ∷ []))
    -- the last frame of day 365, every control bit a one
    ∷ (ones 0 (format B 0) (time 365 8639900) 134217727 gives indices (1 ∷ 4 ∷ 6 ∷ 8 ∷ 10 ∷ 13 ∷ 15 ∷ 17 ∷ 20 ∷ 21 ∷ 26 ∷ 30 ∷ 32 ∷ 36 ∷ 37 ∷ 40 ∷ 41 ∷ 50 ∷ 51 ∷ 52 ∷ 53 ∷ 54 ∷ 55 ∷ 56 ∷ 57 ∷ 58 ∷ 60 ∷ 61 ∷ 62 ∷ 63 ∷ 64 ∷ 65 ∷ 66 ∷ 67 ∷ 68 ∷ 70 ∷ 71 ∷ 72 ∷ 73 ∷ 74 ∷ 75 ∷ 76 ∷ 77 ∷ 78 ∷ 80 ∷ 81 ∷ 82 ∷ 83 ∷ 84 ∷ 85 ∷ 86 ∷ 88 ∷ 93 ∷ 95 ∷ 97 ∷ []))
    ∷ (ones 0 (format D 1) (time 365 8280000) 511 gives indices (20 ∷ 21 ∷ 26 ∷ 30 ∷ 32 ∷ 36 ∷ 37 ∷ 40 ∷ 41 ∷ 50 ∷ 51 ∷ 52 ∷ 53 ∷ 54 ∷ 55 ∷ 56 ∷ 57 ∷ 58 ∷ []))
    ∷ (ones 0 (format E 1) (time 365 8639000) 35184372088831 gives indices (6 ∷ 8 ∷ 10 ∷ 13 ∷ 15 ∷ 17 ∷ 20 ∷ 21 ∷ 26 ∷ 30 ∷ 32 ∷ 36 ∷ 37 ∷ 40 ∷ 41 ∷ 50 ∷ 51 ∷ 52 ∷ 53 ∷ 54 ∷ 55 ∷ 56 ∷ 57 ∷ 58 ∷ 60 ∷ 61 ∷ 62 ∷ 63 ∷ 64 ∷ 65 ∷ 66 ∷ 67 ∷ 68 ∷ 70 ∷ 71 ∷ 72 ∷ 73 ∷ 74 ∷ 75 ∷ 76 ∷ 77 ∷ 78 ∷ 80 ∷ 81 ∷ 82 ∷ 83 ∷ 84 ∷ 85 ∷ 86 ∷ 87 ∷ 88 ∷ 90 ∷ 91 ∷ 92 ∷ 93 ∷ 94 ∷ 95 ∷ 96 ∷ 97 ∷ 98 ∷ []))
    ∷ (ones 0 (format G 1) (time 365 8639999) 68719476735 gives indices (1 ∷ 4 ∷ 6 ∷ 8 ∷ 10 ∷ 13 ∷ 15 ∷ 17 ∷ 20 ∷ 21 ∷ 26 ∷ 30 ∷ 32 ∷ 36 ∷ 37 ∷ 40 ∷ 41 ∷ 45 ∷ 48 ∷ 50 ∷ 53 ∷ 60 ∷ 61 ∷ 62 ∷ 63 ∷ 64 ∷ 65 ∷ 66 ∷ 67 ∷ 68 ∷ 70 ∷ 71 ∷ 72 ∷ 73 ∷ 74 ∷ 75 ∷ 76 ∷ 77 ∷ 78 ∷ 80 ∷ 81 ∷ 82 ∷ 83 ∷ 84 ∷ 85 ∷ 86 ∷ 87 ∷ 88 ∷ 90 ∷ 91 ∷ 92 ∷ 93 ∷ 94 ∷ 95 ∷ 96 ∷ 97 ∷ 98 ∷ []))
    -- with these two every place of a digit has a one: 17:27:27.77 and 08:58:58.88
    ∷ (ones 0 (format G 1) (time 177 6284777) 0 gives indices (1 ∷ 2 ∷ 3 ∷ 7 ∷ 10 ∷ 11 ∷ 12 ∷ 16 ∷ 20 ∷ 21 ∷ 22 ∷ 25 ∷ 30 ∷ 31 ∷ 32 ∷ 35 ∷ 36 ∷ 37 ∷ 40 ∷ 45 ∷ 46 ∷ 47 ∷ 50 ∷ 51 ∷ 52 ∷ []))
    ∷ (ones 0 (format G 1) (time 288 3233888) 0 gives indices (4 ∷ 6 ∷ 8 ∷ 13 ∷ 15 ∷ 17 ∷ 23 ∷ 33 ∷ 38 ∷ 41 ∷ 48 ∷ 53 ∷ []))
    -- control bit 3 of E, by rising index
    ∷ (ones 50 (format E 1) (time 1 0) 4 gives indices (52 ∷ []))
    -- the ends of the classes and of the period, and of T
    ∷ (pulses five_percent 10000000 (1499999 ∷ 1500000 ∷ 2500000 ∷ 2500001 ∷ 4499999 ∷ 4500000 ∷ 5500000 ∷ 5500001 ∷ 7499999 ∷ 7500000 ∷ 8500000 ∷ 8500001 ∷ 2000000 ∷ 2000000 ∷ 2000000 ∷ 2000000 ∷ []) (10000000 ∷ 10000000 ∷ 10000000 ∷ 10000000 ∷ 10000000 ∷ 10000000 ∷ 10000000 ∷ 10000000 ∷ 10000000 ∷ 10000000 ∷ 10000000 ∷ 10000000 ∷ 9499999 ∷ 9500000 ∷ 10500000 ∷ 10500001 ∷ []) gives indices (3 ∷ 0 ∷ 0 ∷ 3 ∷ 3 ∷ 1 ∷ 1 ∷ 3 ∷ 3 ∷ 2 ∷ 2 ∷ 3 ∷ 3 ∷ 0 ∷ 0 ∷ 3 ∷ []) ++ (pos 0 ∷ negsuc 49999999 ∷ pos 50000000 ∷ pos 0 ∷ pos 0 ∷ negsuc 49999999 ∷ pos 50000000 ∷ pos 0 ∷ pos 0 ∷ negsuc 49999999 ∷ pos 50000000 ∷ pos 0 ∷ pos 0 ∷ pos 0 ∷ pos 0 ∷ pos 0 ∷ []))
    -- those of the widest settings and of the narrowest, and a setting for each symbol
    ∷ (pulses (settings 14 14 14) 1000 (59 ∷ 60 ∷ 340 ∷ 341 ∷ 359 ∷ 360 ∷ 640 ∷ 641 ∷ 659 ∷ 660 ∷ 940 ∷ 941 ∷ []) (replicate 12 1000) gives indices (3 ∷ 0 ∷ 0 ∷ 3 ∷ 3 ∷ 1 ∷ 1 ∷ 3 ∷ 3 ∷ 2 ∷ 2 ∷ 3 ∷ []) ++ (pos 0 ∷ negsuc 13999 ∷ pos 14000 ∷ pos 0 ∷ pos 0 ∷ negsuc 13999 ∷ pos 14000 ∷ pos 0 ∷ pos 0 ∷ negsuc 13999 ∷ pos 14000 ∷ pos 0 ∷ []))
    ∷ (pulses (settings 1 1 1) 1000 (189 ∷ 190 ∷ 210 ∷ 211 ∷ 489 ∷ 490 ∷ 510 ∷ 511 ∷ 789 ∷ 790 ∷ 810 ∷ 811 ∷ []) (replicate 12 1000) gives indices (3 ∷ 0 ∷ 0 ∷ 3 ∷ 3 ∷ 1 ∷ 1 ∷ 3 ∷ 3 ∷ 2 ∷ 2 ∷ 3 ∷ []) ++ (pos 0 ∷ negsuc 999 ∷ pos 1000 ∷ pos 0 ∷ pos 0 ∷ negsuc 999 ∷ pos 1000 ∷ pos 0 ∷ pos 0 ∷ negsuc 999 ∷ pos 1000 ∷ pos 0 ∷ []))
    ∷ (pulses (settings 2 9 4) 1000 (180 ∷ 179 ∷ 410 ∷ 409 ∷ 760 ∷ 759 ∷ []) (replicate 6 1000) gives indices (0 ∷ 3 ∷ 1 ∷ 3 ∷ 2 ∷ 3 ∷ []) ++ (negsuc 1999 ∷ pos 0 ∷ negsuc 8999 ∷ pos 0 ∷ negsuc 3999 ∷ pos 0 ∷ []))
    ∷ (classify (settings 14 14 14) 10000000 9400000 10000000 gives (pos 2 ∷ pos 140000000 ∷ []))
    -- the classifier asks 10, then 16, over lists then 3
    ∷ (classify five_percent 10000001 2000000 10000000 refused 10)
    ∷ (classify (settings 0 5 5) 99 20 99 refused 10)
    ∷ (classify (settings 0 5 5) 100 20 100 refused 16)
    ∷ (classify (settings 5 0 5) 100 20 100 refused 16)
    ∷ (classify (settings 5 15 5) 100 20 100 refused 16)
    ∷ (classify (settings 5 5 255) 100 20 100 refused 16)
    ∷ (list (settings 15 5 5) 99 (20 ∷ []) [] 1 1 refused 10)
    ∷ (list (settings 5 5 0) 100 (20 ∷ []) [] 1 1 refused 16)
    ∷ (list five_percent 100 [] (100 ∷ []) 1 1 refused 3)
    ∷ (list five_percent 100 (20 ∷ []) [] 1 1 refused 3)
    ∷ (list five_percent 100 (20 ∷ []) (100 ∷ []) 2 1 refused 3)
    ∷ (list five_percent 100 (20 ∷ []) (100 ∷ []) 1 0 refused 3)
    -- Difference asks both times
    ∷ (difference (time 1 0) (time 0 0) refused 2)
    -- the listing's two frames behind a mark: the second is reported
    ∷ (feed (format H 1) (2 ∷ (written (format H 1) (time 191 5088000) 0 ++ written (format H 1) (time 191 5094000) 9)) gives indices (0 ∷ 191 ∷ 5094000 ∷ 9 ∷ []))
    -- Write asks 1, 17, 2, 14, 9, 3
    ∷ (write (format D 0) (time 0 0) 512 refused 1)
    ∷ (write (format D 0) (dated 1 0 0) 512 refused 1)
    ∷ (write (format B 3) (dated 1 367 0) 1 refused 17)
    ∷ (write (format B 4) (dated 100 366 0) 262144 refused 17)
    ∷ (write (format B 4) (dated 1 366 0) 262144 refused 2)
    ∷ (write (format E 1) (time 181 8640010) 0 refused 2)
    ∷ (write (format H 1) (time 181 8640000) 512 refused 14)
    ∷ (write_into 59 (format H 1) (time 181 0) 512 refused 9)
    ∷ (write_into 59 (format H 1) (time 181 0) 511 refused 3)
    -- Step asks 1, 17, 2, 14, 11, 15
    ∷ (step (format B 8) (time 0 8640000) 364 3 refused 1)
    ∷ (step (format B 0) (dated 1 367 0) 364 3 refused 17)
    ∷ (step (format B 4) (dated 100 366 0) 364 3 refused 17)
    ∷ (step (format B 4) (dated 23 366 0) 366 3 refused 2)
    ∷ (step (format B 4) (dated 24 366 0) 364 3 refused 15)
    ∷ (step (format E 1) (time 0 8640000) 364 3 refused 2)
    ∷ (step (format H 1) (time 181 8640000) 364 3 refused 14)
    ∷ (step (format B 0) (time 181 8640000) 364 3 refused 11)
    ∷ (step (format D 2) (time 366 8280000) 365 3 refused 11)
    ∷ (step (format E 1) (time 181 0) 365 3 refused 15)
    ∷ (step (format B 0) (time 181 8640000) 365 usual refused 15)
    -- Read asks 1, 3, 4, then the lowest index with 5 or 6, then 7, 8
    ∷ (read (format D 0) (replicate 59 7) refused 1)
    ∷ (read (format B 0) (replicate 99 7) refused 3)
    ∷ (read (format B 0) (set (set (written (format B 0) (time 1 0) 0) 0 1) 99 4) refused 4)
    ∷ (read (format B 0) (set (written (format B 0) (time 1 0) 0) 0 1) refused 5 at 0)
    ∷ (read (format B 0) (set (written (format B 0) (time 1 0) 0) 5 2) refused 5 at 5)
    ∷ (read (format B 0) (set (set (written (format B 0) (time 367 0) 0) 5 1) 9 0) refused 6 at 5)
    ∷ (read (format B 0) (set (written (format B 0) (time 1 0) 0) 6 3) refused 6 at 6)
    ∷ (read (format B 0) (set (written (format B 0) (time 367 100) 0) 80 0) refused 7)
    ∷ (read (format B 0) (set (written (format B 0) (time 1 100) 0) 80 0) refused 8)
    -- Scan asks 1, 12
    ∷ (scan (format B 8) (replicate 4 2) 5 refused 1)
    ∷ (scan (format B 0) (replicate 4 2) 5 refused 12)
    -- what Read and Scan give: one mark and one frame are enough for Scan
    ∷ (read (format B 0) (written (format B 0) (time 181 8640000) 5) gives indices (0 ∷ 181 ∷ 8640000 ∷ 5 ∷ []))
    ∷ (scan (format H 1) (3 ∷ 2 ∷ written (format H 1) (time 191 5088000) 7) 0 gives indices (2 ∷ 0 ∷ 191 ∷ 5088000 ∷ 7 ∷ []))
    -- a day with a second added, a day with one taken, the end of a year of 366 days
    ∷ (step (format B 0) (time 181 8639900) 365 second_added gives indices (0 ∷ 181 ∷ 8640000 ∷ []))
    ∷ (step (format A 0) (time 181 8639990) 365 second_added gives indices (0 ∷ 181 ∷ 8640000 ∷ []))
    ∷ (step (format G 1) (time 181 8640099) 365 second_added gives indices (0 ∷ 182 ∷ 0 ∷ []))
    ∷ (step (format B 0) (time 181 8639800) 365 second_taken gives indices (0 ∷ 182 ∷ 0 ∷ []))
    ∷ (step (format D 2) (time 366 8280000) 366 usual gives indices (0 ∷ 1 ∷ 0 ∷ []))
    -- the last hundredth of a day with a second added; Difference counts 8,640,000 a day as before
    ∷ (write (format G 1) (time 181 8640100) 0 refused 2)
    ∷ (difference (time 1 8640099) (time 2 0) gives (pos 99 ∷ []))
    -- the year: with these every place of its digits and of the 18 control bits has a one; expressions 6 and 7 carry no control bits
    ∷ (ones 50 (format A 4) (dated 99 1 0) 262143 gives indices (50 ∷ 53 ∷ 55 ∷ 58 ∷ 60 ∷ 61 ∷ 62 ∷ 63 ∷ 64 ∷ 65 ∷ 66 ∷ 67 ∷ 68 ∷ 70 ∷ 71 ∷ 72 ∷ 73 ∷ 74 ∷ 75 ∷ 76 ∷ 77 ∷ 78 ∷ []))
    ∷ (ones 50 (format B 5) (dated 76 1 100) 513 gives indices (51 ∷ 52 ∷ 55 ∷ 56 ∷ 57 ∷ 60 ∷ 70 ∷ []))
    ∷ (ones 50 (format B 7) (dated 8 1 100) 0 gives indices (53 ∷ 80 ∷ []))
    ∷ (ones 50 (format A 6) (dated 10 1 10) 0 gives indices (55 ∷ []))
    ∷ (write (format A 6) (dated 10 1 10) 1 refused 9)
    -- every fourth year from 2000 has 366 days
    ∷ (write (format B 4) (dated 0 366 0) 0 gives [])
    ∷ (write (format B 4) (dated 2 366 0) 0 refused 2)
    ∷ (write (format B 4) (dated 4 366 0) 0 gives [])
    ∷ (write (format B 4) (dated 99 366 0) 0 refused 2)
    ∷ (step (format B 4) (dated 23 365 8639900) 366 usual gives indices (24 ∷ 1 ∷ 0 ∷ []))
    ∷ (step (format B 4) (dated 24 365 8639900) 365 usual gives indices (24 ∷ 366 ∷ 0 ∷ []))
    ∷ (step (format B 4) (dated 24 366 8639900) 9 usual gives indices (25 ∷ 1 ∷ 0 ∷ []))
    -- year 99 is followed by 0
    ∷ (step (format B 4) (dated 99 365 8639900) 7 usual gives indices (0 ∷ 1 ∷ 0 ∷ []))
    -- read with the year: day 366 in another year and a tens digit of 10 are 7, a one at the index marker 54 is 6
    ∷ (read (format B 4) (written (format B 4) (dated 96 366 8640000) 5) gives indices (96 ∷ 366 ∷ 8640000 ∷ 5 ∷ []))
    ∷ (read (format B 4) (written (format B 4) (dated 97 366 0) 0) refused 7)
    ∷ (read (format B 4) (set (set (written (format B 4) (dated 0 1 0) 0) 56 1) 58 1) refused 7)
    ∷ (read (format B 4) (set (written (format B 4) (dated 0 1 0) 0) 54 1) refused 6 at 54)
    -- X: with 17:27:48, 08:58:35 and 22:00:03 every place of a digit has a one
    ∷ (frame (format X 2) (time 1 6286800) 0 gives indices (2 ∷ 0 ∷ 1 ∷ 0 ∷ 1 ∷ 1 ∷ 1 ∷ 0 ∷ 1 ∷ 0 ∷ 0 ∷ 1 ∷ 1 ∷ 1 ∷ 1 ∷ 0 ∷ 0 ∷ 1 ∷ 0 ∷ 0 ∷ 0 ∷ 3 ∷ 3 ∷ 3 ∷ 3 ∷ []))
    ∷ (frame (format X 2) (time 1 3231500) 0 gives indices (2 ∷ 0 ∷ 0 ∷ 1 ∷ 0 ∷ 0 ∷ 0 ∷ 1 ∷ 0 ∷ 1 ∷ 1 ∷ 0 ∷ 0 ∷ 0 ∷ 0 ∷ 1 ∷ 1 ∷ 0 ∷ 1 ∷ 0 ∷ 1 ∷ 3 ∷ 3 ∷ 3 ∷ 3 ∷ []))
    ∷ (ones 0 (format X 2) (time 1 7920300) 0 gives indices (1 ∷ 5 ∷ 19 ∷ 20 ∷ []))
    -- after 23:59:59 comes 00:00:00 of day 1, whatever the length and the kind
    ∷ (step (format X 2) (time 1 8639900) 365 usual gives indices (0 ∷ 1 ∷ 0 ∷ []))
    ∷ (step (format X 2) (time 1 8639900) 366 second_added gives indices (0 ∷ 1 ∷ 0 ∷ []))
    ∷ (step (format X 2) (time 1 8639800) 366 second_taken gives indices (0 ∷ 1 ∷ 8639900 ∷ []))
    ∷ (back (format X 2) (time 1 0) 365 second_taken gives indices (0 ∷ 1 ∷ 8639900 ∷ []))
    -- X is refused by the same numbers in the same order: 1, 17, 2, 14, then 9 and 3, or 11 and 15
    ∷ (write (format X 1) (dated 1 2 50) 1 refused 1)
    ∷ (write (format X 2) (dated 1 2 50) 1 refused 17)
    ∷ (write (format X 2) (time 2 8640000) 1 refused 2)
    ∷ (write (format X 2) (time 1 8640050) 1 refused 2)
    ∷ (write (format X 2) (time 1 8640000) 1 refused 14)
    ∷ (write_into 24 (format X 2) (time 1 0) 1 refused 9)
    ∷ (write_into 24 (format X 2) (time 1 0) 0 refused 3)
    ∷ (step (format X 2) (dated 1 2 0) 364 3 refused 17)
    ∷ (step (format X 2) (time 2 0) 364 3 refused 2)
    ∷ (step (format X 2) (time 1 8640000) 364 3 refused 14)
    ∷ (step (format X 2) (time 1 0) 364 3 refused 11)
    ∷ (step (format X 2) (time 1 0) 365 3 refused 15)
    -- Read of X: a mark missing at 0 or standing at 21-24 is 5, another symbol there or a spoiled digit 6, 23:59:60 is 7
    ∷ (read (format X 2) (written (format X 2) (time 1 8639900) 0) gives indices (0 ∷ 1 ∷ 8639900 ∷ 0 ∷ []))
    ∷ (read (format X 2) (set (written (format X 2) (time 1 0) 0) 0 3) refused 5 at 0)
    ∷ (read (format X 2) (set (written (format X 2) (time 1 0) 0) 24 2) refused 5 at 24)
    ∷ (read (format X 2) (set (written (format X 2) (time 1 0) 0) 21 0) refused 6 at 21)
    ∷ (read (format X 2) (set (written (format X 2) (time 1 0) 0) 24 1) refused 6 at 24)
    ∷ (read (format X 2) (set (written (format X 2) (time 1 0) 0) 20 3) refused 6 at 20)
    ∷ (read (format X 2) (2 ∷ 1 ∷ 0 ∷ 0 ∷ 0 ∷ 1 ∷ 1 ∷ 1 ∷ 0 ∷ 1 ∷ 1 ∷ 0 ∷ 0 ∷ 1 ∷ 1 ∷ 1 ∷ 0 ∷ 0 ∷ 0 ∷ 0 ∷ 0 ∷ 3 ∷ 3 ∷ 3 ∷ 3 ∷ []) refused 7)
    ∷ (read (format X 2) (set (set (written (format X 2) (time 1 0) 0) 3 1) 5 1) refused 7)
    -- X needs no mark before its frames: the second of two is reported, and Scan finds one at 0
    ∷ (feed (format X 2) (written (format X 2) (time 1 8639900) 0 ++ written (format X 2) (time 1 0) 0) gives indices (0 ∷ 1 ∷ 0 ∷ 0 ∷ []))
    ∷ (scan (format X 2) (written (format X 2) (time 1 100) 0) 0 gives indices (0 ∷ 0 ∷ 1 ∷ 100 ∷ 0 ∷ []))
    ∷ (scan (format X 2) (0 ∷ (written (format X 2) (time 1 100) 0)) 1 gives indices (1 ∷ 0 ∷ 1 ∷ 100 ∷ 0 ∷ []))
    -- X has no converter
    ∷ (forward 25 (format X 2) (written (format X 2) (time 1 0) 0) 0 refused 1)
    ∷ (backward 25 (format X 2) (written (format X 2) (time 1 0) 0) refused 1)
    -- Difference passes over the years
    ∷ (difference (dated 99 2 0) (dated 200 1 8639999) gives (pos 1 ∷ []))
    -- the converters, with 1,003 in the 18 later control bits
    ∷ (forward 100 (format B 0) (written (format B 0) (time 366 8639900) 513536) 24 gives map pos (written (format B 4) (dated 24 366 8639900) 1003))
    ∷ (backward 100 (format B 4) (written (format B 4) (dated 24 366 8639900) 1003) gives map pos (written (format B 0) (time 366 8639900) 513536))
    -- forward asks 1, 3 of either frame, 4, 5 and 6, 7, 8, then 17, 2, 18
    ∷ (forward 99 (format G 1) (replicate 99 7) 100 refused 1)
    ∷ (forward 99 (format B 4) (replicate 99 7) 100 refused 1)
    ∷ (forward 99 (format B 0) (replicate 100 7) 100 refused 3)
    ∷ (forward 100 (format B 0) (replicate 99 7) 100 refused 3)
    ∷ (forward 100 (format B 0) (replicate 100 7) 100 refused 4)
    ∷ (forward 100 (format B 0) (set (written (format B 0) (time 366 0) 1) 5 1) 100 refused 6 at 5)
    ∷ (forward 100 (format B 0) (written (format B 0) (time 366 0) 1) 100 refused 17)
    ∷ (forward 100 (format B 0) (written (format B 0) (time 366 0) 1) 23 refused 2)
    ∷ (forward 100 (format B 0) (written (format B 0) (time 366 0) 256) 24 refused 18)
    -- backward asks 1, 3 of either frame, then as Read
    ∷ (backward 99 (format B 0) (replicate 99 7) refused 1)
    ∷ (backward 99 (format B 4) (replicate 100 7) refused 3)
    ∷ (backward 100 (format B 4) (written (format B 4) (dated 97 366 0) 0) refused 7)
    ∷ []
