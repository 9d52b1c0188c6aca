-- Worked listings: what is printed for an input, document 01's own first. One theorem holds of all.
use Rattle.stream.specs.declared.Reader.{Reader}
use Rattle.timecode.specs.declared.Refusal.{Refusal}
use Rattle.std.specs.Prelude.{◌≡◌, refl, List, [], ◌∷◌, map, ℕ, Result, Ok, Err}
use Prim.Native.String.{String, ◌++◌}
use Rattle.timecode.specs.Answers.{refusal_number}
use Rattle.timecode.specs.Formats.{is_x, table, look_up, row_of, known, size, interval, carries_control, carries_seconds, carries_year, control_places, days_in, year_carried, last_day_in, in_range, on_format, carries_leap, second_carried}
use Rattle.timecode.specs.Frames.{length_in, in_year, day_after, turn_day, year_after, year_of_day_after, day_length_of, day_end, on_day, following, step_of, next_after, marks_agree, element_fits, check_elements, last_second, day_in, is_time, time_in, seconds_agree, read_of}
use Rattle.timecode.specs.Layout.{day_carried, seconds, minutes, hours, days, tenths, hundredths_digit, has_seconds, straight_seconds, control, years, time_fields, fields, runs, time_numbers, numbers, is_mark, filler, symbol_at, encode, value}
use Rattle.timecode.specs.Stream.{lead, opens, window_length, frame_in, next_in_row, in_row, window_answer, last_of, plain_answer, plain_feed, plain_answers}
use Rattle.lines.specs.Rows.{ascii}
use Rattle.lines.specs.Text.{digit_at, digits_of, places_in, digit_count, decimal, pair_of, clock_of, report_line, counts_line, refused_line}
use Rattle.characters.specs.ByteSymbols.{is_skipped, symbol_of_byte, feeds_of}
use Rattle.listing.specs.Printed.{is_first_line, printed_for, printed}
use Rattle.listing.specs.Promises.{made_from_head}

pub record Row : Type 0 where
  pub input : String
  pub output : String

abbrev ◌prints◌ : String → String → Row
input prints output = record { input = input; output = output }

infix 5 ◌prints◌
-- document 01's two frames after a mark
abbrev two : String
two = "H1\nP P00000000P 000100000P 001001000P 100001001P 100000000P 000000000P P00000000P 100100000P 001001000P 100001001P 100000000P 000000000P"

-- two frames of X, 00:00:00 and 00:00:01, without their last element
abbrev most : String
most = "X2\nP000000 0000000 0000000 ---- P000000 0000000 0000001 ---"

unfoldable pub rows : List Row
rows =
    -- document 01's listing: elements are counted from 1
    (two prints "121 191 14:09:00.00 000000000000\nelements 121 reports 1\n")
    -- a report with the last element, and none without it; the report stays where another character follows, and no line comes after `refused 4`
    ∷ (most ++ "-" prints "50 001 00:00:01.00 000000000000\nelements 50 reports 1\n")
    ∷ (most prints "elements 49 reports 0\n")
    ∷ (most ++ "-\nx0P" prints "50 001 00:00:01.00 000000000000\nrefused 4\n")
    -- no symbols; every symbol, and what is skipped
    ∷ ("B7\n" prints "elements 0 reports 0\n")
    ∷ ("X2\n0 1\rP\n-" prints "elements 4 reports 0\n")
    -- another character, at once; characters that no symbol has, a NUL and a tab among them
    ∷ ("H1\n2" prints "refused 4\n")
    ∷ ("H1\np" prints "refused 4\n")
    ∷ ("H1\n\0" prints "refused 4\n")
    ∷ ("H1\n\t" prints "refused 4\n")
    -- a first line that is not exactly so: none, no newline, a CR, one character more, one less
    ∷ ("" prints "refused 1\n")
    ∷ ("H1" prints "refused 1\n")
    ∷ ("H1\r\nx" prints "refused 1\n")
    ∷ ("H11\nx" prints "refused 1\n")
    ∷ ("H\n\nx" prints "refused 1\n")
    ∷ ("\nH1\nx" prints "refused 1\n")
    -- an unknown format: the character before 0, D with 0, a small letter, expression 8
    ∷ ("A/\nx" prints "refused 1\n")
    ∷ ("D0\nx" prints "refused 1\n")
    ∷ ("h1\nx" prints "refused 1\n")
    ∷ ("B8\nx" prints "refused 1\n")
    ∷ []

pub all-rows : map (λ r. printed (ascii r.input)) rows ≡ map (λ r. ascii r.output) rows
unfolding rows ascii printed printed_for is_first_line feeds_of symbol_of_byte is_skipped report_line counts_line refused_line clock_of pair_of decimal digit_count places_in digits_of digit_at plain_answers plain_feed plain_answer window_answer window_length in_row next_in_row opens frame_in last_of lead next_after step_of length_in in_year day_after turn_day year_after year_of_day_after day_length_of day_end on_day following marks_agree element_fits check_elements last_second day_in is_time time_in seconds_agree read_of is_x table look_up row_of known size interval carries_control carries_seconds carries_year control_places days_in year_carried last_day_in in_range on_format carries_leap second_carried day_carried seconds minutes hours days tenths hundredths_digit has_seconds straight_seconds control years time_fields fields runs time_numbers numbers is_mark filler symbol_at encode value
all-rows = refl

-- ---- the reader that a first line asks for: its letter, its expression and its setting, two frames; or the number of a refusal

abbrev head : Result Reader Refusal → List ℕ
head (Ok r) = r.format.letter ∷ r.format.expression ∷ r.setting ∷ []
head (Err x) = refusal_number x ∷ []

pub all-heads : map (λ s. head (made_from_head (ascii s))) ("H1\n" ∷ "B7\n" ∷ "A/\n" ∷ "H1\r\n" ∷ []) ≡ (72 ∷ 1 ∷ 2 ∷ []) ∷ (66 ∷ 7 ∷ 2 ∷ []) ∷ (1 ∷ []) ∷ (1 ∷ []) ∷ []
unfolding made_from_head is_first_line ascii known row_of look_up table
all-heads = refl
