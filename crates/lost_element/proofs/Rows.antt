-- Worked windows of four frames from 00:00:00 on with one element lost or put in: each place that AfterLoss and AfterPutIn name does occur, and the places beside it do not.
use Rattle.std.specs.Prelude.{◌≡◌, refl, [], ◌∷◌, map}
use Rattle.timecode.specs.Formats.{is_x, table, look_up, row_of, known, size, interval, carries_control, carries_seconds, carries_year, control_places, days_in, year_carried, last_day_in, in_range, on_format, carries_leap, second_carried}
use Rattle.timecode.specs.Frames.{length_in, in_year, day_after, turn_day, year_after, year_of_day_after, day_length_of, day_end, on_day, following, step_of, next_after, written, marks_agree, element_fits, check_elements, last_second, day_in, is_time, time_in, seconds_agree, read_of, elements}
use Rattle.timecode.specs.Layout.{day_carried, seconds, minutes, hours, days, tenths, hundredths_digit, has_seconds, straight_seconds, control, years, time_fields, fields, runs, time_numbers, numbers, is_mark, filler, symbol_at, encode, value}
use Rattle.timecode.specs.Stream.{lead, opens, window_length, frame_in, next_in_row, in_row, window_answer, last_of, plain_answer}
use Rattle.lost_element.specs.Rows.{hundredths_of, windows}

pub all-windows : map hundredths_of windows ≡ 200 ∷ 100 ∷ 1 ∷ 100 ∷ 100 ∷ 100 ∷ 1 ∷ 1 ∷ 300 ∷ 200 ∷ 12000 ∷ 1 ∷ 12000 ∷ 12000 ∷ []
unfolding windows plain_answer window_answer window_length in_row next_in_row opens frame_in last_of lead elements next_after step_of length_in in_year day_after turn_day year_after year_of_day_after day_length_of day_end on_day following written marks_agree element_fits check_elements last_second day_in is_time time_in seconds_agree read_of is_x table look_up row_of known size interval carries_control carries_seconds carries_year control_places days_in year_carried last_day_in in_range on_format carries_leap second_carried day_carried seconds minutes hours days tenths hundredths_digit has_seconds straight_seconds control years time_fields fields runs time_numbers numbers is_mark filler symbol_at encode value
all-windows = refl
