-- Worked runs: what each listener counts, and each refusal in its order.
use Rattle.std.specs.Prelude.{◌≡◌, refl, [], ◌∷◌, map}
use Rattle.timecode.specs.Formats.{is_x, table, look_up, row_of, known, size, interval, carries_control, carries_seconds, carries_year, control_places, days_in, year_carried, last_day_in, in_range, on_format, carries_leap, second_carried}
use Rattle.timecode.specs.Frames.{length_in, in_year, day_after, turn_day, year_after, year_of_day_after, day_length_of, day_end, on_day, following, step_of, next_after, written, marks_agree, element_fits, check_elements, last_second, day_in, is_time, time_in, seconds_agree, read_of, elements}
use Rattle.timecode.specs.Layout.{day_carried, seconds, minutes, hours, days, tenths, hundredths_digit, has_seconds, straight_seconds, control, years, time_fields, fields, runs, time_numbers, numbers, is_mark, filler, symbol_at, encode, value}
use Rattle.timecode.specs.Stream.{is_setting, lead, opens, window_length, frame_in, next_in_row, in_row, window_answer, last_of, plain_answer, plain_feed, plain_answers}
use Rattle.simulation.specs.Simulation.{run_of, replace_at, damaged, are_rising, have_symbols, first_report, report_count, ends_frame, is_false, false_count, heard, counts_of, have_settings, are_listeners, simulate_of}
use Rattle.simulation.specs.Rows.{result, simulations}

pub all-simulations : map result simulations
    ≡ ((50 ∷ 3 ∷ 0 ∷ []) ∷ (75 ∷ 2 ∷ 0 ∷ []) ∷ (50 ∷ 2 ∷ 1 ∷ []) ∷ (0 ∷ 0 ∷ 0 ∷ []) ∷ (100 ∷ 1 ∷ 0 ∷ []) ∷ (0 ∷ 0 ∷ 0 ∷ []) ∷ [])
    ∷ ((50 ∷ 2 ∷ 0 ∷ []) ∷ (0 ∷ 0 ∷ 0 ∷ []) ∷ [])
    ∷ ((0 ∷ 0 ∷ 0 ∷ []) ∷ [])
    ∷ []
    ∷ ((2 ∷ []) ∷ [])
    ∷ ((11 ∷ []) ∷ [])
    ∷ ((26 ∷ []) ∷ [])
    ∷ ((26 ∷ []) ∷ [])
    ∷ ((27 ∷ []) ∷ [])
    ∷ ((27 ∷ []) ∷ [])
    ∷ ((27 ∷ []) ∷ [])
    ∷ []
unfolding simulations simulate_of run_of replace_at damaged are_rising have_symbols first_report report_count ends_frame is_false false_count heard counts_of have_settings are_listeners is_setting plain_answers plain_feed plain_answer window_answer window_length in_row next_in_row opens frame_in last_of lead elements next_after step_of length_in in_year day_after turn_day year_after year_of_day_after day_length_of day_end on_day following written marks_agree element_fits check_elements last_second day_in is_time time_in seconds_agree read_of is_x table look_up row_of known size interval carries_control carries_seconds carries_year control_places days_in year_carried last_day_in in_range on_format carries_leap second_carried day_carried seconds minutes hours days tenths hundredths_digit has_seconds straight_seconds control years time_fields fields runs time_numbers numbers is_mark filler symbol_at encode value
all-simulations = refl
