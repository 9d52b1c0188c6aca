-- Document 01's starred rows, and rows for what no theorem fixes: the table, the places, the ends of ranges, the numbers and their order. What each call says; one theorem holds of all.
use Rattle.std.specs.Prelude.{◌≡◌, refl, map}
use Rattle.timecode.specs.Calls.{lead_at, first_place, is_interval, are_width_settings, classes, pulse_among, pulse_of, classify_of, pulses_of, classify_list_of, symbols_left, deviations_left, difference_of, part_at, lowest_of, scan_of}
use Rattle.timecode.specs.Editions.{is_earlier, check_forward, forward_of, forward_leaves, backward_of, backward_leaves}
use Rattle.timecode.specs.Formats.{is_x, table, look_up, row_of, known, size, interval, carries_control, carries_seconds, carries_year, control_places, days_in, year_carried, last_day_in, in_range, on_format, carries_leap, second_carried}
use Rattle.timecode.specs.Frames.{length_in, in_year, day_after, turn_day, year_after, year_of_day_after, day_length_of, day_end, on_day, following, step_of, day_before, year_of_time_before, preceding, step_back_of, next_after, written, control_fits, write_of, write_leaves, marks_agree, element_fits, check_elements, last_second, day_in, is_time, time_in, seconds_agree, read_of}
use Rattle.timecode.specs.Layout.{day_carried, seconds, minutes, hours, days, tenths, hundredths_digit, has_seconds, straight_seconds, control, years, time_fields, fields, runs, time_numbers, numbers, is_mark, filler, symbol_at, encode, value}
use Rattle.timecode.specs.Stream.{lead, opens, window_length, frame_in, next_in_row, in_row, window_answer, last_of, plain_answer}
use Rattle.timecode.specs.Rows.{result_of, lines}

pub all_lines : map (λ l. result_of l.call) lines ≡ map (λ l. l.result) lines
unfolding lines is_earlier check_forward forward_of forward_leaves backward_of backward_leaves read_of check_elements marks_agree element_fits last_second is_time day_in time_in seconds_agree value scan_of first_place lowest_of lead_at part_at step_of step_back_of preceding day_before year_of_time_before next_after known is_x row_of look_up table size interval carries_control carries_seconds carries_year control_places days_in year_carried last_day_in in_range on_format carries_leap second_carried length_in in_year day_after turn_day year_after year_of_day_after day_length_of day_end on_day following write_of write_leaves written control_fits encode symbol_at filler is_mark runs fields time_fields numbers time_numbers day_carried seconds minutes hours days tenths hundredths_digit straight_seconds has_seconds control years difference_of classify_of is_interval are_width_settings classes pulse_among pulse_of pulses_of classify_list_of symbols_left deviations_left lead opens window_length frame_in next_in_row in_row window_answer last_of plain_answer
all_lines = refl
