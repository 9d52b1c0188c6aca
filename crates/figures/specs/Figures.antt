-- What document 01's table says of a format, and the time of day that Write puts into its digits, as structs: 0 and the values, or the number of a refusal and zeros.
use Rattle.std.specs.Prelude.{cond, ℕ, ◌%◌}
use Rattle.timecode.specs.Answers.{refusal_number}
use Rattle.timecode.specs.Formats.{known, size, interval, last_day, in_range}
use Rattle.timecode.specs.Frames.{total_width}
use Rattle.timecode.specs.Layout.{control, hour, minute, second}
use Rattle.timecode.specs.declared.Format.{Format}
use Rattle.timecode.specs.declared.Refusal.TheVariants.{UnknownFormat, InvalidTime}
use Rattle.timecode.specs.declared.Time.{Time}
use Rattle.figures.specs.declared.FormatFiguresResult.{FormatFiguresResult}
use Rattle.figures.specs.declared.TimeOfDayResult.{TimeOfDayResult}

-- n, S and how many control bits the format carries in its expression; number 1 where it is none
unfoldable pub format_figures_of : Format → FormatFiguresResult
format_figures_of f =
    cond (known f)
    (record { number = 0; control_bits = total_width (control f); interval = interval f; elements = size f })
    (record { number = refusal_number UnknownFormat; control_bits = 0; interval = 0; elements = 0 })

-- hour, minute and second of c, as the digits say them, and what is left of c, in hundredths
abbrev pub clock_of : ℕ → TimeOfDayResult
clock_of c = record { number = 0; hour = hour c; minute = minute c; second = second c; hundredth = c % 100 }

-- The time of day; number 2, as Difference, where day or c are out of range. The year is not looked at.
unfoldable pub time_of_day_of : Time → TimeOfDayResult
time_of_day_of t = cond (in_range last_day t) (clock_of t.hundredths) (record { number = refusal_number InvalidTime; hour = 0; minute = 0; second = 0; hundredth = 0 })
