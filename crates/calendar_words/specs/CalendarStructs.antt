-- The calendar as 65 words in the caller's memory, and the struct of each of its answers: the number first, then the values; a field for which the answer has no value is 0.
use Rattle.calendar.specs.declared.Asked.{Asked}
use Rattle.timecode.specs.declared.Refusal.{Refusal}
use Rattle.timecode.specs.declared.Time.{Time}
use Rattle.std.specs.Prelude.{List, ◌∷◌, ◌++◌, ℕ, get_or, take, drop, Result, Ok, Err, Option, Some, None}
use Rattle.timecode.specs.Answers.{refusal_number}
use Rattle.timecode.specs.Frames.{no_time}
use Rattle.calendar.specs.declared.Calendar.{Calendar}
use Rattle.calendar.specs.declared.Date.{Date}
use Rattle.calendar_words.specs.declared.AskResult.{AskResult}
use Rattle.calendar_words.specs.declared.DateResult.{DateResult}
use Rattle.calendar_words.specs.declared.DayResult.{DayResult}

-- the count, the 32 keys of the starts, the 32 of the ends
unfoldable pub calendar_in : List ℕ → Calendar
calendar_in words = record { count = get_or words 0 0; starts = take 32 (drop 1 words); ends = take 32 (drop 33 words) }

unfoldable pub words_of : Calendar → List ℕ
words_of c = c.count ∷ (c.starts ++ c.ends)

abbrev pub no_date : Date
no_date = record { year = 0; month = 0; day = 0 }

abbrev pub date_result_of : Result Date Refusal → DateResult
date_result_of (Ok d) = record { number = 0; date = d }
date_result_of (Err x) = record { number = refusal_number x; date = no_date }

abbrev pub day_result_of : Result ℕ Refusal → DayResult
day_result_of (Ok d) = record { number = 0; day = d }
day_result_of (Err x) = record { number = refusal_number x; day = 0 }

-- follows: 1 where a start or end follows, else 0
abbrev pub windows_result : ℕ → Option Time → AskResult
windows_result mask (Some t) = record { number = 0; follows = 1; mask = mask; next = t }
windows_result mask None = record { number = 0; follows = 0; mask = mask; next = no_time }

abbrev pub ask_result_of : Result Asked Refusal → AskResult
ask_result_of (Ok a) = windows_result a.mask a.next
ask_result_of (Err x) = record { number = refusal_number x; follows = 0; mask = 0; next = no_time }
