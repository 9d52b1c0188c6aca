-- The struct of each answer: its number first, with Read's, the converters' and decoding's the index, then its values; a field for which the answer has no value is 0.
use Rattle.timecode.specs.declared.Time.{Time}
use Rattle.timecode.specs.declared.Pulse.{Pulse}
use Rattle.timecode.specs.declared.Found.{Found}
use Rattle.timecode.specs.declared.Reading.{Reading}
use Rattle.std.specs.Prelude.{ℕ, ℤ, pos, Result, Ok, Err, Option, Some, None, Float}
use Rattle.forecasts.specs.Forecasting.{zero_float}
use Rattle.timecode.specs.Answers.{refusal_number}
use Rattle.timecode.specs.Frames.{no_time}
use Rattle.timecode.specs.declared.Answer.{Answer}
use Rattle.timecode.specs.declared.Answer.TheVariants.{Quiet, Report}
use Rattle.timecode.specs.declared.Refusal.{Refusal}
use Rattle.timecode.specs.declared.Refusal.TheVariants.{
  UnknownFormat,
  InvalidTime,
  WrongLength,
  UnknownSymbol,
  MisplacedMark,
  InvalidElement,
  InvalidDigit,
  SecondsDiffer,
  ControlTooLong,
  InvalidInterval,
  InvalidYearLength,
  StartPastEnd,
  InvalidReader,
  SecondNotCarried,
  InvalidKind,
  InvalidWidthSetting,
  InvalidYear,
  YearPlaceTaken,
  RecordCutShort,
  InvalidRecord,
  InvalidWindow,
  InvalidDate,
  InvalidForecast,
  InvalidCycleCount,
  UnknownCycle,
  InvalidSetting,
  InvalidListener,
}
use Rattle.ffi.specs.declared.ClassifyResult.{ClassifyResult}
use Rattle.ffi.specs.declared.ConvertResult.{ConvertResult}
use Rattle.ffi.specs.declared.DifferenceResult.{DifferenceResult}
use Rattle.ffi.specs.declared.FeedPulseResult.{FeedPulseResult}
use Rattle.ffi.specs.declared.FeedResult.{FeedResult}
use Rattle.ffi.specs.declared.ForecastResult.{ForecastResult}
use Rattle.ffi.specs.declared.ReadResult.{ReadResult}
use Rattle.ffi.specs.declared.ScanResult.{ScanResult}
use Rattle.ffi.specs.declared.StepResult.{StepResult}
use Rattle.ffi.specs.declared.WriteResult.{WriteResult}

-- the index that goes with 5, 6 and 25; with every other number 0
abbrev pub refusal_index : Refusal → ℕ
refusal_index UnknownFormat = 0
refusal_index InvalidTime = 0
refusal_index WrongLength = 0
refusal_index UnknownSymbol = 0
refusal_index (MisplacedMark i) = i
refusal_index (InvalidElement i) = i
refusal_index InvalidDigit = 0
refusal_index SecondsDiffer = 0
refusal_index ControlTooLong = 0
refusal_index InvalidInterval = 0
refusal_index InvalidYearLength = 0
refusal_index StartPastEnd = 0
refusal_index InvalidReader = 0
refusal_index SecondNotCarried = 0
refusal_index InvalidKind = 0
refusal_index InvalidWidthSetting = 0
refusal_index InvalidYear = 0
refusal_index YearPlaceTaken = 0
refusal_index RecordCutShort = 0
refusal_index InvalidRecord = 0
refusal_index InvalidWindow = 0
refusal_index InvalidDate = 0
refusal_index InvalidForecast = 0
refusal_index InvalidCycleCount = 0
refusal_index (UnknownCycle i) = i
refusal_index InvalidSetting = 0
refusal_index InvalidListener = 0

abbrev pub write_result_of : Result Unit Refusal → WriteResult
write_result_of (Ok u) = record { number = 0 }
write_result_of (Err x) = record { number = refusal_number x }

abbrev pub convert_result_of : Result Unit Refusal → ConvertResult
convert_result_of (Ok u) = record { number = 0; index = 0 }
convert_result_of (Err x) = record { number = refusal_number x; index = refusal_index x }

abbrev pub read_result_of : Result Reading Refusal → ReadResult
read_result_of (Ok read) = record { number = 0; index = 0; time = read.time; control = read.control }
read_result_of (Err x) = record { number = refusal_number x; index = refusal_index x; time = no_time; control = 0 }

abbrev pub step_result_of : Result Time Refusal → StepResult
step_result_of (Ok t) = record { number = 0; time = t }
step_result_of (Err x) = record { number = refusal_number x; time = no_time }

abbrev pub difference_result_of : Result ℤ Refusal → DifferenceResult
difference_result_of (Ok d) = record { number = 0; hundredths = d }
difference_result_of (Err x) = record { number = refusal_number x; hundredths = pos 0 }

abbrev pub classify_result_of : Result Pulse Refusal → ClassifyResult
classify_result_of (Ok pulse) = record { number = 0; symbol = pulse.symbol; deviation = pulse.deviation }
classify_result_of (Err x) = record { number = refusal_number x; symbol = 0; deviation = pos 0 }

-- found: 1 with a frame, else 0
abbrev pub scan_result_of : Result (Option Found) Refusal → ScanResult
scan_result_of (Ok (Some found)) = record { number = 0; found = 1; start = found.start; time = found.reading.time; control = found.reading.control }
scan_result_of (Ok None) = record { number = 0; found = 0; start = 0; time = no_time; control = 0 }
scan_result_of (Err x) = record { number = refusal_number x; found = 0; start = 0; time = no_time; control = 0 }

-- reported: 1 with a report, else 0
abbrev pub feed_result_of : Answer → FeedResult
feed_result_of Quiet = record { number = 0; reported = 0; time = no_time; control = 0 }
feed_result_of (Report t w) = record { number = 0; reported = 1; time = t; control = w }
feed_result_of (Answer.Refused x) = record { number = refusal_number x; reported = 0; time = no_time; control = 0 }

-- a pulse fed: what the Feed brought, and the deviation, which is 0 beside a refusal (pulse_feed.PulseFeeds.refused-pulse-no-deviation)
abbrev pub with_deviation : FeedResult → ℤ → FeedPulseResult
with_deviation r d = record { number = r.number; reported = r.reported; time = r.time; control = r.control; deviation = d }

abbrev pub forecast_result_of : Result Float Refusal → ForecastResult
forecast_result_of (Ok x) = record { number = 0; error = x }
forecast_result_of (Err x) = record { number = refusal_number x; error = zero_float }
