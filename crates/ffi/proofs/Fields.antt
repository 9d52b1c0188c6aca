-- Each struct's number and fields are those of its answer's result; no refusal has the number 0, so that the number tells them apart.
use Rattle.timecode.specs.declared.Time.{Time}
use Rattle.timecode.specs.declared.Pulse.{Pulse}
use Rattle.timecode.specs.declared.Found.{Found}
use Rattle.timecode.specs.declared.Reading.{Reading}
use Rattle.std.specs.Prelude.{◌≡◌, refl, false, [], ◌∷◌, eqb, pos, get_or, Result, Ok, Err, Option, Some, None, ℤ}
use Rattle.timecode.specs.Answers.{refusal_number, refusal_result, time_values, written_result, reading_result, stepped_result, subtracted_result, classified_result, scanned_result, answer_result}
use Rattle.timecode.specs.declared.Answer.{Answer}
use Rattle.timecode.specs.declared.Answer.TheVariants.{Quiet, Report}
use Rattle.timecode.specs.declared.Refusal.{Refusal}
use Rattle.timecode.specs.declared.Refusal.TheVariants.{UnknownFormat, InvalidTime, WrongLength, UnknownSymbol, MisplacedMark, InvalidElement, InvalidDigit, SecondsDiffer, ControlTooLong, InvalidInterval, InvalidYearLength, StartPastEnd, InvalidReader, SecondNotCarried, InvalidKind, InvalidWidthSetting, InvalidYear, YearPlaceTaken, RecordCutShort, InvalidRecord, InvalidWindow, InvalidDate, InvalidForecast, InvalidCycleCount, UnknownCycle, InvalidSetting, InvalidListener}
use Rattle.ffi.specs.Structs.{refusal_index, write_result_of, convert_result_of, read_result_of, step_result_of, difference_result_of, classify_result_of, scan_result_of, feed_result_of}
use Rattle.ffi.specs.Fields.{values_in, flag_in, index_in, time_zeros}

-- ---- a result's parts, with 0 for what it has not

pub refusal-numbered : (x : Refusal) → eqb (refusal_number x) 0 ≡ false
refusal-numbered UnknownFormat = refl
refusal-numbered InvalidTime = refl
refusal-numbered WrongLength = refl
refusal-numbered UnknownSymbol = refl
refusal-numbered (MisplacedMark i) = refl
refusal-numbered (InvalidElement i) = refl
refusal-numbered InvalidDigit = refl
refusal-numbered SecondsDiffer = refl
refusal-numbered ControlTooLong = refl
refusal-numbered InvalidInterval = refl
refusal-numbered InvalidYearLength = refl
refusal-numbered StartPastEnd = refl
refusal-numbered InvalidReader = refl
refusal-numbered SecondNotCarried = refl
refusal-numbered InvalidKind = refl
refusal-numbered InvalidWidthSetting = refl
refusal-numbered InvalidYear = refl
refusal-numbered YearPlaceTaken = refl
refusal-numbered RecordCutShort = refl
refusal-numbered InvalidRecord = refl
refusal-numbered InvalidWindow = refl
refusal-numbered InvalidDate = refl
refusal-numbered InvalidForecast = refl
refusal-numbered InvalidCycleCount = refl
refusal-numbered (UnknownCycle i) = refl
refusal-numbered InvalidSetting = refl
refusal-numbered InvalidListener = refl

index-value : (x : Refusal) → pos (refusal_index x) ≡ get_or (refusal_result x).values 0 (pos 0)
index-value UnknownFormat = refl
index-value InvalidTime = refl
index-value WrongLength = refl
index-value UnknownSymbol = refl
index-value (MisplacedMark i) = refl
index-value (InvalidElement i) = refl
index-value InvalidDigit = refl
index-value SecondsDiffer = refl
index-value ControlTooLong = refl
index-value InvalidInterval = refl
index-value InvalidYearLength = refl
index-value StartPastEnd = refl
index-value InvalidReader = refl
index-value SecondNotCarried = refl
index-value InvalidKind = refl
index-value InvalidWidthSetting = refl
index-value InvalidYear = refl
index-value YearPlaceTaken = refl
index-value RecordCutShort = refl
index-value InvalidRecord = refl
index-value InvalidWindow = refl
index-value InvalidDate = refl
index-value InvalidForecast = refl
index-value InvalidCycleCount = refl
index-value (UnknownCycle i) = refl
index-value InvalidSetting = refl
index-value InvalidListener = refl

-- ---- the values of the structs, in the order of the results' values

pub write-number : (a : Result Unit Refusal) → (write_result_of a).number ≡ (written_result a).number
write-number (Ok u) = refl
write-number (Err x) = refl

pub convert_number : (a : Result Unit Refusal) → (convert_result_of a).number ≡ (written_result a).number
convert_number (Ok u) = refl
convert_number (Err x) = refl

pub convert-index : (a : Result Unit Refusal) → pos (convert_result_of a).index ≡ index_in (written_result a)
convert-index (Ok u) = refl
convert-index (Err x) = rw (refusal-numbered x) (index-value x)

pub read_number : (a : Result Reading Refusal) → (read_result_of a).number ≡ (reading_result a).number
read_number (Ok read) = refl
read_number (Err x) = refl

pub read-index : (a : Result Reading Refusal) → pos (read_result_of a).index ≡ index_in (reading_result a)
read-index (Ok read) = refl
read-index (Err x) = rw (refusal-numbered x) (index-value x)

pub read-values : (a : Result Reading Refusal) → time_values (read_result_of a).time (pos (read_result_of a).control ∷ []) ≡ values_in (reading_result a) (time_zeros (pos 0 ∷ []))
read-values (Ok read) = refl
read-values (Err x) = rw (refusal-numbered x)

pub step-number : (a : Result Time Refusal) → (step_result_of a).number ≡ (stepped_result a).number
step-number (Ok t) = refl
step-number (Err x) = refl

pub step-values : (a : Result Time Refusal) → time_values (step_result_of a).time [] ≡ values_in (stepped_result a) (time_zeros [])
step-values (Ok t) = refl
step-values (Err x) = rw (refusal-numbered x)

pub difference-number : (a : Result ℤ Refusal) → (difference_result_of a).number ≡ (subtracted_result a).number
difference-number (Ok d) = refl
difference-number (Err x) = refl

pub difference-values : (a : Result ℤ Refusal) → (difference_result_of a).hundredths ∷ [] ≡ values_in (subtracted_result a) (pos 0 ∷ [])
difference-values (Ok d) = refl
difference-values (Err x) = rw (refusal-numbered x)

pub classify-number : (a : Result Pulse Refusal) → (classify_result_of a).number ≡ (classified_result a).number
classify-number (Ok pulse) = refl
classify-number (Err x) = refl

pub classify-values : (a : Result Pulse Refusal) → pos (classify_result_of a).symbol ∷ (classify_result_of a).deviation ∷ [] ≡ values_in (classified_result a) (pos 0 ∷ pos 0 ∷ [])
classify-values (Ok pulse) = refl
classify-values (Err x) = rw (refusal-numbered x)

pub scan-number : (a : Result (Option Found) Refusal) → (scan_result_of a).number ≡ (scanned_result a).number
scan-number (Ok (Some found)) = refl
scan-number (Ok None) = refl
scan-number (Err x) = refl

pub scan-found : (a : Result (Option Found) Refusal) → (scan_result_of a).found ≡ flag_in (scanned_result a)
scan-found (Ok (Some found)) = refl
scan-found (Ok None) = refl
scan-found (Err x) = rw (refusal-numbered x)

pub scan-values : (a : Result (Option Found) Refusal) → pos (scan_result_of a).start ∷ time_values (scan_result_of a).time (pos (scan_result_of a).control ∷ []) ≡ values_in (scanned_result a) (pos 0 ∷ time_zeros (pos 0 ∷ []))
scan-values (Ok (Some found)) = refl
scan-values (Ok None) = refl
scan-values (Err x) = rw (refusal-numbered x)

pub feed-number : (a : Answer) → (feed_result_of a).number ≡ (answer_result a).number
feed-number Quiet = refl
feed-number (Report t w) = refl
feed-number (Answer.Refused x) = refl

pub feed-reported : (a : Answer) → (feed_result_of a).reported ≡ flag_in (answer_result a)
feed-reported Quiet = refl
feed-reported (Report t w) = refl
feed-reported (Answer.Refused x) = rw (refusal-numbered x)

pub feed-values : (a : Answer) → time_values (feed_result_of a).time (pos (feed_result_of a).control ∷ []) ≡ values_in (answer_result a) (time_zeros (pos 0 ∷ []))
feed-values Quiet = refl
feed-values (Report t w) = refl
feed-values (Answer.Refused x) = rw (refusal-numbered x)
