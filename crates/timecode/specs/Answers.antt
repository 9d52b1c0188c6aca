-- Document 01, "Numbers a call refuses with": the number and the values of each case of each answer. From 14 on they are document 02's.
use Rattle.timecode.specs.declared.Pulse.{Pulse}
use Rattle.timecode.specs.declared.Found.{Found}
use Rattle.std.specs.Prelude.{Bool, true, false, List, [], ◌∷◌, ℕ, ℤ, pos, Result, Ok, Err, Option, Some, None}
use Rattle.timecode.specs.declared.Answer.{Answer}
use Rattle.timecode.specs.declared.Answer.TheVariants.{Quiet, Report}
use Rattle.timecode.specs.declared.Reading.{Reading}
use Rattle.timecode.specs.declared.Refusal.{Refusal}
use Rattle.timecode.specs.declared.Refusal.TheVariants.{
  UnknownFormat,
  InvalidTime,
  WrongLength,
  UnknownSymbol,
  MisplacedMark,
  InvalidElement,
  InvalidDigit,
  SecondsDiffer,
  ControlTooLong,
  InvalidInterval,
  InvalidYearLength,
  StartPastEnd,
  InvalidReader,
  SecondNotCarried,
  InvalidKind,
  InvalidWidthSetting,
  InvalidYear,
  YearPlaceTaken,
  RecordCutShort,
  InvalidRecord,
  InvalidWindow,
  InvalidDate,
  InvalidForecast,
  InvalidCycleCount,
  UnknownCycle,
  InvalidSetting,
  InvalidListener,
}
use Rattle.timecode.specs.declared.Time.{Time}

-- the number of a refusal
abbrev pub refusal_number : Refusal → ℕ
refusal_number UnknownFormat = 1
refusal_number InvalidTime = 2
refusal_number WrongLength = 3
refusal_number UnknownSymbol = 4
refusal_number (MisplacedMark i) = 5
refusal_number (InvalidElement i) = 6
refusal_number InvalidDigit = 7
refusal_number SecondsDiffer = 8
refusal_number ControlTooLong = 9
refusal_number InvalidInterval = 10
refusal_number InvalidYearLength = 11
refusal_number StartPastEnd = 12
refusal_number InvalidReader = 13
refusal_number SecondNotCarried = 14
refusal_number InvalidKind = 15
refusal_number InvalidWidthSetting = 16
refusal_number InvalidYear = 17
refusal_number YearPlaceTaken = 18
refusal_number RecordCutShort = 19
refusal_number InvalidRecord = 20
refusal_number InvalidWindow = 21
refusal_number InvalidDate = 22
refusal_number InvalidForecast = 23
refusal_number InvalidCycleCount = 24
refusal_number (UnknownCycle i) = 25
refusal_number InvalidSetting = 26
refusal_number InvalidListener = 27

-- The answers of Write and the converters where they are done, of Read where it accepts, and of Scan where it finds a frame and where there is none.
abbrev pub done : Result Unit Refusal
done = Ok tt

abbrev pub accepted : Time → ℕ → Result Reading Refusal
accepted t w = Ok (record { time = t; control = w })

abbrev pub found_frame : ℕ → Time → ℕ → Result (Option Found) Refusal
found_frame a t w = Ok (Some (record { start = a; reading = record { time = t; control = w } }))

abbrev pub none_found : Result (Option Found) Refusal
none_found = Ok None

-- One check of a call: the answer goes on where it passes, and is that refusal where it fails.
abbrev pub check : {Any : Type 0} → (Refusal → Any) → Refusal → Bool → Any → Any
check refused r true answer = answer
check refused r false answer = refused r

-- All checks of a call from one list, in their order: each refusal with its test. The first test that fails decides; where none does, the answer.
abbrev pub Check : Type 0
Check = Refusal × Bool

abbrev pub checks : {Any : Type 0} → (Refusal → Any) → List Check → Any → Any
checks refused [] answer = answer
checks refused ((r, test) ∷ cs) answer = check refused r test (checks refused cs answer)

-- The outcome of a call: 0 and the answer's values, or the number of a refusal and the value beside it.
pub record Outcome : Type 0 where
  pub number : ℕ
  pub values : List ℤ

-- the value of a refusal: the index of the element with 5 and 6, of the cycle with 25, with no other
abbrev index : Refusal → List ℤ
index UnknownFormat = []
index InvalidTime = []
index WrongLength = []
index UnknownSymbol = []
index (MisplacedMark i) = pos i ∷ []
index (InvalidElement i) = pos i ∷ []
index InvalidDigit = []
index SecondsDiffer = []
index ControlTooLong = []
index InvalidInterval = []
index InvalidYearLength = []
index StartPastEnd = []
index InvalidReader = []
index SecondNotCarried = []
index InvalidKind = []
index InvalidWidthSetting = []
index InvalidYear = []
index YearPlaceTaken = []
index RecordCutShort = []
index InvalidRecord = []
index InvalidWindow = []
index InvalidDate = []
index InvalidForecast = []
index InvalidCycleCount = []
index (UnknownCycle i) = pos i ∷ []
index InvalidSetting = []
index InvalidListener = []

-- a refusal carries its number, with 5, 6 and 25 the index, and no value beside
abbrev pub refusal_result : Refusal → Outcome
refusal_result r = record { number = refusal_number r; values = index r }

abbrev pub success : List ℤ → Outcome
success vs = record { number = 0; values = vs }

-- the values of a time, before others
abbrev pub time_values : Time → List ℤ → List ℤ
time_values t vs = pos t.year ∷ pos t.day ∷ pos t.hundredths ∷ vs

abbrev pub written_result : Result Unit Refusal → Outcome
written_result (Ok u) = success []
written_result (Err r) = refusal_result r

abbrev pub reading_result : Result Reading Refusal → Outcome
reading_result (Ok read) = success (time_values read.time (pos read.control ∷ []))
reading_result (Err r) = refusal_result r

abbrev pub stepped_result : Result Time Refusal → Outcome
stepped_result (Ok t) = success (time_values t [])
stepped_result (Err r) = refusal_result r

abbrev pub subtracted_result : Result ℤ Refusal → Outcome
subtracted_result (Ok d) = success (d ∷ [])
subtracted_result (Err r) = refusal_result r

abbrev pub classified_result : Result Pulse Refusal → Outcome
classified_result (Ok pulse) = success (pos pulse.symbol ∷ pulse.deviation ∷ [])
classified_result (Err r) = refusal_result r

abbrev pub scanned_result : Result (Option Found) Refusal → Outcome
scanned_result (Ok (Some f)) = success (pos f.start ∷ time_values f.reading.time (pos f.reading.control ∷ []))
scanned_result (Ok None) = success []
scanned_result (Err r) = refusal_result r

abbrev pub answer_result : Answer → Outcome
answer_result Quiet = success []
answer_result (Report t w) = success (time_values t (pos w ∷ []))
answer_result (Answer.Refused r) = refusal_result r
