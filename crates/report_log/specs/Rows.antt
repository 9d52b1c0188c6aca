-- Worked rows for what no theorem fixes: the order of the bytes and of the map's bits, the ranges, the numbers and their order. What each call says; one theorem holds of all.
use Rattle.std.specs.Prelude.{List, [], ◌∷◌, map, ℕ, ◌^◌, pos, replicate}
use Rattle.timecode.specs.Answers.{Outcome, success, refusal_result}
use Rattle.timecode.specs.declared.Refusal.TheVariants.{InvalidTime, ControlTooLong, StartPastEnd, InvalidYear, RecordCutShort, InvalidRecord}
use Rattle.report_log.specs.Log.{no_report, log_of, read_log, write_log, log_left, log_written_result, log_reading_result}
use Rattle.report_log.specs.declared.Report.{Report}

-- a call: the log of some reports; writing into k bytes of 170 at a place, by the answer, or by what is left; reading at a place
pub data Call : Type 0 where
  log : List Report → Call
  write : ℕ → ℕ → Report → Report → Call
  left : ℕ → ℕ → Report → Report → Call
  read : List ℕ → ℕ → Report → Call

abbrev pub result_of : Call → Outcome
result_of (log rs) = success (map pos (log_of rs))
result_of (write k at p r) = log_written_result (write_log (replicate k 170) at p r)
result_of (left k at p r) = success (map pos (log_left (replicate k 170) at p r))
result_of (read bytes at p) = log_reading_result (read_log bytes at p)

-- year, day, c and control word
abbrev report : ℕ → ℕ → ℕ → ℕ → Report
report year day c control = record { time = record { year = year; day = day; hundredths = c }; control = control }

-- day 191 of 2024, 14:08 and a minute later
abbrev first : Report
first = report 24 191 5088000 0

abbrev second : Report
second = report 24 191 5094000 0

pub record Row : Type 0 where
  pub call : Call
  pub result : Outcome

abbrev says : Call → List ℕ → Row
says c values = record { call = c; result = success (map pos values) }

unfoldable pub rows : List Row
rows =
    -- day, c and year, lowest byte first; then c alone; then the same report again; then all four
    says (log (first ∷ second ∷ second ∷ report 25 366 8640099 1108152157446 ∷ [])) (11 ∷ 191 ∷ 0 ∷ 0 ∷ 163 ∷ 77 ∷ 24 ∷ 2 ∷ 112 ∷ 186 ∷ 77 ∷ 0 ∷ 15 ∷ 110 ∷ 1 ∷ 99 ∷ 214 ∷ 131 ∷ 6 ∷ 5 ∷ 4 ∷ 3 ∷ 2 ∷ 1 ∷ 25 ∷ [])
    -- the control word's bit is bit 2
    ∷ says (log (report 0 1 0 1 ∷ [])) (5 ∷ 1 ∷ 0 ∷ 1 ∷ 0 ∷ 0 ∷ 0 ∷ 0 ∷ 0 ∷ [])
    -- in the middle of the log, and one byte too few
    ∷ says (write 9 3 first second) (7 ∷ [])
    ∷ says (left 9 3 first second) (170 ∷ 170 ∷ 170 ∷ 2 ∷ 112 ∷ 186 ∷ 77 ∷ 170 ∷ 170 ∷ [])
    ∷ says (write 6 3 first second) []
    ∷ says (left 6 3 first second) (replicate 6 170)
    -- a place at the end: no room, and none to read
    ∷ says (write 3 3 first second) []
    ∷ says (read (0 ∷ 0 ∷ []) 2 first) []
    -- 12 before all else
    ∷ record { call = write 3 4 first (report 100 0 0 (2 ^ 48)); result = refusal_result StartPastEnd }
    ∷ record { call = read (16 ∷ []) 2 first; result = refusal_result StartPastEnd }
    -- 2, 17, 9, then the fit
    ∷ record { call = write 0 0 first (report 100 0 0 (2 ^ 48)); result = refusal_result InvalidTime }
    ∷ record { call = write 0 0 first (report 0 367 0 0); result = refusal_result InvalidTime }
    ∷ record { call = write 0 0 first (report 0 1 8640100 0); result = refusal_result InvalidTime }
    ∷ record { call = write 0 0 first (report 100 1 0 (2 ^ 48)); result = refusal_result InvalidYear }
    ∷ record { call = write 0 0 first (report 99 366 8640099 (2 ^ 48)); result = refusal_result ControlTooLong }
    -- the second record, after the first report
    ∷ says (read (170 ∷ 2 ∷ 112 ∷ 186 ∷ 77 ∷ 0 ∷ []) 1 first) (24 ∷ 191 ∷ 5094000 ∷ 0 ∷ 5 ∷ [])
    -- 19 before 20: its map has bit 4, and the log ends within c
    ∷ record { call = read (18 ∷ 112 ∷ 186 ∷ []) 0 first; result = refusal_result RecordCutShort }
    -- 20 before 2: bit 4 with no field but day 0, and c as before
    ∷ record { call = read (17 ∷ 0 ∷ 0 ∷ []) 0 first; result = refusal_result InvalidRecord }
    ∷ record { call = read (3 ∷ 0 ∷ 0 ∷ 0 ∷ 163 ∷ 77 ∷ []) 0 first; result = refusal_result InvalidRecord }
    -- 2, 17, 9 of the whole report, what is read and what is from before
    ∷ record { call = read (0 ∷ []) 0 no_report; result = refusal_result InvalidTime }
    ∷ record { call = read (9 ∷ 111 ∷ 1 ∷ 100 ∷ []) 0 first; result = refusal_result InvalidTime }
    ∷ record { call = read (8 ∷ 100 ∷ []) 0 (report 24 191 0 (2 ^ 48)); result = refusal_result InvalidYear }
    ∷ record { call = read (8 ∷ 99 ∷ []) 0 (report 24 191 0 (2 ^ 48)); result = refusal_result ControlTooLong }
    ∷ []

abbrev pub asked : List Row → List Outcome
asked [] = []
asked (r ∷ rs) = result_of r.call ∷ asked rs

abbrev pub answered : List Row → List Outcome
answered [] = []
answered (r ∷ rs) = r.result ∷ answered rs
