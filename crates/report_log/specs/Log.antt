-- Document 02, "Compact report log": the record of a report, the log of a list of reports, reading at a place, writing at a place.
use Rattle.report_log.specs.declared.Record.{Record}
use Rattle.std.specs.Prelude.{Bool, true, cond, not, ◌&&◌, List, [], ◌∷◌, ◌++◌, ℕ, zero, suc, ◌+◌, ◌*◌, ◌/◌, ◌%◌, ◌^◌, leb, ltb, eqb, pos, get_or, length, take, drop, Result, Ok, Err, Option, Some, None}
use Rattle.timecode.specs.Answers.{check, Outcome, success, refusal_result, time_values, Check, checks}
use Rattle.timecode.specs.Formats.{last_day, last_year, in_range}
use Rattle.timecode.specs.Frames.{no_time}
use Rattle.timecode.specs.declared.Refusal.{Refusal}
use Rattle.timecode.specs.declared.Refusal.TheVariants.{InvalidTime, ControlTooLong, StartPastEnd, InvalidYear, RecordCutShort, InvalidRecord}
use Rattle.report_log.specs.declared.Report.{Report}

-- ---- numbers in bytes, lowest byte first

unfoldable pub bytes_of : ℕ → ℕ → List ℕ
bytes_of zero x = []
bytes_of (suc width) x = x % 256 ∷ bytes_of width (x / 256)

unfoldable pub number_in : List ℕ → ℕ
number_in [] = 0
number_in (b ∷ bs) = b + 256 * number_in bs

-- ---- a record: one byte of map, then only the fields whose bit stands

-- A field of a report: its width in bytes, what it was in the report before, and what it is.
pub record Field : Type 0 where
  pub width : ℕ
  pub before : ℕ
  pub now : ℕ

-- bit 0 day (2 bytes), bit 1 c (3 bytes), bit 2 control word (6 bytes), bit 3 year (1 byte)
unfoldable pub fields_of : Report → Report → List Field
fields_of p r =
    record { width = 2; before = p.time.day; now = r.time.day }
    ∷ record { width = 3; before = p.time.hundredths; now = r.time.hundredths }
    ∷ record { width = 6; before = p.control; now = r.control }
    ∷ record { width = 1; before = p.time.year; now = r.time.year }
    ∷ []

-- before the first report, all fields count as 0
abbrev pub no_report : Report
no_report = record { time = no_time; control = 0 }

-- a bit stands exactly when the field differs from the report before
abbrev pub differs : Field → Bool
differs f = not (eqb f.now f.before)

unfoldable pub map_of : List Field → ℕ
map_of [] = 0
map_of (f ∷ fs) = cond (differs f) 1 0 + 2 * map_of fs

unfoldable pub changed_of : List Field → List ℕ
changed_of [] = []
changed_of (f ∷ fs) = cond (differs f) (bytes_of f.width f.now) [] ++ changed_of fs

-- the record of r after p
unfoldable pub record_of : Report → Report → List ℕ
record_of p r = map_of (fields_of p r) ∷ changed_of (fields_of p r)

-- ---- the log of a list of reports, the first of them after p

unfoldable pub log_after : Report → List Report → List ℕ
log_after p [] = []
log_after p (r ∷ rs) = record_of p r ++ log_after r rs

unfoldable pub log_of : List Report → List ℕ
log_of rs = log_after no_report rs

-- ---- what a record says: a field whose bit stands is read, any other is the one before

-- does bit 0 stand
abbrev pub stands : ℕ → Bool
stands map = eqb (map % 2) 1

-- the bytes of the fields whose bits stand
unfoldable pub size_of : List Field → ℕ → ℕ
size_of [] map = 0
size_of (f ∷ fs) map = cond (stands map) f.width 0 + size_of fs (map / 2)

abbrev pub field_in : Bool → Field → List ℕ → ℕ
field_in standing f bytes = cond standing (number_in (take f.width bytes)) f.before

unfoldable pub read_fields : List Field → ℕ → List ℕ → List Field
read_fields [] map bytes = []
read_fields (f ∷ fs) map bytes =
    record { width = f.width; before = f.before; now = field_in (stands map) f bytes }
    ∷ read_fields fs (map / 2) (drop (cond (stands map) f.width 0) bytes)

-- the number of a field, by its bit
abbrev pub now_at : List Field → ℕ → ℕ
now_at fs k = (get_or fs k (record { width = 0; before = 0; now = 0 })).now

unfoldable pub report_in : List Field → Report
report_in fs = record { time = record { year = now_at fs 3; day = now_at fs 0; hundredths = now_at fs 1 }; control = now_at fs 2 }

-- no field whose bit stands equals the one before
unfoldable pub all_differ : List Field → ℕ → Bool
all_differ [] map = true
all_differ (f ∷ fs) map = cond (stands map) (differs f) true && all_differ fs (map / 2)

-- the fields after the report p, whose numbers are to be read
abbrev pub fields_after : Report → List Field
fields_after p = fields_of p p

-- ---- the ranges of a report

-- number 9: the control word has at most 48 bits
abbrev pub is_control : ℕ → Bool
is_control w = ltb w (2 ^ 48)

-- 2 for a day outside 1 to 366 or a c over 8,640,099, 17, and 9
abbrev pub report_checks : Report → List Check
report_checks r =
    (InvalidTime, in_range last_day r.time)  -- 2
    ∷ (InvalidYear, leb r.time.year last_year)  -- 17
    ∷ (ControlTooLong, is_control r.control)  -- 9
    ∷ []

abbrev pub check_report : {Any : Type 0} → (Refusal → Any) → Report → Any → Any
check_report refused r answer = checks refused (report_checks r) answer

-- ---- the answers that are no refusal: reading gives a record and the next place, or the log's end; writing the next place, or the record is left out

abbrev pub record_read : Report → ℕ → Result (Option Record) Refusal
record_read r next = Ok (Some (record { report = r; next = next }))

abbrev pub log_end : Result (Option Record) Refusal
log_end = Ok None

abbrev pub next_place : ℕ → Result (Option ℕ) Refusal
next_place n = Ok (Some n)

abbrev pub left_out : Result (Option ℕ) Refusal
left_out = Ok None

-- ---- reading

-- The record at the start of some bytes, after the report p; the first byte's place in the log is `at`.
unfoldable pub read_record : Report → List ℕ → ℕ → Result (Option Record) Refusal
read_record p bytes at =
    let map = get_or bytes 0 0 in
    let size = 1 + size_of (fields_after p) map in
    let fields = read_fields (fields_after p) map (drop 1 bytes) in
    checks Err
    ((RecordCutShort, leb size (length bytes))  -- 19
    ∷ (InvalidRecord, ltb map 16 && all_differ fields map)  -- 20
    ∷ report_checks (report_in fields))
    (record_read (report_in fields) (at + size))

-- Reading takes a place and the report before, and gives a report and the next place, or none at the log's end.
unfoldable pub read_log : List ℕ → ℕ → Report → Result (Option Record) Refusal
read_log log at p =
    check Err StartPastEnd (leb at (length log))  -- 12
    (cond (eqb at (length log)) log_end
    (read_record p (drop at log) at))

-- ---- writing

-- a record that does not fit is left out
unfoldable pub fit_of : List ℕ → ℕ → List ℕ → Result (Option ℕ) Refusal
fit_of log at bytes = cond (leb (at + length bytes) (length log)) (next_place (at + length bytes)) left_out

unfoldable pub write_log : List ℕ → ℕ → Report → Report → Result (Option ℕ) Refusal
write_log log at p r =
    checks Err
    ((StartPastEnd, leb at (length log))  -- 12
    ∷ report_checks r)
    (fit_of log at (record_of p r))

-- the bytes put in the middle of the log: all else is left
unfoldable pub put_at : List ℕ → ℕ → List ℕ → List ℕ
put_at log at bytes = take at log ++ (bytes ++ drop (at + length bytes) log)

abbrev pub put_by : Result (Option ℕ) Refusal → List ℕ → List ℕ → List ℕ
put_by (Ok (Some n)) put log = put
put_by (Ok None) put log = log
put_by (Err x) put log = log

-- the lent log after the call
unfoldable pub log_left : List ℕ → ℕ → Report → Report → List ℕ
log_left log at p r = put_by (write_log log at p r) (put_at log at (record_of p r)) log

-- ---- what the answers say

abbrev pub log_written_result : Result (Option ℕ) Refusal → Outcome
log_written_result (Ok (Some n)) = success (pos n ∷ [])
log_written_result (Ok None) = success []
log_written_result (Err x) = refusal_result x

abbrev pub log_reading_result : Result (Option Record) Refusal → Outcome
log_reading_result (Ok (Some found)) = success (time_values found.report.time (pos found.report.control ∷ pos found.next ∷ []))
log_reading_result (Ok None) = success []
log_reading_result (Err x) = refusal_result x
