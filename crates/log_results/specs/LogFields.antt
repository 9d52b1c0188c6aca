-- Each struct's number and fields are those of its answer's result; the log refuses with no index, so the structs leave out no value.
use Rattle.report_log.specs.declared.Record.{Record}
use Rattle.timecode.specs.declared.Refusal.{Refusal}
use Rattle.std.specs.Prelude.{◌≡◌, refl, ◌&&◌, List, [], ◌∷◌, ℕ, ◌+◌, leb, ltb, eqb, pos, get_or, length, drop, Result, Ok, Err, Option, Some, None}
use Rattle.timecode.specs.Answers.{time_values}
use Rattle.timecode.specs.Formats.{last_day, last_year, in_range}
use Rattle.timecode.proofs.Laws.Tests.{by-test}
use Rattle.report_log.specs.Log.{record_of, size_of, read_fields, report_in, all_differ, fields_after, is_control, read_record, read_log, fit_of, write_log, log_written_result, log_reading_result}
use Rattle.report_log.specs.declared.Report.{Report}
use Rattle.ffi.specs.Fields.{flag_in, values_in, time_zeros}
use Rattle.ffi.proofs.Fields.{refusal-numbered}
use Rattle.ffi.specs.Indexes.{refused_values}
use Rattle.log_results.specs.LogStructs.{log_write_result_of, log_read_result_of}

pub log-write-number : (a : Result (Option ℕ) Refusal) → (log_write_result_of a).number ≡ (log_written_result a).number
log-write-number (Ok (Some n)) = refl
log-write-number (Ok None) = refl
log-write-number (Err x) = refl

pub log-write-put-in : (a : Result (Option ℕ) Refusal) → (log_write_result_of a).put_in ≡ flag_in (log_written_result a)
log-write-put-in (Ok (Some n)) = refl
log-write-put-in (Ok None) = refl
log-write-put-in (Err x) = rw (refusal-numbered x)

pub log-write-values : (a : Result (Option ℕ) Refusal) → pos (log_write_result_of a).next ∷ [] ≡ values_in (log_written_result a) (pos 0 ∷ [])
log-write-values (Ok (Some n)) = refl
log-write-values (Ok None) = refl
log-write-values (Err x) = rw (refusal-numbered x)

pub log-read-number : (a : Result (Option Record) Refusal) → (log_read_result_of a).number ≡ (log_reading_result a).number
log-read-number (Ok (Some found)) = refl
log-read-number (Ok None) = refl
log-read-number (Err x) = refl

pub log-read-found : (a : Result (Option Record) Refusal) → (log_read_result_of a).found ≡ flag_in (log_reading_result a)
log-read-found (Ok (Some found)) = refl
log-read-found (Ok None) = refl
log-read-found (Err x) = rw (refusal-numbered x)

pub log-read-values : (a : Result (Option Record) Refusal) → time_values (log_read_result_of a).report.time (pos (log_read_result_of a).report.control ∷ pos (log_read_result_of a).next ∷ []) ≡ values_in (log_reading_result a) (time_zeros (pos 0 ∷ pos 0 ∷ []))
log-read-values (Ok (Some found)) = refl
log-read-values (Ok None) = refl
log-read-values (Err x) = rw (refusal-numbered x)

fit-no-index : (log : List ℕ) (at : ℕ) (bytes : List ℕ) → refused_values (log_written_result (fit_of log at bytes)) ≡ []
unfolding fit_of
fit-no-index log at bytes = by-test (leb (at + length bytes) (length log)) (λ y. rw y) (λ n. rw n)

pub log-write-no-index : (log : List ℕ) (at : ℕ) (p r : Report) → refused_values (log_written_result (write_log log at p r)) ≡ []
unfolding write_log
log-write-no-index log at p r =
    by-test (leb at (length log))
    (λ a. rw a (by-test (in_range last_day r.time) (λ b. rw b (by-test (leb r.time.year last_year) (λ y. rw y (by-test (is_control r.control) (λ w. rw w (fit-no-index log at (record_of p r))) (λ w. rw w))) (λ y. rw y))) (λ b. rw b)))
    (λ a. rw a)

record-no-index : (p : Report) (bytes : List ℕ) (at : ℕ) → refused_values (log_reading_result (read_record p bytes at)) ≡ []
unfolding read_record
record-no-index p bytes at =
    let map = get_or bytes 0 0 in
    let fields = read_fields (fields_after p) map (drop 1 bytes) in
    let r = report_in fields in
    by-test (leb (1 + size_of (fields_after p) map) (length bytes))
    (λ a. rw a (by-test (ltb map 16 && all_differ fields map) (λ d. rw d (by-test (in_range last_day r.time) (λ b. rw b (by-test (leb r.time.year last_year) (λ y. rw y (by-test (is_control r.control) (λ w. rw w) (λ w. rw w))) (λ y. rw y))) (λ b. rw b))) (λ d. rw d)))
    (λ a. rw a)

pub log-read-no-index : (log : List ℕ) (at : ℕ) (p : Report) → refused_values (log_reading_result (read_log log at p)) ≡ []
unfolding read_log
log-read-no-index log at p =
    by-test (leb at (length log))
    (λ a. rw a (by-test (eqb at (length log)) (λ e. rw e) (λ n. rw n (record-no-index p (drop at log) at))))
    (λ a. rw a)
