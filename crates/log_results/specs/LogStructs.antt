-- The struct of each answer of the report log: its number first, then its values; a field for which the answer has no value is 0.
use Rattle.report_log.specs.declared.Record.{Record}
use Rattle.timecode.specs.declared.Refusal.{Refusal}
use Rattle.std.specs.Prelude.{ℕ, Result, Ok, Err, Option, Some, None}
use Rattle.timecode.specs.Answers.{refusal_number}
use Rattle.report_log.specs.Log.{no_report}
use Rattle.log_results.specs.declared.LogReadResult.{LogReadResult}
use Rattle.log_results.specs.declared.LogWriteResult.{LogWriteResult}

-- put_in: 1 where the record was put in, else 0
abbrev pub log_write_result_of : Result (Option ℕ) Refusal → LogWriteResult
log_write_result_of (Ok (Some n)) = record { number = 0; put_in = 1; next = n }
log_write_result_of (Ok None) = record { number = 0; put_in = 0; next = 0 }
log_write_result_of (Err x) = record { number = refusal_number x; put_in = 0; next = 0 }

abbrev pub without_report : ℕ → LogReadResult
without_report number = record { number = number; found = 0; report = no_report; next = 0 }

-- found: 1 with a report, else 0
abbrev pub log_read_result_of : Result (Option Record) Refusal → LogReadResult
log_read_result_of (Ok (Some found)) = record { number = 0; found = 1; report = found.report; next = found.next }
log_read_result_of (Ok None) = without_report 0
log_read_result_of (Err x) = without_report (refusal_number x)
