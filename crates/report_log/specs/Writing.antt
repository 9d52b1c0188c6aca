-- Document 02's claims for the log writer: one record put in the middle of a lent log, and any list of reports that it is called with.
use Rattle.timecode.specs.declared.Refusal.{Refusal}
use Rattle.std.specs.Prelude.{◌≡◌, List, [], ◌∷◌, ◌++◌, ℕ, ◌+◌, ◌-◌, ◌≤◌, take, Result, Ok, Err, Option, Some, None}
use Rattle.std.proofs.Common.{arith}
use Rattle.std.proofs.Math.ListN.{length, drop}
use Rattle.timecode.specs.Laws.Checks.{Taken}
use Rattle.report_log.specs.Checks.{Valid}
use Rattle.report_log.specs.declared.Report.{Report}
use Rattle.report_log.specs.Log.{no_report, record_of, log_after, write_log, log_left, next_place}
use Rattle.report_log.specs.Logs.{AllValid}

-- ---- the answer

-- the place is in the log and the report in its ranges
pub record Allowed (log : List ℕ) (at : ℕ) (r : Report) : Type 0 where
  pub place : at ≤ length log
  pub valid : Valid r

pub no-path : ◌≡◌ {A = ℕ} 0 1 → ⊥
no-path z = omega arith

pub next : (n : ℕ) → Taken Err (next_place n)
next n x h = no-path cc

-- the record fits: the next place is behind it
pub record Put (log : List ℕ) (at : ℕ) (p r : Report) (n : ℕ) : Type 0 where
  pub allowed : Allowed log at r
  pub room : at + length (record_of p r) ≤ length log
  pub next : n ≡ at + length (record_of p r)

-- the lent log, the next place and the last report put in
pub record Recorder : Type 0 where
  pub log : List ℕ
  pub place : ℕ
  pub last : Report

abbrev pub after : Result (Option ℕ) Refusal → Recorder → Report → Recorder
after (Ok (Some n)) s r = record { log = log_left s.log s.place s.last r; place = n; last = r }
after (Ok None) s r = record { log = log_left s.log s.place s.last r; place = s.place; last = s.last }
after (Err x) s r = record { log = log_left s.log s.place s.last r; place = s.place; last = s.last }

unfoldable pub recorded : Recorder → List Report → Recorder
recorded s [] = s
recorded s (r ∷ rs) = recorded (after (write_log s.log s.place s.last r) s r) rs

abbrev pub with_put : Result (Option ℕ) Refusal → Report → List Report → List Report
with_put (Ok (Some n)) r rs = r ∷ rs
with_put (Ok None) r rs = rs
with_put (Err x) r rs = rs

-- the reports put in
unfoldable pub put_in : Recorder → List Report → List Report
put_in s [] = []
put_in s (r ∷ rs) = with_put (write_log s.log s.place s.last r) r (put_in (after (write_log s.log s.place s.last r) s r) rs)

pub record Kept (s : Recorder) (rs : List Report) : Type 0 where
  pub inside : (recorded s rs).place ≤ length (recorded s rs).log
  pub valid : AllValid (put_in s rs)
  pub log_is : take (recorded s rs).place (recorded s rs).log ≡ take s.place s.log ++ log_after s.last (put_in s rs)
  pub rest_is : drop (recorded s rs).place (recorded s rs).log ≡ drop (recorded s rs).place s.log
  pub further : s.place ≤ (recorded s rs).place

-- From an empty log in any lent buffer: what stands before the next place is the log of the reports put in, it is read as these, and the rest of the buffer is as it was.
abbrev pub empty_in : List ℕ → Recorder
empty_in buffer = record { log = buffer; place = 0; last = no_report }
