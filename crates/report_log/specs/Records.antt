-- One record written and read: what is written is read as it was, and what is read was written so.
use Rattle.std.specs.Prelude.{◌≡◌, List, ◌++◌, ℕ, ◌+◌, length, drop}
use Rattle.report_log.specs.Checks.{Valid}
use Rattle.report_log.specs.declared.Report.{Report}
use Rattle.report_log.specs.Log.{record_of}

-- the bytes begin with the record of the report, and the next place is behind it
pub record Found (p : Report) (bytes : List ℕ) (at : ℕ) (r : Report) (n : ℕ) : Type 0 where
  pub valid : Valid r
  pub stands : bytes ≡ record_of p r ++ drop (length (record_of p r)) bytes
  pub next : n ≡ at + length (record_of p r)
