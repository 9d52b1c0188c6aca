-- Document 02's claims for the log, over whole lists of reports: write and read are inverse, one list has one log, none exactly at the end.
use Rattle.std.specs.Prelude.{◌≡◌, List, [], ◌∷◌, ℕ}
use Rattle.report_log.specs.Checks.{Valid}
use Rattle.report_log.specs.declared.Report.{Report}
use Rattle.report_log.specs.Log.{read_log, record_read, log_end}

-- every report passes 2, 17 and 9
abbrev pub AllValid : List Report → Type 0
AllValid [] = Unit
AllValid (r ∷ rs) = Valid r × AllValid rs

-- From a place, after the report p, the log is read as these reports, one after another, and then its end is met.
abbrev pub ReadsAs : List ℕ → ℕ → Report → List Report → Type 0
ReadsAs log at p [] = read_log log at p ≡ log_end
ReadsAs log at p (r ∷ rs) = (next : ℕ) × (read_log log at p ≡ record_read r next) × ReadsAs log next r rs

-- ---- none exactly at the log's end
