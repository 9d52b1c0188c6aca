-- The ranges of a report: a report that passes 2, 17 and 9, and the chain of these checks before any answer.
use Rattle.std.specs.Prelude.{◌≡◌, true, leb}
use Rattle.timecode.specs.Formats.{last_day, last_year, in_range}
use Rattle.report_log.specs.Log.{is_control}
use Rattle.report_log.specs.declared.Report.{Report}

pub record Valid (r : Report) : Type 0 where
  pub time : in_range last_day r.time ≡ true
  pub year : leb r.time.year last_year ≡ true
  pub control : is_control r.control ≡ true
