-- Worked rows for what no theorem fixes: the order of the bytes and of the map's bits, the ranges, the numbers and their order. What each call says; one theorem holds of all.
use Rattle.std.specs.Prelude.{◌≡◌, refl}
use Rattle.timecode.specs.Formats.{in_range}
use Rattle.report_log.specs.Log.{bytes_of, number_in, fields_of, map_of, changed_of, record_of, log_after, log_of, size_of, read_fields, report_in, all_differ, read_record, read_log, fit_of, write_log, put_at, log_left}
use Rattle.report_log.specs.Rows.{rows, asked, answered}

pub log-rows : asked rows ≡ answered rows
unfolding rows log_of log_after record_of fields_of map_of changed_of bytes_of read_log read_record size_of read_fields report_in all_differ number_in write_log fit_of put_at log_left in_range
log-rows = refl
