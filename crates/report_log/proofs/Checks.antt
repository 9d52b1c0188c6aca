-- The ranges of a report: a report that passes 2, 17 and 9, and the chain of these checks before any answer.
use Rattle.timecode.specs.Answers.{done}
use Rattle.std.specs.Prelude.{◌≡◌, Err}
use Rattle.timecode.specs.Laws.Checks.{Taken}
use Rattle.timecode.proofs.Laws.Checks.{all-passed, done-passes, done_refused}
use Rattle.timecode.specs.declared.Refusal.{Refusal}
use Rattle.report_log.specs.Log.{report_checks, check_report}
use Rattle.report_log.specs.declared.Report.{Report}
use Rattle.report_log.specs.Checks.{Valid}

pub ranges-passed : {Any : Type 0} (refused : Refusal → Any) (r : Report) (answer x : Any) → Taken refused x → check_report refused r answer ≡ x → Valid r × (answer ≡ x)
ranges-passed refused r answer x t h =
    let all = all-passed refused (report_checks r) answer x t h in
    (record { time = all.0 0; year = all.0 1; control = all.0 2 }, all.1)

pub valid-passes : {Any : Type 0} (refused : Refusal → Any) (r : Report) (answer : Any) → Valid r → check_report refused r answer ≡ answer
valid-passes refused r answer v = rw (v.time, v.year, v.control)

-- ---- checked once for every kind of answer

pub report-passes : {Any : Type 0} (refused : Refusal → Any) (answer : Any) (r : Report) → check_report Err r done ≡ done → check_report refused r answer ≡ answer
report-passes refused answer r h = done-passes refused (report_checks r) answer h

pub report-refused : {Any : Type 0} (refused : Refusal → Any) (answer : Any) (r : Report) (x : Refusal) → check_report Err r done ≡ Err x → check_report refused r answer ≡ refused x
report-refused refused answer r x h = done_refused refused (report_checks r) answer x h
