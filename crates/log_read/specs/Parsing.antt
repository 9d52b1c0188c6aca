-- The report in a record, and each way out of reading one.
use Rattle.report_log.specs.declared.Record.{Record}
use Rattle.timecode.specs.Answers.{done}
use Rattle.std.specs.Prelude.{◌≡◌, refl, cond, ◌&&◌, List, ℕ, ◌+◌, ◌-◌, ◌/◌, ◌<◌, ◌≤◌, ltb, eqb, get_or, length, take, drop, Result, Err, Option}
use Rattle.std.proofs.Common.{sym, ap, ◌∙◌, arith, length-drop, drop-drop, get_or-drop, take_all}
use borrow.Author.Tests.{eq-eqb, ne_eqb, le-leb, lt-leb}
use Rattle.timecode.specs.declared.Refusal.{Refusal}
use Rattle.timecode.specs.declared.Refusal.TheVariants.{StartPastEnd, RecordCutShort, InvalidRecord}
use Rattle.report_log.specs.declared.Report.{Report}
use Rattle.report_log.proofs.Checks.{report-passes, report-refused}
use Rattle.report_log.specs.Log.{number_in, fields_of, map_of, stands, size_of, read_fields, report_in, all_differ, check_report, fields_after, read_record, read_log, record_read, log_end}
use Rattle.report_log.proofs.Logs.{none-exactly-at-end, inside-read}
use Rattle.report_log.specs.Numbers.{Bytes}
use Rattle.report_log.proofs.Records.{proper-map}

-- the bytes of the four fields
pub four-sizes : (p : Report) (m : ℕ) → size_of (fields_after p) m ≡ cond (stands m) 2 0 + (cond (stands (m / 2)) 3 0 + (cond (stands (m / 2 / 2)) 6 0 + (cond (stands (m / 2 / 2 / 2)) 1 0 + 0)))
unfolding size_of fields_of
four-sizes p m = refl

-- the four fields, each at its place
pub record Parts (part : List ℕ) (p : Report) (m second third fourth : ℕ) (day hundredths control year : ℕ) : Type 0 where
  pub second_at : second ≡ 1 + cond (stands m) 2 0
  pub third_at : third ≡ second + cond (stands (m / 2)) 3 0
  pub fourth_at : fourth ≡ third + cond (stands (m / 2 / 2)) 6 0
  pub day_is : day ≡ cond (stands m) (number_in (take 2 (drop 1 part))) p.time.day
  pub hundredths_is : hundredths ≡ cond (stands (m / 2)) (number_in (take 3 (drop second part))) p.time.hundredths
  pub control_is : control ≡ cond (stands (m / 2 / 2)) (number_in (take 6 (drop third part))) p.control
  pub year_is : year ≡ cond (stands (m / 2 / 2 / 2)) (number_in (take 1 (drop fourth part))) p.time.year

behind : (part : List ℕ) (a k b : ℕ) → b ≡ a + k → drop k (drop a part) ≡ drop b part
behind part a k b e = drop-drop k a part ∙ ap (λ (n : ℕ). drop n part) (sym e)

pub report-read : {part : List ℕ} {p : Report} {m second third fourth day hundredths control year : ℕ} → Parts part p m second third fourth day hundredths control year
    → ◌≡◌ {A = Report} (record { time = record { year = year; day = day; hundredths = hundredths }; control = control }) (report_in (read_fields (fields_after p) m (drop 1 part)))
unfolding report_in read_fields fields_of
report-read {part} {p} {m} {second} {third} {fourth} s =
    let to-second = behind part 1 (cond (stands m) 2 0) second s.second_at in
    let to-third = ap (drop (cond (stands (m / 2)) 3 0)) to-second ∙ behind part second (cond (stands (m / 2)) 3 0) third s.third_at in
    let to-fourth = ap (drop (cond (stands (m / 2 / 2)) 6 0)) to-third ∙ behind part third (cond (stands (m / 2 / 2)) 6 0) fourth s.fourth_at in
    rw (to-fourth, to-third, to-second, s.year_is, s.control_is, s.hundredths_is, s.day_is)

-- ---- each way out

module _ (p : Report) (part : List ℕ) (at size : ℕ) (sized : (q : Report) → size ≡ 1 + size_of (fields_after q) (get_or part 0 0)) where
  abbrev map : ℕ
  map = get_or part 0 0

  abbrev report : Report
  report = report_in (read_fields (fields_after p) map (drop 1 part))

  pub read_short : length part < size → Err RecordCutShort ≡ read_record p part at
  unfolding read_record
  read_short h = rw (← sized p, lt-leb size (length part) h)

  module _ (own : Bytes part) (room : size ≤ length part) where
    rest-bytes : Bytes (drop 1 part)
    rest-bytes i = rw (get_or-drop 1 part i 0) (own (1 + i))

    proper : (ltb map 16 && all_differ (read_fields (fields_after p) map (drop 1 part)) map) ≡ eqb map (map_of (fields_of p report))
    proper = proper-map p map (drop 1 part) rest-bytes (omega (arith, sized p, length-drop 1 part))

    improper : (map ≡ map_of (fields_of p report) → ⊥) → Err InvalidRecord ≡ read_record p part at
    unfolding read_record
    improper n = rw (← sized p, le-leb size (length part) room, proper, ne_eqb map (map_of (fields_of p report)) n)

    passed : map ≡ map_of (fields_of p report) → check_report Err report done ≡ done → record_read report (at + size) ≡ read_record p part at
    unfolding read_record
    passed e all =
        let whole = report-passes Err (record_read report (at + size)) report all in
        rw (← sized p, le-leb size (length part) room, proper, eq-eqb map (map_of (fields_of p report)) e) (sym whole)

    refused : map ≡ map_of (fields_of p report) → (x : Refusal) → check_report Err report done ≡ Err x → Err x ≡ read_record p part at
    unfolding read_record
    refused e x none =
        let whole = report-refused Err (record_read report (at + size)) report x none in
        rw (← sized p, le-leb size (length part) room, proper, eq-eqb map (map_of (fields_of p report)) e) (sym whole)

    module _ (q : Report) (is : q ≡ report) where
      pub read-improper : (map ≡ map_of (fields_of p q) → ⊥) → Err InvalidRecord ≡ read_record p part at
      read-improper n = improper (λ e. n (rw is e))

      pub read-passed : map ≡ map_of (fields_of p q) → check_report Err q done ≡ done → record_read q (at + size) ≡ read_record p part at
      read-passed e all = rw is (passed (rw is at e) (rw is at all))

      pub read-refused : map ≡ map_of (fields_of p q) → (x : Refusal) → check_report Err q done ≡ Err x → Err x ≡ read_record p part at
      read-refused e x none = refused (rw is at e) x (rw is at none)

pub read_past : (log : List ℕ) (at : ℕ) (p : Report) → length log < at → Err StartPastEnd ≡ read_log log at p
unfolding read_log
read_past log at p h = rw (lt-leb at (length log) h)

pub read-end : (log : List ℕ) (at : ℕ) (p : Report) → at ≡ length log → log_end ≡ read_log log at p
read-end log at p e = sym ((none-exactly-at-end log at p).1 e)

pub read-inside : (log : List ℕ) (at : ℕ) (p : Report) (answer : Result (Option Record) Refusal) → at ≤ length log → (at ≡ length log → ⊥) → answer ≡ read_record p (take (length log - at) (drop at log)) at → answer ≡ read_log log at p
read-inside log at p answer h n e =
    e
    ∙ ap (λ (part : List ℕ). read_record p part at) (take_all (length log - at) (drop at log) (omega (arith, length-drop at log)))
    ∙ sym (inside-read log at p (omega arith))
