-- One record written and read: what is written is read as it was, and what is read was written so.
use Rattle.std.specs.Prelude.{◌≡◌, refl, true, ◌&&◌, List, [], ◌∷◌, ◌++◌, ℕ, suc, ◌+◌, ◌^◌, ◌<◌, ◌≤◌, leb, ltb, eqb, length, take, Result, Ok, Err, Option, Some, None}
use Rattle.std.proofs.Common.{sym, ap, ◌∙◌, subst, arith, leb-true, ltb-true, le-leb, lt-ltb, eq-eqb, ne_eqb, length-append, take-append-drop, length-take-le}
use Rattle.timecode.specs.Formats.{last_day, last_hundredth, last_year, in_range}
use Rattle.timecode.specs.Laws.Checks.{Taken}
use Rattle.timecode.proofs.Laws.Checks.{all-passed}
use Rattle.timecode.proofs.Laws.Tests.{by-test, clash, and_left, and_right}
use Rattle.timecode.specs.declared.Refusal.TheVariants.{RecordCutShort, InvalidRecord}
use Rattle.report_log.specs.Checks.{Valid}
use Rattle.report_log.proofs.Checks.{ranges-passed, valid-passes}
use Rattle.report_log.specs.declared.Record.{Record}
use Rattle.timecode.specs.declared.Refusal.{Refusal}
use Rattle.report_log.specs.declared.Report.{Report}
use Rattle.report_log.specs.Log.{Field, no_report, fields_of, map_of, changed_of, record_of, size_of, read_fields, report_in, all_differ, check_report, fields_after, read_record, record_read}
use Rattle.report_log.specs.Numbers.{Bytes}
use Rattle.report_log.specs.Fields.{Fit}
use Rattle.report_log.proofs.Fields.{map_below, size-said, fields-said, differ-said, fields_read}
use Rattle.report_log.specs.Records.{Found}

pub valid-fits : (p r : Report) → Valid r → Fit (fields_of p r)
unfolding fields_of in_range
valid-fits p r v =
    let d = and_right (leb 1 r.time.day) (leb r.time.day last_day && leb r.time.hundredths last_hundredth) v.time in
    let day = leb-true r.time.day last_day (and_left (leb r.time.day last_day) (leb r.time.hundredths last_hundredth) d) in
    let c = leb-true r.time.hundredths last_hundredth (and_right (leb r.time.day last_day) (leb r.time.hundredths last_hundredth) d) in
    let w = ltb-true r.control (2 ^ 48) v.control in
    let y = leb-true r.time.year last_year v.year in
    (omega arith, (omega arith, (omega arith, (omega arith, tt))))

-- ---- what is written is read

size_is : (p r : Report) → size_of (fields_after p) (map_of (fields_of p r)) ≡ length (changed_of (fields_of p r))
unfolding fields_of
size_is p r = size-said (fields_of p r)

pub record-size-is : (p r : Report) → 1 + size_of (fields_after p) (map_of (fields_of p r)) ≡ length (record_of p r)
unfolding record_of
record-size-is p r = omega (arith, size_is p r)

fields-are : (p r : Report) → Valid r → (rest : List ℕ) → read_fields (fields_after p) (map_of (fields_of p r)) (changed_of (fields_of p r) ++ rest) ≡ fields_of p r
unfolding fields_of
fields-are p r v rest = fields-said (fields_of p r) (valid-fits p r v) rest

pub report-is : (p r : Report) → report_in (fields_of p r) ≡ r
unfolding report_in fields_of
report-is p r = refl

pub map-small : (p r : Report) → map_of (fields_of p r) < 16
unfolding fields_of
map-small p r = map_below (fields_of p r)

pub record-said : (p r : Report) → Valid r → (rest : List ℕ) (at : ℕ) → read_record p (record_of p r ++ rest) at ≡ record_read r (at + length (record_of p r))
unfolding read_record record_of
record-said p r v rest at =
    let fs = fields_of p r in
    let room : 1 + length (changed_of fs) ≤ suc (length (changed_of fs ++ rest)) = omega (arith, length-append (changed_of fs) rest) in
    let long : 1 + length (changed_of fs) ≡ suc (length (changed_of fs)) = omega arith in
    rw (
      size_is p r,
      le-leb (1 + length (changed_of fs)) (suc (length (changed_of fs ++ rest))) room,
      fields-are p r v rest,
      lt-ltb (map_of fs) 16 (map-small p r),
      differ-said fs,
      report-is p r,
      valid-passes Err r (record_read r (at + (1 + length (changed_of fs)))) v,
      long,
    )

-- ---- what is read was written

no-path : ◌≡◌ {A = ℕ} 0 1 → ⊥
no-path z = omega arith

-- a record that is read is no refusal
pub found : (r : Report) (n : ℕ) → Taken Err (record_read r n)
found r n x h = no-path cc

fields-again : (p : Report) (m : ℕ) (bytes : List ℕ) → fields_of p (report_in (read_fields (fields_after p) m bytes)) ≡ read_fields (fields_after p) m bytes
unfolding fields_of report_in read_fields
fields-again p m bytes = refl

found_at : (p : Report) (b : ℕ) (bs : List ℕ) (at : ℕ) (r : Report) (n : ℕ) (fs : List Field) → Valid r → fields_of p r ≡ fs → map_of fs ≡ b → (k : ℕ) → changed_of fs ≡ take k bs → length (changed_of fs) ≡ k → n ≡ at + (1 + k) → Found p (b ∷ bs) at r n
unfolding record_of
found_at p b bs at r n fs v e m k c l s =
    record {
      valid = v;
      stands = rw (e, m, l, c) (ap (λ (xs : List ℕ). b ∷ xs) (sym (take-append-drop k bs)));
      next = rw (e, l) (s ∙ ap (λ (x : ℕ). at + x) (let z : 1 + k ≡ suc k = omega arith in z));
    }

length_fields : (p : Report) → length (fields_of p p) ≡ 4
unfolding fields_of
length_fields p = refl

-- what reading gives, and else a record that nothing asks for
abbrev pub what_is_read : Result (Option Record) Refusal → Record
what_is_read (Ok (Some found)) = found
what_is_read (Ok None) = record { report = no_report; next = 0 }
what_is_read (Err x) = record { report = no_report; next = 0 }

-- two records that are read and are equal have the same report and the same next place
pub same_record : (q r : Report) (m n : ℕ) → record_read q m ≡ record_read r n → (q ≡ r) × (m ≡ n)
same_record q r m n e = (ap (λ (x : Result (Option Record) Refusal). (what_is_read x).report) e, ap (λ (x : Result (Option Record) Refusal). (what_is_read x).next) e)

pub record-read : (p : Report) (bytes : List ℕ) (at : ℕ) (r : Report) (n : ℕ) → Bytes bytes → 1 ≤ length bytes → read_record p bytes at ≡ record_read r n → Found p bytes at r n
unfolding read_record
record-read p [] at r n own some h = absurd (omega arith)
record-read p (b ∷ bs) at r n own some h =
    let size = size_of (fields_after p) b in
    let fs = read_fields (fields_after p) b bs in
    let q = report_in fs in
    let last = record_read q (at + (1 + size)) in
    let first = all-passed Err ((RecordCutShort, leb (1 + size) (suc (length bs))) ∷ (InvalidRecord, ltb b 16 && all_differ fs b) ∷ []) (check_report Err q last) (record_read r n) (found r n) h in
    let ranges = ranges-passed Err q last (record_read r n) (found r n) first.1 in
    let room : size ≤ length bs = omega (arith, leb-true (1 + size) (suc (length bs)) (first.0 0)) in
    let low = ltb-true b 16 (and_left (ltb b 16) (all_differ fs b) (first.0 1)) in
    let read = fields_read (fields_after p) b bs (rw (length_fields p) low) room (λ i. own (suc i)) (and_right (ltb b 16) (all_differ fs b) (first.0 1)) in
    let same : q ≡ r = (same_record q r (at + (1 + size)) n ranges.1).0 in
    found_at p b bs at r n fs (subst Valid same ranges.0) (ap (fields_of p) (sym same) ∙ fields-again p b bs) read.map_is size read.changed_is (ap length read.changed_is ∙ length-take-le size bs room) (sym (same_record q r (at + (1 + size)) n ranges.1).1)

-- ---- number 20: the map is that of the report that is read, and of no other

map-of-fields : (p : Report) (m : ℕ) (bytes : List ℕ) → Bytes bytes → size_of (fields_after p) m ≤ length bytes → (ltb m 16 && all_differ (read_fields (fields_after p) m bytes) m) ≡ true → map_of (read_fields (fields_after p) m bytes) ≡ m
map-of-fields p m bytes own room h =
    (fields_read (fields_after p) m bytes (rw (length_fields p) (ltb-true m 16 (and_left (ltb m 16) (all_differ (read_fields (fields_after p) m bytes) m) h))) room own (and_right (ltb m 16) (all_differ (read_fields (fields_after p) m bytes) m) h)).map_is

fields-of-map : (m : ℕ) (fs : List Field) → length fs ≡ 4 → m ≡ map_of fs → (ltb m 16 && all_differ fs m) ≡ true
fields-of-map m fs four e = rw (e, lt-ltb (map_of fs) 16 (rw four at (map_below fs))) (differ-said fs)

length-read : (p : Report) (m : ℕ) (bytes : List ℕ) → length (read_fields (fields_after p) m bytes) ≡ 4
unfolding fields_of read_fields
length-read p m bytes = refl

pub proper-map : (p : Report) (m : ℕ) (bytes : List ℕ) → Bytes bytes → size_of (fields_after p) m ≤ length bytes → (ltb m 16 && all_differ (read_fields (fields_after p) m bytes) m) ≡ eqb m (map_of (fields_of p (report_in (read_fields (fields_after p) m bytes))))
proper-map p m bytes own room =
    let fs = read_fields (fields_after p) m bytes in
    rw (fields-again p m bytes)
    (by-test (ltb m 16 && all_differ fs m)
    (λ y. y ∙ sym (eq-eqb m (map_of fs) (sym (map-of-fields p m bytes own room y))))
    (λ n. n ∙ sym (ne_eqb m (map_of fs) (λ e. clash (fields-of-map m fs (length-read p m bytes) e) n))))
