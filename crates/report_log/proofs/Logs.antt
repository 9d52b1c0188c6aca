-- Document 02's claims for the log, over whole lists of reports: write and read are inverse, one list has one log, none exactly at the end.
use Rattle.std.specs.Prelude.{◌≡◌, refl, cond, ◌&&◌, List, [], ◌∷◌, ◌++◌, ◌↔◌, ℕ, ◌+◌, ◌<◌, ◌≤◌, leb, ltb, eqb, get_or, length, drop, Err}
use Rattle.std.proofs.Common.{sym, ap, ap₂, ◌∙◌, subst, append_assoc, append-nil, arith, leb-true, eqb-true, le-leb, eq-eqb, ne_eqb, length-append, length-drop, drop-drop, get_or-drop}
use Rattle.std.proofs.lemmas.Bool.{eqb-false}
use Rattle.std.proofs.Math.Seq.{drop-append_seam, drop-length}
use Rattle.timecode.specs.Laws.Checks.{Taken}
use Rattle.timecode.proofs.Laws.Checks.{passed, all-passed}
use Rattle.timecode.proofs.Laws.Tests.{by-test}
use Rattle.timecode.specs.declared.Refusal.TheVariants.{StartPastEnd, RecordCutShort, InvalidRecord}
use Rattle.report_log.specs.declared.Report.{Report}
use Rattle.report_log.specs.Log.{no_report, record_of, log_after, log_of, size_of, read_fields, report_in, all_differ, fields_after, read_record, read_log, report_checks, record_read, log_end}
use Rattle.report_log.specs.Numbers.{Bytes}
use Rattle.report_log.specs.Records.{Found}
use Rattle.report_log.proofs.Records.{found, same_record, record-said, record-read}
use Rattle.report_log.specs.Logs.{AllValid, ReadsAs}

no-path : ◌≡◌ {A = ℕ} 0 1 → ⊥
no-path z = omega arith

none : Taken Err log_end
none x h = no-path cc

record-some : (p : Report) (bytes : List ℕ) (at : ℕ) → read_record p bytes at ≡ log_end → ⊥
unfolding read_record
record-some p bytes at h =
    let map = get_or bytes 0 0 in
    let size = 1 + size_of (fields_after p) map in
    let fs = read_fields (fields_after p) map (drop 1 bytes) in
    let q = report_in fs in
    no_record q (at + size) (all-passed Err ((RecordCutShort, leb size (length bytes)) ∷ (InvalidRecord, ltb map 16 && all_differ fs map) ∷ report_checks q) (record_read q (at + size)) log_end none h).1
  where
    no_record : (q : Report) (n : ℕ) → record_read q n ≡ log_end → ⊥
    no_record q n e = no-path cc

at-end : (log : List ℕ) (at : ℕ) (p : Report) → read_log log at p ≡ log_end → at ≡ length log
unfolding read_log
at-end log at p h =
    let after = passed Err StartPastEnd (leb at (length log)) (cond (eqb at (length log)) log_end (read_record p (drop at log) at)) log_end none h in
    by-test (eqb at (length log)) (λ y. eqb-true at (length log) y) (λ n. absurd (record-some p (drop at log) at (rw n at after.1)))

end_read : (log : List ℕ) (at : ℕ) (p : Report) → at ≡ length log → read_log log at p ≡ log_end
unfolding read_log
end_read log at p e = rw (le-leb at (length log) (omega arith), eq-eqb at (length log) e)

pub none-exactly-at-end : (log : List ℕ) (at : ℕ) (p : Report) → (read_log log at p ≡ log_end) ↔ (at ≡ length log)
none-exactly-at-end log at p = (at-end log at p, end_read log at p)

-- ---- reading before the end

pub inside-read : (log : List ℕ) (at : ℕ) (p : Report) → at < length log → read_log log at p ≡ read_record p (drop at log) at
unfolding read_log
inside-read log at p h = rw (le-leb at (length log) (omega arith), ne_eqb at (length log) (λ e. omega arith))

report-inside : (log : List ℕ) (at : ℕ) (p r : Report) (n : ℕ) → read_log log at p ≡ record_read r n → at < length log
unfolding read_log
report-inside log at p r n h =
    let c = passed Err StartPastEnd (leb at (length log)) (cond (eqb at (length log)) log_end (read_record p (drop at log) at)) (record_read r n) (found r n) h in
    by-test (eqb at (length log))
    (λ y. let none : log_end ≡ record_read r n = rw y at c.1 in absurd (no-path cc))
    (λ m. omega (arith, leb-true at (length log) c.0, eqb-false at (length log) m))

pub report-found : (log : List ℕ) (at : ℕ) (p r : Report) (n : ℕ) → Bytes log → read_log log at p ≡ record_read r n → Found p (drop at log) at r n
report-found log at p r n own h =
    let inside = report-inside log at p r n h in
    record-read p (drop at log) at r n (λ i. rw (get_or-drop at log i 0) (own (at + i))) (omega (arith, length-drop at log)) (sym (inside-read log at p inside) ∙ h)

-- ---- what is written is read: the log of valid reports, behind whatever stands before it

record-long : (p r : Report) → 1 ≤ length (record_of p r)
unfolding record_of
record-long p r = omega arith

pub written-reads : (p : Report) (front : List ℕ) (rs : List Report) → AllValid rs → ReadsAs (front ++ log_after p rs) (length front) p rs
unfolding log_after
written-reads p front [] v = end_read (front ++ []) (length front) p (sym (ap length (append-nil front)))
written-reads p front (r ∷ rs) v =
    let own = record_of p r in
    let log = front ++ (own ++ log_after r rs) in
    let behind : drop (length front) log ≡ own ++ log_after r rs = drop-append_seam front (own ++ log_after r rs) in
    let inside : length front < length log = omega (arith, length-append front (own ++ log_after r rs), length-append own (log_after r rs), record-long p r) in
    let first : read_log log (length front) p ≡ record_read r (length front + length own) = inside-read log (length front) p inside ∙ rw behind (record-said p r v.0 (log_after r rs) (length front)) in
    let more : ReadsAs ((front ++ own) ++ log_after r rs) (length (front ++ own)) r rs = written-reads r (front ++ own) rs v.1 in
    (length front + length own, first, rw (append_assoc front own (log_after r rs), length-append front own) at more)

-- ---- what is read was written

read-written : (log : List ℕ) → Bytes log → (at : ℕ) (p : Report) (rs : List Report) → ReadsAs log at p rs → (drop at log ≡ log_after p rs) × AllValid rs
unfolding log_after
read-written log own at p [] h = (rw (at-end log at p h) (drop-length log), tt)
read-written log own at p (r ∷ rs) h =
    let found = report-found log at p r h.0 own h.1 in
    let more = read-written log own h.0 r rs h.2 in
    let rest : drop (length (record_of p r)) (drop at log) ≡ log_after r rs = drop-drop (length (record_of p r)) at log ∙ ap (λ (k : ℕ). drop k log) (sym found.next) ∙ more.0 in
    (found.stands ∙ ap (λ (xs : List ℕ). record_of p r ++ xs) rest, (found.valid, more.1))

-- From an empty log, write and read are inverse over the reports put in: a log of bytes reads as a list exactly if the list is valid and the log is its log.
pub inverse : (log : List ℕ) → Bytes log → (rs : List Report) → ReadsAs log 0 no_report rs ↔ (AllValid rs × (log ≡ log_of rs))
unfolding log_of
inverse log own rs = (
  λ h. let w = read-written log own 0 no_report rs h in (w.1, w.0),
  λ v. subst (λ (l : List ℕ). ReadsAs l 0 no_report rs) (sym v.1) (written-reads no_report [] rs v.0),
)

-- One list has one log: two logs that read as one list are the same.
pub one-log : (l m : List ℕ) → Bytes l → Bytes m → (rs : List Report) → ReadsAs l 0 no_report rs → ReadsAs m 0 no_report rs → l ≡ m
one-log l m own other rs h k = ((inverse l own rs).0 h).1 ∙ sym ((inverse m other rs).0 k).1

-- And one log has one list.
pub one_list : (log : List ℕ) (at : ℕ) (p : Report) (rs ss : List Report) → ReadsAs log at p rs → ReadsAs log at p ss → rs ≡ ss
one_list log at p [] [] h k = refl
one_list log at p [] (s ∷ ss) h k = absurd (no-path (cc (h, k.1)))
one_list log at p (r ∷ rs) [] h k = absurd (no-path (cc (k, h.1)))
one_list log at p (r ∷ rs) (s ∷ ss) h k =
    let same = same_record r s h.0 k.0 (sym h.1 ∙ k.1) in
    let again : ReadsAs log h.0 r ss = rw (same.1, same.0) k.2 in
    ap₂ (λ (x : Report) (xs : List Report). x ∷ xs) same.0 (one_list log h.0 r rs ss h.2 again)

pub log-told : (rs ss : List Report) → AllValid rs → AllValid ss → log_of rs ≡ log_of ss → rs ≡ ss
unfolding log_of
log-told rs ss v w e =
    one_list (log_of rs) 0 no_report rs ss (written-reads no_report [] rs v) (subst (λ (l : List ℕ). ReadsAs l 0 no_report ss) (sym e) (written-reads no_report [] ss w))
