-- Document 02's claims for the log writer: one record put in the middle of a lent log, and any list of reports that it is called with.
use Rattle.std.specs.Prelude.{◌≡◌, refl, Bool, true, false, cond, not, List, [], ◌∷◌, ◌++◌, ◌↔◌, ℕ, ◌+◌, ◌-◌, ◌<◌, ◌≤◌, leb, eqb, take, Result, Ok, Err, Option, Some, None}
use Rattle.std.proofs.Common.{sym, ap, ap₂, ◌∙◌, subst, append_assoc, append-nil, arith, leb-true, leb-false, le-leb, drop-drop, take-add, length-take-le}
use Rattle.std.proofs.lemmas.Bool.{lt-leb}
use Rattle.std.proofs.Math.ListN.{length, drop, length-append, length-drop}
use Rattle.std.proofs.Math.Seq.{take_at, drop_at}
use Rattle.timecode.specs.Laws.Checks.{Taken}
use Rattle.timecode.proofs.Laws.Checks.{passed}
use Rattle.timecode.proofs.Laws.Tests.{by-test}
use Rattle.timecode.specs.declared.Refusal.{Refusal}
use Rattle.timecode.specs.declared.Refusal.TheVariants.{StartPastEnd}
use Rattle.report_log.proofs.Checks.{ranges-passed, valid-passes}
use Rattle.report_log.specs.declared.Report.{Report}
use Rattle.report_log.specs.Log.{bytes_of, fields_of, no_report, changed_of, record_of, log_after, log_of, check_report, fit_of, write_log, put_at, log_left, next_place, left_out}
use Rattle.report_log.specs.Logs.{ReadsAs}
use Rattle.report_log.proofs.Logs.{written-reads}
use Rattle.report_log.proofs.Numbers.{length-bytes}
use Rattle.report_log.specs.Writing.{Allowed, no-path, next, Put, Recorder, after, recorded, with_put, put_in, Kept, empty_in}

-- ---- the answer

left : Taken Err left_out
left x h = no-path cc

allowed-answer : (log : List ℕ) (at : ℕ) (p r : Report) → Allowed log at r → write_log log at p r ≡ fit_of log at (record_of p r)
unfolding write_log
allowed-answer log at p r t = rw (le-leb at (length log) t.place) (valid-passes Err r (fit_of log at (record_of p r)) t.valid)

allowed-by : (log : List ℕ) (at : ℕ) (p r : Report) (x : Result (Option ℕ) Refusal) → Taken Err x → write_log log at p r ≡ x → Allowed log at r × (fit_of log at (record_of p r) ≡ x)
unfolding write_log
allowed-by log at p r x t h =
    let answer = fit_of log at (record_of p r) in
    let c12 = passed Err StartPastEnd (leb at (length log)) (check_report Err r answer) x t h in
    let ranges = ranges-passed Err r answer x t c12.1 in
    (record { place = leb-true at (length log) c12.0; valid = ranges.0 }, ranges.1)

fit_next : (log : List ℕ) (at : ℕ) (own : List ℕ) (n : ℕ) → fit_of log at own ≡ next_place n → (at + length own ≤ length log) × (n ≡ at + length own)
unfolding fit_of
fit_next log at own n h =
    by-test (leb (at + length own) (length log))
    (λ y. let e : next_place (at + length own) ≡ next_place n = rw y at h in (leb-true (at + length own) (length log) y, cc))
    (λ m. let e : left_out ≡ next_place n = rw m at h in absurd (no-path cc))

fit_none : (log : List ℕ) (at : ℕ) (own : List ℕ) → fit_of log at own ≡ left_out → length log < at + length own
unfolding fit_of
fit_none log at own h =
    by-test (leb (at + length own) (length log))
    (λ y. let e : next_place (at + length own) ≡ left_out = rw y at h in absurd (no-path cc))
    (λ m. leb-false (at + length own) (length log) m)

fits_next : (log : List ℕ) (at : ℕ) (own : List ℕ) (n : ℕ) → at + length own ≤ length log → n ≡ at + length own → fit_of log at own ≡ next_place n
unfolding fit_of
fits_next log at own n room e = rw (le-leb (at + length own) (length log) room, e)

fits-none : (log : List ℕ) (at : ℕ) (own : List ℕ) → length log < at + length own → fit_of log at own ≡ left_out
unfolding fit_of
fits-none log at own h = rw (lt-leb (at + length own) (length log) h)

put-by : (log : List ℕ) (at : ℕ) (p r : Report) (n : ℕ) → write_log log at p r ≡ next_place n → Put log at p r n
put-by log at p r n h =
    let t = allowed-by log at p r (next_place n) (next n) h in
    let f = fit_next log at (record_of p r) n t.1 in
    record { allowed = t.0; room = f.0; next = f.1 }

pub next-exactly : (log : List ℕ) (at : ℕ) (p r : Report) (n : ℕ) → (write_log log at p r ≡ next_place n) ↔ Put log at p r n
next-exactly log at p r n = (put-by log at p r n, λ q. allowed-answer log at p r q.allowed ∙ fits_next log at (record_of p r) n q.room q.next)

out-by : (log : List ℕ) (at : ℕ) (p r : Report) → write_log log at p r ≡ left_out → Allowed log at r × (length log < at + length (record_of p r))
out-by log at p r h =
    let t = allowed-by log at p r left_out left h in
    (t.0, fit_none log at (record_of p r) t.1)

-- a record that does not fit is left out and the call says so, exactly then
pub left-out-exactly : (log : List ℕ) (at : ℕ) (p r : Report) → (write_log log at p r ≡ left_out) ↔ (Allowed log at r × (length log < at + length (record_of p r)))
left-out-exactly log at p r = (out-by log at p r, λ q. allowed-answer log at p r q.0 ∙ fits-none log at (record_of p r) q.1)

-- ---- the lent log

-- left out, the log is as it was
pub left-out-leaves : (log : List ℕ) (at : ℕ) (p r : Report) → write_log log at p r ≡ left_out → log_left log at p r ≡ log
unfolding log_left
left-out-leaves log at p r h = rw h

-- refused, the log is as it was
pub refused-leaves : (log : List ℕ) (at : ℕ) (p r : Report) (x : Refusal) → write_log log at p r ≡ Err x → log_left log at p r ≡ log
unfolding log_left
refused-leaves log at p r x h = rw h

put-in : (log : List ℕ) (at : ℕ) (p r : Report) (n : ℕ) → write_log log at p r ≡ next_place n → log_left log at p r ≡ put_at log at (record_of p r)
unfolding log_left
put-in log at p r n h = rw h

module _ (log : List ℕ) (at : ℕ) (own : List ℕ) (room : at + length own ≤ length log) where
  front : length (take at log) ≡ at
  front = length-take-le at log (omega arith)

  put-before : take at (put_at log at own) ≡ take at log
  unfolding put_at
  put-before = take_at (take at log) (own ++ drop (at + length own) log) at front

  put-from : drop at (put_at log at own) ≡ own ++ drop (at + length own) log
  unfolding put_at
  put-from = drop_at (take at log) (own ++ drop (at + length own) log) at front

  put-there : take (length own) (drop at (put_at log at own)) ≡ own
  put-there = rw put-from (take_at own (drop (at + length own) log) (length own) refl)

  put-after : drop (at + length own) (put_at log at own) ≡ drop (at + length own) log
  put-after = sym (drop-drop (length own) at (put_at log at own)) ∙ ap (drop (length own)) put-from ∙ drop_at own (drop (at + length own) log) (length own) refl

  put-long : length (put_at log at own) ≡ length log
  unfolding put_at
  put-long = omega (arith, length-append (take at log) (own ++ drop (at + length own) log), length-append own (drop (at + length own) log), length-drop (at + length own) log, front)

  put_whole : take (at + length own) (put_at log at own) ≡ take at log ++ own
  put_whole = take-add at (length own) (put_at log at own) ∙ ap₂ (λ (xs ys : List ℕ). xs ++ ys) put-before put-there

-- every byte before the place stays, every byte behind the record stays, and the log keeps its length
pub all-else-stays : (log : List ℕ) (at : ℕ) (p r : Report)
    → (take at (log_left log at p r) ≡ take at log) × (drop (at + length (record_of p r)) (log_left log at p r) ≡ drop (at + length (record_of p r)) log) × (length (log_left log at p r) ≡ length log)
all-else-stays log at p r = go (write_log log at p r) refl
  where
    go : (a : Result (Option ℕ) Refusal) → write_log log at p r ≡ a → (take at (log_left log at p r) ≡ take at log) × (drop (at + length (record_of p r)) (log_left log at p r) ≡ drop (at + length (record_of p r)) log) × (length (log_left log at p r) ≡ length log)
    go (Ok (Some n)) e =
        let q = put-by log at p r n e in
        rw (put-in log at p r n e) (put-before log at (record_of p r) q.room, put-after log at (record_of p r) q.room, put-long log at (record_of p r) q.room)
    go (Ok None) e = rw (left-out-leaves log at p r e) (refl, refl, refl)
    go (Err x) e = rw (refused-leaves log at p r x e) (refl, refl, refl)

-- put in, the record stands at the place
pub record-stands : (log : List ℕ) (at : ℕ) (p r : Report) (n : ℕ) → write_log log at p r ≡ next_place n → take (length (record_of p r)) (drop at (log_left log at p r)) ≡ record_of p r
record-stands log at p r n e = rw (put-in log at p r n e) (put-there log at (record_of p r) (put-by log at p r n e).room)

-- ---- a list of reports that the writer is called with, the report before always the last one put in

further-on : (xs ys : List ℕ) (n m : ℕ) → n ≤ m → drop n xs ≡ drop n ys → drop m xs ≡ drop m ys
further-on xs ys n m h e =
    let on : n + (m - n) ≡ m = omega arith in
    rw on at (sym (drop-drop (m - n) n xs) ∙ ap (drop (m - n)) e ∙ drop-drop (m - n) n ys)

after-inside : (s : Recorder) (r : Report) → s.place ≤ length s.log → (a : Result (Option ℕ) Refusal) → write_log s.log s.place s.last r ≡ a → (after a s r).place ≤ length (after a s r).log
after-inside s r h (Ok (Some n)) e = let q = put-by s.log s.place s.last r n e in omega (arith, (all-else-stays s.log s.place s.last r).2, q.room, q.next)
after-inside s r h (Ok None) e = omega (arith, (all-else-stays s.log s.place s.last r).2)
after-inside s r h (Err x) e = omega (arith, (all-else-stays s.log s.place s.last r).2)

recorded-by : (s : Recorder) (r : Report) (rs : List Report) (a : Result (Option ℕ) Refusal) → write_log s.log s.place s.last r ≡ a → recorded s (r ∷ rs) ≡ recorded (after a s r) rs
unfolding recorded
recorded-by s r rs a e = ap (λ (x : Result (Option ℕ) Refusal). recorded (after x s r) rs) e

put-in-by : (s : Recorder) (r : Report) (rs : List Report) (a : Result (Option ℕ) Refusal) → write_log s.log s.place s.last r ≡ a → put_in s (r ∷ rs) ≡ with_put a r (put_in (after a s r) rs)
unfolding put_in
put-in-by s r rs a e = ap (λ (x : Result (Option ℕ) Refusal). with_put x r (put_in (after x s r) rs)) e

kept-turn : (s : Recorder) (r : Report) (rs : List Report) (a : Result (Option ℕ) Refusal) → write_log s.log s.place s.last r ≡ a → Kept (after a s r) rs → Kept s (r ∷ rs)
unfolding log_after
kept-turn s r rs (Ok (Some n)) e k =
    let own = record_of s.last r in
    let q = put-by s.log s.place s.last r n e in
    let left = put-in s.log s.place s.last r n e in
    let whole : take n (log_left s.log s.place s.last r) ≡ take s.place s.log ++ own = rw (left, q.next) (put_whole s.log s.place own q.room) in
    let behind : drop n (log_left s.log s.place s.last r) ≡ drop n s.log = rw (left, q.next) (put-after s.log s.place own q.room) in
    record {
      inside = rw (recorded-by s r rs (next_place n) e) k.inside;
      valid = rw (put-in-by s r rs (next_place n) e) (q.allowed.valid, k.valid);
      log_is = rw (recorded-by s r rs (next_place n) e, put-in-by s r rs (next_place n) e) (k.log_is ∙ ap (λ (xs : List ℕ). xs ++ log_after r (put_in (after (next_place n) s r) rs)) whole ∙ append_assoc (take s.place s.log) own (log_after r (put_in (after (next_place n) s r) rs)));
      rest_is = rw (recorded-by s r rs (next_place n) e) (k.rest_is ∙ further-on (log_left s.log s.place s.last r) s.log n (recorded (after (next_place n) s r) rs).place k.further behind);
      further = rw (recorded-by s r rs (next_place n) e) (omega (arith, k.further, q.next));
    }
kept-turn s r rs (Ok None) e k =
    let same = left-out-leaves s.log s.place s.last r e in
    record {
      inside = rw (recorded-by s r rs left_out e) k.inside;
      valid = rw (put-in-by s r rs left_out e) k.valid;
      log_is = rw (recorded-by s r rs left_out e, put-in-by s r rs left_out e) (k.log_is ∙ ap (λ (l : List ℕ). take s.place l ++ log_after s.last (put_in (after left_out s r) rs)) same);
      rest_is = rw (recorded-by s r rs left_out e) (k.rest_is ∙ ap (drop (recorded (after left_out s r) rs).place) same);
      further = rw (recorded-by s r rs left_out e) k.further;
    }
kept-turn s r rs (Err x) e k =
    let same = refused-leaves s.log s.place s.last r x e in
    record {
      inside = rw (recorded-by s r rs (Err x) e) k.inside;
      valid = rw (put-in-by s r rs (Err x) e) k.valid;
      log_is = rw (recorded-by s r rs (Err x) e, put-in-by s r rs (Err x) e) (k.log_is ∙ ap (λ (l : List ℕ). take s.place l ++ log_after s.last (put_in (after (Err x) s r) rs)) same);
      rest_is = rw (recorded-by s r rs (Err x) e) (k.rest_is ∙ ap (drop (recorded (after (Err x) s r) rs).place) same);
      further = rw (recorded-by s r rs (Err x) e) k.further;
    }

pub kept : (s : Recorder) (rs : List Report) → s.place ≤ length s.log → Kept s rs
unfolding recorded put_in log_after
kept s [] h = record { inside = h; valid = tt; log_is = sym (append-nil (take s.place s.log)); rest_is = refl; further = omega arith }
kept s (r ∷ rs) h =
    let a = write_log s.log s.place s.last r in
    kept-turn s r rs a refl (kept (after a s r) rs (after-inside s r h a refl))

pub put-in-read : (buffer : List ℕ) (rs : List Report) → let s = recorded (empty_in buffer) rs in
    (take s.place s.log ≡ log_of (put_in (empty_in buffer) rs))
    × ReadsAs (take s.place s.log) 0 no_report (put_in (empty_in buffer) rs)
    × (drop s.place s.log ≡ drop s.place buffer)
unfolding log_of
put-in-read buffer rs =
    let k = kept (empty_in buffer) rs (omega arith) in
    (k.log_is, subst (λ (l : List ℕ). ReadsAs l 0 no_report (put_in (empty_in buffer) rs)) (sym k.log_is) (written-reads no_report [] (put_in (empty_in buffer) rs) k.valid), k.rest_is)

-- ---- a record is at most 13 bytes

changed-short : (b : Bool) (w x : ℕ) → length (cond b (bytes_of w x) []) ≤ w
changed-short true w x = omega (arith, length-bytes w x)
changed-short false w x = omega arith

pub record-short : (p r : Report) → length (record_of p r) ≤ 13
unfolding record_of fields_of changed_of
record-short p r =
    let day = changed-short (not (eqb r.time.day p.time.day)) 2 r.time.day in
    let hundredths = changed-short (not (eqb r.time.hundredths p.time.hundredths)) 3 r.time.hundredths in
    let control = changed-short (not (eqb r.control p.control)) 6 r.control in
    let year = changed-short (not (eqb r.time.year p.time.year)) 1 r.time.year in
    simp length-append (omega arith)
