-- A record put field by field: the stores of the parts, one behind another, are the stores of the whole.
use Rattle.timecode.specs.Answers.{done}
use Rattle.std.specs.Prelude.{◌≡◌, refl, cond, not, List, [], ◌∷◌, ◌++◌, ℕ, suc, ◌+◌, ◌-◌, ◌<◌, ◌≤◌, ◌/◌, ◌%◌, eqb, length, take, drop, set, Result, Err, Option}
use Rattle.std.proofs.Common.{sym, ap, ◌∙◌, append-nil, add-zero, zero-add, arith, eq-eqb, ne_eqb, le-leb, length-set, length-append, length-drop, drop_of_length-le, drop-drop, take_all}
use borrow.Rule.Slice.PartMut.{mid_of, post_of, put_mid}
use Rattle.std.proofs.lemmas.Bool.{lt-leb}
use Rattle.std.proofs.lemmas.List.Edits.{sets, sets-eq}
use Rattle.std.proofs.Math.Seq.{length-sets}
use Rattle.timecode.specs.declared.Refusal.{Refusal}
use Rattle.timecode.specs.declared.Refusal.TheVariants.{StartPastEnd}
use Rattle.report_log.specs.declared.Report.{Report}
use Rattle.report_log.proofs.Checks.{report-passes, report-refused}
use Rattle.report_log.specs.Log.{bytes_of, fields_of, map_of, changed_of, record_of, size_of, fields_after, check_report, fit_of, write_log, put_at, put_by, log_left, next_place, left_out}
use Rattle.report_log.proofs.Numbers.{length-bytes}
use Rattle.report_log.proofs.Records.{record-size-is}

-- the bytes of a field: none where it is as before
abbrev pub field_bytes : ℕ → ℕ → ℕ → List ℕ
field_bytes width before number = cond (not (eqb number before)) (bytes_of width number) []

-- the log after the record is put where it fits
abbrev pub fit_left : List ℕ → ℕ → List ℕ → List ℕ
fit_left log at bytes = put_by (fit_of log at bytes) (put_at log at bytes) log

pub sets-append : (l : List ℕ) (i : ℕ) (xs ys : List ℕ) → sets l i (xs ++ ys) ≡ sets (sets l i xs) (i + length xs) ys
sets-append l i [] ys = ap (λ (k : ℕ). sets l k ys) (sym (add-zero i))
sets-append l i (x ∷ xs) ys = sets-append (set l i x) (suc i) xs ys ∙ ap (λ (k : ℕ). sets (sets (set l i x) (suc i) xs) k ys) (let e : suc i + length xs ≡ i + suc (length xs) = omega arith in e)

-- ---- a number put byte by byte, the rest of it still to be put

pub record PutTo (entry : List ℕ) (at width number : ℕ) (part : List ℕ) (rest i : ℕ) : Type 0 where
  pub few : i ≤ width
  pub long : length part ≡ length entry
  pub still : sets entry at (bytes_of width number) ≡ sets part (at + i) (bytes_of (width - i) rest)

pub put-start : (entry : List ℕ) (at width number : ℕ) → PutTo entry at width number entry number 0
put-start entry at width number =
    let whole : width - 0 ≡ width = omega arith in
    record { few = omega arith; long = refl; still = rw (whole, add-zero at) }

one_byte : (part : List ℕ) (a b k rest : ℕ) → b ≡ suc a → sets part a (bytes_of (suc k) rest) ≡ sets (set part a (rest % 256)) b (bytes_of k (rest / 256))
unfolding bytes_of
one_byte part a b k rest e = rw e

pub put-turn : (entry : List ℕ) (at width number : ℕ) (part : List ℕ) (rest i : ℕ) → i < width → PutTo entry at width number part rest i → PutTo entry at width number (set part (at + i) (rest % 256)) (rest / 256) (i + 1)
put-turn entry at width number part rest i h p =
    let more : width - i ≡ suc (width - (i + 1)) = omega arith in
    record {
      few = omega arith;
      long = length-set part (at + i) (rest % 256) ∙ p.long;
      still = p.still ∙ rw more (one_byte part (at + i) (at + (i + 1)) (width - (i + 1)) rest (omega arith));
    }

pub put-end : (entry : List ℕ) (at width number : ℕ) (part : List ℕ) (rest i : ℕ) → width ≤ i → PutTo entry at width number part rest i → part ≡ sets entry at (bytes_of width number)
unfolding bytes_of
put-end entry at width number part rest i h p =
    let none : width - i ≡ 0 = omega arith in
    sym (p.still ∙ rw none)

-- ---- a field

pub field-kept : (part : List ℕ) (at width before number : ℕ) → number ≡ before → (at ≡ at + length (field_bytes width before number)) × (part ≡ sets part at (field_bytes width before number))
field-kept part at width before number e = rw (eq-eqb number before e) (omega arith, refl)

pub field_room : (at width before number room : ℕ) → (number ≡ before → ⊥) → at + length (field_bytes width before number) ≤ room → at + width ≤ room
field_room at width before number room n h = let long : length (bytes_of width number) ≡ width = length-bytes width number in let k : at + length (bytes_of width number) ≤ room = rw (ne_eqb number before n) at h in omega arith

pub field_put : (part after : List ℕ) (at width before number : ℕ) → (number ≡ before → ⊥) → after ≡ sets part at (bytes_of width number) → (at + width ≡ at + length (field_bytes width before number)) × (after ≡ sets part at (field_bytes width before number))
field_put part after at width before number n e = rw (ne_eqb number before n) (ap (λ (k : ℕ). at + k) (sym (length-bytes width number)), e)

-- ---- a record

abbrev pub day_bytes : Report → Report → List ℕ
day_bytes p r = field_bytes 2 p.time.day r.time.day

abbrev pub hundredths_bytes : Report → Report → List ℕ
hundredths_bytes p r = field_bytes 3 p.time.hundredths r.time.hundredths

abbrev pub control_bytes : Report → Report → List ℕ
control_bytes p r = field_bytes 6 p.control r.control

abbrev pub year_bytes : Report → Report → List ℕ
year_bytes p r = field_bytes 1 p.time.year r.time.year

record_is : (p r : Report) → record_of p r ≡ map_of (fields_of p r) ∷ (day_bytes p r ++ (hundredths_bytes p r ++ (control_bytes p r ++ (year_bytes p r ++ []))))
unfolding record_of changed_of fields_of
record_is p r = refl

four-long : (a b d e : List ℕ) → length (a ++ (b ++ (d ++ (e ++ [])))) ≡ length a + length b + length d + length e
four-long a b d e = simp length-append (omega arith)

pub record-length : (p r : Report) → length (record_of p r) ≡ 1 + length (day_bytes p r) + length (hundredths_bytes p r) + length (control_bytes p r) + length (year_bytes p r)
record-length p r =
    let four = four-long (day_bytes p r) (hundredths_bytes p r) (control_bytes p r) (year_bytes p r) in
    rw (record_is p r) (omega arith)

pub sets-long : {after : List ℕ} (l : List ℕ) (i : ℕ) (vs : List ℕ) → after ≡ sets l i vs → length after ≡ length l
sets-long l i vs e = ap length e ∙ length-sets l i vs

-- the map, and each field behind what was put before it
pub record Stored (p r : Report) (entry : List ℕ) (m : ℕ) (second third fourth : ℕ) (one two three exit : List ℕ) : Type 0 where
  pub map_is : m ≡ map_of (fields_of p r)
  pub day : one ≡ sets (set entry 0 m) 1 (day_bytes p r)
  pub second_is : second ≡ 1 + length (day_bytes p r)
  pub hundredths : two ≡ sets one second (hundredths_bytes p r)
  pub third_is : third ≡ second + length (hundredths_bytes p r)
  pub control : three ≡ sets two third (control_bytes p r)
  pub fourth_is : fourth ≡ third + length (control_bytes p r)
  pub year : exit ≡ sets three fourth (year_bytes p r)

four-put : (l : List ℕ) (i : ℕ) (a b d e : List ℕ) → sets l i (a ++ (b ++ (d ++ (e ++ [])))) ≡ sets (sets (sets (sets l i a) (i + length a) b) (i + length a + length b) d) (i + length a + length b + length d) e
four-put l i a b d e =
    sets-append l i a (b ++ (d ++ (e ++ [])))
    ∙ sets-append (sets l i a) (i + length a) b (d ++ (e ++ []))
    ∙ sets-append (sets (sets l i a) (i + length a) b) (i + length a + length b) d (e ++ [])
    ∙ ap (sets (sets (sets (sets l i a) (i + length a) b) (i + length a + length b) d) (i + length a + length b + length d)) (append-nil e)

pub record-stored : {p r : Report} {entry : List ℕ} {m second third fourth : ℕ} {one two three exit : List ℕ} → Stored p r entry m second third fourth one two three exit → exit ≡ sets entry 0 (record_of p r)
record-stored {p} {r} {entry} s =
    sym
    (ap (sets entry 0) (record_is p r)
    ∙ four-put (set entry 0 (map_of (fields_of p r))) 1 (day_bytes p r) (hundredths_bytes p r) (control_bytes p r) (year_bytes p r)
    ∙ sym (s.year ∙ rw (s.fourth_is, s.control, s.third_is, s.hundredths, s.second_is, s.day, s.map_is)))

-- the fields have room, one behind another
module _ (p r : Report) (entry : List ℕ) (m : ℕ) (room : length (record_of p r) ≤ length entry) where
  pub room-1 : 1 + length (day_bytes p r) ≤ length (set entry 0 m)
  room-1 = omega (arith, record-length p r, length-set entry 0 m)

  module _ (one : List ℕ) (second : ℕ) (day : one ≡ sets (set entry 0 m) 1 (day_bytes p r)) (second_is : second ≡ 1 + length (day_bytes p r)) where
    long-1 : length one ≡ length entry
    long-1 = sets-long (set entry 0 m) 1 (day_bytes p r) day ∙ length-set entry 0 m

    pub room-2 : second + length (hundredths_bytes p r) ≤ length one
    room-2 = omega (arith, record-length p r, long-1)

    module _ (two : List ℕ) (third : ℕ) (hundredths : two ≡ sets one second (hundredths_bytes p r)) (third_is : third ≡ second + length (hundredths_bytes p r)) where
      long-2 : length two ≡ length entry
      long-2 = sets-long one second (hundredths_bytes p r) hundredths ∙ long-1

      pub room-3 : third + length (control_bytes p r) ≤ length two
      room-3 = omega (arith, record-length p r, long-2)

      pub room-4 : (three : List ℕ) (fourth : ℕ) → three ≡ sets two third (control_bytes p r) → fourth ≡ third + length (control_bytes p r) → fourth + length (year_bytes p r) ≤ length three
      room-4 three fourth control fourth_is = omega (arith, record-length p r, sets-long two third (control_bytes p r) control, long-2)

-- ---- the record put where it fits

pub sizes : (p r : Report) (size : ℕ) → ((q : Report) → size ≡ 1 + size_of (fields_after q) (map_of (fields_of p r))) → size ≡ length (record_of p r)
sizes p r size h = h p ∙ record-size-is p r

-- the part is put back in the middle: behind it nothing is left of the log
pub fits-put : (log part : List ℕ) (at : ℕ) (bytes : List ℕ) (size : ℕ) → at ≤ length log → size ≡ length bytes → size ≤ length log - at → part ≡ sets (mid_of at (length log - at) log) 0 bytes
    → (next_place (at + size) ≡ fit_of log at bytes) × (put_mid at (length log - at) log part ≡ fit_left log at bytes)
unfolding fit_of put_at
fits-put log part at bytes size h e room put =
    let fit : at + length bytes ≤ length log = omega arith in
    let long : length (drop at log) ≡ length log - at = length-drop at log in
    let mid : mid_of at (length log - at) log ≡ drop at log = take_all (length log - at) (drop at log) (omega arith) in
    let post : post_of at (length log - at) log ≡ [] = drop_of_length-le (drop at log) {i = length log - at} (omega arith) in
    let stored : part ≡ bytes ++ drop (at + length bytes) log =
    put
    ∙ ap (λ (xs : List ℕ). sets xs 0 bytes) mid
    ∙ sets-eq bytes (drop at log) 0 (omega arith)
    ∙ ap (λ (xs : List ℕ). bytes ++ xs) (ap (λ (k : ℕ). drop k (drop at log)) (zero-add (length bytes)) ∙ drop-drop (length bytes) at log) in
    rw (le-leb (at + length bytes) (length log) fit) (
      ap (λ (k : ℕ). next_place (at + k)) e,
      ap (λ (xs : List ℕ). take at log ++ xs) (ap (λ (xs : List ℕ). part ++ xs) post ∙ append-nil part ∙ stored),
    )

pub fits_not : (log : List ℕ) (at : ℕ) (bytes : List ℕ) (size : ℕ) → at ≤ length log → size ≡ length bytes → length log - at < size → (left_out ≡ fit_of log at bytes) × (log ≡ fit_left log at bytes)
unfolding fit_of
fits_not log at bytes size h e room =
    let out : length log < at + length bytes = omega arith in
    rw (lt-leb (at + length bytes) (length log) out) (refl, refl)

-- ---- the call

module _ (log : List ℕ) (at : ℕ) (p r : Report) where
  abbrev Gives : Result (Option ℕ) Refusal → List ℕ → Type 0
  Gives answer after = (answer ≡ write_log log at p r) × (after ≡ log_left log at p r)

  pub write-passed : at ≤ length log → check_report Err r done ≡ done → (answer : Result (Option ℕ) Refusal) (after : List ℕ) → (answer ≡ fit_of log at (record_of p r)) × (after ≡ fit_left log at (record_of p r)) → Gives answer after
  unfolding write_log log_left
  write-passed h passed answer after g =
      let whole = report-passes Err (fit_of log at (record_of p r)) r passed in
      rw (le-leb at (length log) h, whole) g

  pub write-refused : at ≤ length log → (x : Refusal) → check_report Err r done ≡ Err x → Gives (Err x) log
  unfolding write_log log_left
  write-refused h x refused =
      let whole = report-refused Err (fit_of log at (record_of p r)) r x refused in
      rw (le-leb at (length log) h, whole) (refl, refl)

  pub write-past : length log < at → Gives (Err StartPastEnd) log
  unfolding write_log log_left
  write-past h = rw (lt-leb at (length log) h) (refl, refl)
