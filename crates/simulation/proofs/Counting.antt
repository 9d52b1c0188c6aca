-- What is counted in a list of answers: the first report, the reports, the false ones; and that a list which reports a part of what another reports counts no more.
use Rattle.std.specs.Prelude.{◌≡◌, refl, true, false, not, ◌&&◌, List, [], ◌∷◌, ◌↔◌, ℕ, zero, suc, ◌+◌, ◌*◌, ◌-◌, ◌/◌, ◌%◌, ◌<◌, ◌≤◌, leb, ltb, eqb, length, get_or}
use Rattle.std.proofs.Common.{sym, ap, ◌∙◌, not-suc-le-zero, mul-le-mul_left, arith, eqb-true, ltb-true, leb-true, lt-ltb, le-leb}
use Rattle.std.proofs.Math.Nat.{mul-mod_right, div-eq_of_eq-mul_right, div-add-mod, le_of_mul-le-mul_left}
use Rattle.timecode.specs.Formats.{size}
use Rattle.timecode.specs.Frames.{same_time, Sent, elements, sent_at, EndsFrame}
use Rattle.timecode.proofs.Laws.Generators.{length-elements}
use Rattle.timecode.proofs.Laws.Marks.{size-positive}
use Rattle.timecode.proofs.Laws.Tests.{by-test, clash, and_left, and_right}
use Rattle.timecode.proofs.Laws.Times.{same-is, same_self}
use Rattle.timecode.specs.declared.Answer.{Answer}
use Rattle.timecode.specs.declared.Answer.TheVariants.{Quiet, Report}
use Rattle.timecode.specs.declared.Format.{Format}
use Rattle.timecode.specs.declared.Time.{Time}
use Rattle.simulation.specs.Simulation.{is_report, first_report, report_count, ends_frame, is_false, false_count}
use Rattle.simulation.specs.Counting.{PartOf}

-- ---- a frame that ends there

ends_so : (f : Format) (sent : List Sent) (k : ℕ) (t : Time) → EndsFrame f sent k t → ends_frame f sent k t ≡ true
unfolding ends_frame
ends_so f sent k t e =
    let j = e.frame in
    let n = size-positive f in
    let q : k ≡ size f * suc j = e.whole in
    let m : k % size f ≡ 0 = ap (λ (z : ℕ). z % size f) q ∙ mul-mod_right (size f) (suc j) in
    let d : k / size f - 1 ≡ j = omega (arith, div-eq_of_eq-mul_right {n = size f} {m = k} {k = suc j} n q) in
    let b : size f * suc j ≤ size f * length sent = mul-le-mul_left (size f) e.inside in
    rw (m, d, lt-ltb 0 k (omega arith), le-leb k (length (elements f sent)) (omega (arith, length-elements f sent)), ← e.time) (same_self t)

quotient-some : (n q k : ℕ) → n * q ≡ k → 0 < k → 0 < q
quotient-some n zero k p h = omega arith
quotient-some n (suc q) k p h = omega arith

so-ends : (f : Format) (sent : List Sent) (k : ℕ) (t : Time) → ends_frame f sent k t ≡ true → EndsFrame f sent k t
unfolding ends_frame
so-ends f sent k t h =
    let n = size-positive f in
    let u = (sent_at sent (k / size f - 1)).time in
    let whole = and_left (eqb (k % size f) 0) (ltb 0 k && (leb k (length (elements f sent)) && same_time t u)) h in
    let h1 = and_right (eqb (k % size f) 0) (ltb 0 k && (leb k (length (elements f sent)) && same_time t u)) h in
    let some = ltb-true 0 k (and_left (ltb 0 k) (leb k (length (elements f sent)) && same_time t u) h1) in
    let h2 = and_right (ltb 0 k) (leb k (length (elements f sent)) && same_time t u) h1 in
    let inside = leb-true k (length (elements f sent)) (and_left (leb k (length (elements f sent))) (same_time t u) h2) in
    let same = and_right (leb k (length (elements f sent))) (same_time t u) h2 in
    let zero_rest = eqb-true (k % size f) 0 whole in
    let p : size f * (k / size f) ≡ k = omega (arith, div-add-mod k (size f)) in
    let q : 0 < k / size f = quotient-some (size f) (k / size f) k p some in
    let v : suc (k / size f - 1) ≡ k / size f = omega arith in
    let b : k / size f ≤ length sent = le_of_mul-le-mul_left {k = size f} (omega (arith, length-elements f sent)) n in
    record { frame = k / size f - 1; inside = omega arith; whole = rw v (sym p); time = same-is t u same }

pub ends-exactly-when : (f : Format) (sent : List Sent) (k : ℕ) (t : Time) → (ends_frame f sent k t ≡ true) ↔ EndsFrame f sent k t
ends-exactly-when f sent k t = (so-ends f sent k t, ends_so f sent k t)

-- ---- no false report

pub none-false : (f : Format) (sent : List Sent) (past : ℕ) (answers : List Answer) → ((i : ℕ) (t : Time) (w : ℕ) → get_or answers i Quiet ≡ Report t w → EndsFrame f sent (suc past + i) t) → false_count f sent past answers ≡ 0
unfolding false_count is_false
none-false f sent past [] h = refl
none-false f sent past (a ∷ rest) h = go (none-false f sent (suc past) rest (λ i t w r. let y : suc past + suc i ≡ suc (suc past) + i = omega arith in rw y at (h (suc i) t w r))) a h
  where
    go : false_count f sent (suc past) rest ≡ 0 → (a : Answer) → ((i : ℕ) (t : Time) (w : ℕ) → get_or (a ∷ rest) i Quiet ≡ Report t w → EndsFrame f sent (suc past + i) t) → false_count f sent past (a ∷ rest) ≡ 0
    go later (Report t w) h =
        let u : suc past + 0 ≡ suc past = omega arith in
        let e : EndsFrame f sent (suc past) t = rw u at (h 0 t w refl) in
        rw (ends_so f sent (suc past) t e) later
    go later Quiet h = later
    go later (Answer.Refused x) h = later

-- ---- the first report

-- the number of the first report where the answers before bring none
pub first-is : (past i : ℕ) (xs : List Answer) → ((j : ℕ) → j < i → is_report (get_or xs j Quiet) ≡ false) → is_report (get_or xs i Quiet) ≡ true → first_report past xs ≡ suc (past + i)
unfolding first_report
first-is past i [] h r = clash r refl
first-is past zero (x ∷ xs) h r = rw r (omega arith)
first-is past (suc i) (x ∷ xs) h r = rw (h 0 (omega arith)) (first-is (suc past) i xs (λ j b. h (suc j) (omega arith)) r ∙ omega arith)

-- 0 exactly where there is none
pub none_first : (past : ℕ) (xs : List Answer) → ((j : ℕ) → is_report (get_or xs j Quiet) ≡ false) → first_report past xs ≡ 0
unfolding first_report
none_first past [] h = refl
none_first past (x ∷ xs) h = rw (h 0) (none_first (suc past) xs (λ j. h (suc j)))

-- ---- one list of answers reports a part of what another reports

pub fewer-reports : (xs ys : List Answer) → length xs ≡ length ys → PartOf xs ys → report_count xs ≤ report_count ys
unfolding report_count
fewer-reports [] ys n h = omega arith
fewer-reports (x ∷ xs) [] n h = let z : ⊥ = omega arith in absurd z
fewer-reports (x ∷ xs) (y ∷ ys) n h = go (fewer-reports xs ys (omega arith) (λ i t w r. h (suc i) t w r)) x h
  where
    go : report_count xs ≤ report_count ys → (x : Answer) → PartOf (x ∷ xs) (y ∷ ys) → report_count (x ∷ xs) ≤ report_count (y ∷ ys)
    go later (Report t w) h = let u : y ≡ Report t w = h 0 t w refl in rw u (omega arith)
    go later Quiet h = by-test (is_report y) (λ z. rw z (omega arith)) (λ z. rw z (omega arith))
    go later (Answer.Refused r) h = by-test (is_report y) (λ z. rw z (omega arith)) (λ z. rw z (omega arith))

pub fewer-false : (f : Format) (sent : List Sent) (past : ℕ) (xs ys : List Answer) → length xs ≡ length ys → PartOf xs ys → false_count f sent past xs ≤ false_count f sent past ys
unfolding false_count is_false
fewer-false f sent past [] ys n h = omega arith
fewer-false f sent past (x ∷ xs) [] n h = let z : ⊥ = omega arith in absurd z
fewer-false f sent past (x ∷ xs) (y ∷ ys) n h = go (fewer-false f sent (suc past) xs ys (omega arith) (λ i t w r. h (suc i) t w r)) x h
  where
    go : false_count f sent (suc past) xs ≤ false_count f sent (suc past) ys → (x : Answer) → PartOf (x ∷ xs) (y ∷ ys) → false_count f sent past (x ∷ xs) ≤ false_count f sent past (y ∷ ys)
    go later (Report t w) h = let u : y ≡ Report t w = h 0 t w refl in rw u (by-test (not (ends_frame f sent (suc past) t)) (λ z. rw z (omega arith)) (λ z. rw z later))
    go later Quiet h = by-test (is_false f sent (suc past) y) (λ z. rw z (omega arith)) (λ z. rw z later)
    go later (Answer.Refused r) h = by-test (is_false f sent (suc past) y) (λ z. rw z (omega arith)) (λ z. rw z later)

first-behind : (past : ℕ) (xs : List Answer) → 0 < first_report past xs → past < first_report past xs
unfolding first_report
first-behind past [] h = absurd (not-suc-le-zero h)
first-behind past (x ∷ xs) h = by-test (is_report x) (λ z. rw z (omega arith)) (λ z. rw z (let y = first-behind (suc past) xs (rw z at h) in omega arith))

pub later_first : (past : ℕ) (xs ys : List Answer) → length xs ≡ length ys → PartOf xs ys → 0 < first_report past xs → (0 < first_report past ys) × (first_report past ys ≤ first_report past xs)
unfolding first_report
later_first past [] ys n h p = absurd (not-suc-le-zero p)
later_first past (x ∷ xs) [] n h p = let z : ⊥ = omega arith in absurd z
later_first past (x ∷ xs) (y ∷ ys) n h p =
    by-test (is_report y)
    (λ z. let b = first-behind past (x ∷ xs) p in rw z (omega arith, b))
    (λ z. rw z (go (later_first (suc past) xs ys (omega arith)) x h p z))
  where
    go : (PartOf xs ys → 0 < first_report (suc past) xs → (0 < first_report (suc past) ys) × (first_report (suc past) ys ≤ first_report (suc past) xs)) → (x : Answer) → PartOf (x ∷ xs) (y ∷ ys)
        → 0 < first_report past (x ∷ xs) → is_report y ≡ false → (0 < first_report (suc past) ys) × (first_report (suc past) ys ≤ first_report past (x ∷ xs))
    go again (Report t w) h p z = let u : y ≡ Report t w = h 0 t w refl in clash (ap is_report u) z
    go again Quiet h p z = again (λ i t w r. h (suc i) t w r) p
    go again (Answer.Refused r) h p z = again (λ i t w r. h (suc i) t w r) p
