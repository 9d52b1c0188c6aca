-- One Feed or one symbol more, at each turn of the loops.
use Rattle.std.specs.Prelude.{◌≡◌, refl, Bool, true, false, ℕ, suc, ◌+◌, ◌-◌, ◌<◌, ◌≤◌, eqb, get_or, length, drop, cond, count_by, ◌==◌, Option, None, is_some}
use Rattle.std.proofs.Common.{sym, ap, ◌∙◌, add-zero, not-suc-le-zero, arith, drop_of_length-le, drop-cons, get_or-append-add}
use mathlib.Core.List.{List, [], ◌∷◌, ◌++◌, reverse, reverse-cons}
use Rattle.std.proofs.Math.Numerals.{add-one}
use Rattle.std.proofs.Math.Decide.{ℕ_discrete}
use Rattle.std.proofs.lemmas.Bool.{false≢true}
use Rattle.std.proofs.lemmas.List.Recursion.{is_count_by}
use Rattle.std.proofs.lemmas.List.{length-reverse}
use Rattle.std.proofs.Math.ListN.{get_or-append}
use Rattle.timecode.specs.declared.Answer.{Answer}
use Rattle.timecode.specs.declared.Answer.TheVariants.{Quiet, Report}
use Rattle.stream.specs.Feeding.{next_of, answer_of, feed_of}
use Rattle.stream.specs.Refinement.{answers}
use Rattle.stream.specs.declared.Reader.{Reader}
use Rattle.report_counts.specs.Reports.{directed, reported_by, first_report, is_report, reports_among, reports_of, count_if, times_of}
use Rattle.report_counts.specs.declared.Reported.{Reported}

-- ---- the next report

-- what comes later is looked at where the answer is no report
no-report : (a : Answer) (i : ℕ) (next : Reader) (later : Option Reported) → is_some (reported_by a i next None) ≡ false → reported_by a i next later ≡ later
no-report (Report t w) i next later n = absurd (false≢true (sym n))
no-report Quiet i next later n = refl
no-report (Answer.Refused x) i next later n = refl

report-alone : (a : Answer) (i : ℕ) (next : Reader) (later : Option Reported) → is_some (reported_by a i next None) ≡ true → reported_by a i next None ≡ reported_by a i next later
report-alone (Report t w) i next later e = refl
report-alone Quiet i next later e = absurd (false≢true e)
report-alone (Answer.Refused x) i next later e = absurd (false≢true e)

module _ (ss : List ℕ) (i : ℕ) (h : i < length ss) (r : Reader) (a : Answer) (is : a ≡ answer_of r (get_or ss i 0)) (next : Reader) (fed : next ≡ next_of r (get_or ss i 0)) (x : Option Reported) (by : x ≡ reported_by a i next None) where
  first-turn : first_report r i (drop i ss) ≡ reported_by a i next (first_report next (i + 1) (drop (i + 1) ss))
  unfolding first_report
  first-turn = rw (drop-cons ss i 0 h, is, fed, add-one i)

  pub report-turn : is_some x ≡ false → first_report r i (drop i ss) ≡ first_report next (i + 1) (drop (i + 1) ss)
  report-turn n = first-turn ∙ no-report a i next (first_report next (i + 1) (drop (i + 1) ss)) (sym (ap is_some by) ∙ n)

  pub report-here : is_some x ≡ true → x ≡ first_report r i (drop i ss)
  report-here e = by ∙ report-alone a i next (first_report next (i + 1) (drop (i + 1) ss)) (sym (ap is_some by) ∙ e) ∙ sym first-turn

pub report-end : (ss : List ℕ) (i : ℕ) (r : Reader) → length ss ≤ i → first_report r i (drop i ss) ≡ None
unfolding first_report
report-end ss i r h = rw (drop_of_length-le ss {i = i} h)

-- ---- how many reports

count_turn : (ss : List ℕ) (i total count : ℕ) (r : Reader) → i < length ss → total ≡ count + reports_of r (drop i ss) → total ≡ count + is_report (answer_of r (get_or ss i 0)) + reports_of (next_of r (get_or ss i 0)) (drop (i + 1) ss)
unfolding reports_of reports_among answers feed_of
count_turn ss i total count r h e = e ∙ rw (drop-cons ss i 0 h, add-one i) (omega arith)

-- with the symbol s, the answer a, the reader after it and 1 for a report
pub count-fed : (ss : List ℕ) (i total count : ℕ) (r : Reader) → i < length ss → total ≡ count + reports_of r (drop i ss) → (s : ℕ) → s ≡ get_or ss i 0 → (a : Answer) → a ≡ answer_of r s → (next : Reader) → next ≡ next_of r s → (k : ℕ) → k ≡ is_report a → total ≡ count + k + reports_of next (drop (i + 1) ss)
count-fed ss i total count r h e s at a is next fed k kind = count_turn ss i total count r h e ∙ rw (kind, is, fed, at)

pub count-end : (ss : List ℕ) (i total count : ℕ) (r : Reader) → length ss ≤ i → total ≡ count + reports_of r (drop i ss) → count ≡ total
unfolding reports_of reports_among answers
count-end ss i total count r h e = sym (e ∙ rw (drop_of_length-le ss {i = i} h) (add-zero count))

-- ---- backwards

pub length-directed : (b : Bool) (ss : List ℕ) → length (directed b ss) ≡ length ss
length-directed true ss = length-reverse ss
length-directed false ss = refl

reverse-at : (x : ℕ) (xs : List ℕ) (i : ℕ) → i < length (x ∷ xs) → Dec (i ≡ length xs) → (i < length xs → get_or (reverse xs) i 0 ≡ get_or xs (length xs - 1 - i) 0) → get_or (reverse xs ++ (x ∷ [])) i 0 ≡ get_or (x ∷ xs) (length (x ∷ xs) - 1 - i) 0
reverse-at x xs i h (yes e) before =
    let place : i ≡ length (reverse xs) + 0 = omega (arith, length-reverse xs) in
    let first : length (x ∷ xs) - 1 - i ≡ 0 = omega arith in
    rw first (ap (λ (k : ℕ). get_or (reverse xs ++ (x ∷ [])) k 0) place ∙ get_or-append-add (reverse xs) (x ∷ []) 0 0)
reverse-at x xs i h (no n) before =
    let inside : i < length xs = omega (arith, n) in
    let place : length (x ∷ xs) - 1 - i ≡ suc (length xs - 1 - i) = omega arith in
    rw place (get_or-append (reverse xs) (x ∷ []) 0 i (omega (arith, length-reverse xs)) ∙ before inside)

pub get_d_reverse : (ss : List ℕ) (i : ℕ) → i < length ss → get_or (reverse ss) i 0 ≡ get_or ss (length ss - 1 - i) 0
get_d_reverse [] i h = absurd (not-suc-le-zero h)
get_d_reverse (x ∷ xs) i h = ap (λ (ys : List ℕ). get_or ys i 0) (reverse-cons x xs) ∙ reverse-at x xs i h (ℕ_discrete i (length xs)) (get_d_reverse xs i)

-- ---- how often a symbol

counted : (b : Bool) (k : ℕ) → count_if b + k ≡ cond b (1 + k) k
counted true k = refl
counted false k = omega arith

pub times-counted : (s : ℕ) (xs : List ℕ) → times_of s xs ≡ count_by (λ x. x == s) xs
unfolding times_of
times-counted s = is_count_by (times_of s) (λ x. x == s) refl (λ x xs. counted (eqb x s) (times_of s xs))
