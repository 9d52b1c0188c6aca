-- A chain of checks taken apart: an answer that is no refusal passed them all.
use Rattle.std.specs.Prelude.{◌≡◌, refl, Bool, true, false, not, List, [], ◌∷◌, ℕ, zero, suc, ◌≤◌, leb, eqb, Result, Ok, Err}
use Rattle.std.proofs.Common.{sym, ap, subst, arith, leb-true, eq-eqb}
use Rattle.timecode.specs.Answers.{refusal_number, check, Check, checks, accepted, done}
use Rattle.timecode.proofs.Laws.Tests.{and_left, and_right, clash}
use Rattle.timecode.specs.declared.Answer.{Answer}
use Rattle.timecode.specs.declared.Answer.TheVariants.{Quiet, Report}
use Rattle.timecode.specs.declared.Reading.{Reading}
use Rattle.timecode.specs.declared.Refusal.{Refusal}
use Rattle.timecode.specs.declared.Time.{Time}
use Rattle.timecode.specs.Laws.Windows.{time_of, control_of}
use Rattle.timecode.specs.Laws.Checks.{Taken, AllPass, EachPasses, without_number, up_to}

no-path : ◌≡◌ {A = ℕ} 0 1 → ⊥
no-path z = omega arith

is_false : (b : Bool) → not b ≡ true → b ≡ false
is_false true h = sym h
is_false false h = refl

pub passed : {Any : Type 0} (refused : Refusal → Any) (k : Refusal) (b : Bool) (a x : Any) → Taken refused x → check refused k b a ≡ x → (b ≡ true) × (a ≡ x)
passed refused k true a x t h = (refl, h)
passed refused k false a x t h = absurd (t k h)

one_more : (k : Refusal) (b : Bool) (cs : List Check) → b ≡ true → AllPass cs → AllPass ((k, b) ∷ cs)
one_more k b cs p ps zero = p
one_more k b cs p ps (suc i) = ps i

pub all-passed : {Any : Type 0} (refused : Refusal → Any) (cs : List Check) (a x : Any) → Taken refused x → checks refused cs a ≡ x → AllPass cs × (a ≡ x)
all-passed refused [] a x t h = (λ i. refl, h)
all-passed refused ((k, b) ∷ cs) a x t h =
    let first = passed refused k b (checks refused cs a) x t h in
    let later = all-passed refused cs a x t first.1 in
    (one_more k b cs first.0 later.0, later.1)

pub all_pass : {Any : Type 0} (refused : Refusal → Any) (cs : List Check) (a : Any) → EachPasses cs → checks refused cs a ≡ a
all_pass refused [] a h = refl
all_pass refused ((k, b) ∷ cs) a h = rw h.0 (all_pass refused cs a h.1)

-- checks before two answers: what they refuse before the first they refuse before the second
pub refused-alike : {Any : Type 0} (refused : Refusal → Any) (cs : List Check) (a c x : Any) → (a ≡ x → ⊥) → checks refused cs a ≡ x → checks refused cs c ≡ x
refused-alike refused [] a c x other h = absurd (other h)
refused-alike refused ((k, true) ∷ cs) a c x other h = refused-alike refused cs a c x other h
refused-alike refused ((k, false) ∷ cs) a c x other h = h

-- the same checks before an answer that is done and before any answer of any kind
pub done-passes : {Any : Type 0} (refused : Refusal → Any) (cs : List Check) (a : Any) → checks Err cs done ≡ done → checks refused cs a ≡ a
done-passes refused [] a h = refl
done-passes refused ((k, true) ∷ cs) a h = done-passes refused cs a h
done-passes refused ((k, false) ∷ cs) a h = absurd (no-path cc)

pub done_refused : {Any : Type 0} (refused : Refusal → Any) (cs : List Check) (a : Any) (r : Refusal) → checks Err cs done ≡ Err r → checks refused cs a ≡ refused r
done_refused refused [] a r h = absurd (no-path cc)
done_refused refused ((k, true) ∷ cs) a r h = done_refused refused cs a r h
done_refused refused ((k, false) ∷ cs) a r h = ap refused (cc)

-- where a step is refused with another number than theirs, the checks are passed
pub refused-later : (cs : List Check) (a : Result Time Refusal) (r : Refusal) → without_number (refusal_number r) cs ≡ true → checks Err cs a ≡ Err r → AllPass cs × (a ≡ Err r)
refused-later [] a r n h = (λ i. refl, h)
refused-later ((k, true) ∷ cs) a r n h =
    let later = refused-later cs a r (and_right (not (eqb (refusal_number k) (refusal_number r))) (without_number (refusal_number r) cs) n) h in
    (one_more k true cs refl later.0, later.1)
refused-later ((k, false) ∷ cs) a r n h =
    let p : k ≡ r = cc in
    let other = and_left (not (eqb (refusal_number k) (refusal_number r))) (without_number (refusal_number r) cs) n in
    clash {b = eqb (refusal_number k) (refusal_number r)} (eq-eqb (refusal_number k) (refusal_number r) (ap refusal_number p)) (is_false (eqb (refusal_number k) (refusal_number r)) other)

pub accepted-taken : (t : Time) (w : ℕ) → Taken Err (accepted t w)
accepted-taken t w r h = no-path cc

pub done-taken : Taken Err done
done-taken r h = no-path cc

pub next : (t : Time) → Taken Err (Ok t)
next t r h = no-path cc

pub quiet-no-report : {P : Type 0} (t : Time) (w : ℕ) → Quiet ≡ Report t w → P
quiet-no-report t w h = absurd (no-path cc)

pub refused-no-report : {P : Type 0} (r : Refusal) (t : Time) (w : ℕ) → Answer.Refused r ≡ Report t w → P
refused-no-report r t w h = absurd (no-path cc)

-- two readings that are accepted and equal have the same time and the same control word
pub same_reading : (t u : Time) (w v : ℕ) → accepted t w ≡ accepted u v → (t ≡ u) × (w ≡ v)
same_reading t u w v h = (ap time_of h, ap control_of h)

-- a reading is a refusal or a time and a control word
pub by-reading : {P : Type 0} (r : Result Reading Refusal) → ((x : Refusal) → r ≡ Err x → P) → ((t : Time) (w : ℕ) → r ≡ accepted t w → P) → P
by-reading (Err x) refused taken = refused x refl
by-reading (Ok read) refused taken = taken read.time read.control refl

-- a check of Read that refuses has its own number or a later one's
pub refused-up-to : (n : ℕ) (k : Refusal) (b : Bool) (a : Result Reading Refusal) (r : Refusal) → refusal_number k ≤ n → (a ≡ Err r → refusal_number r ≤ n) → check Err k b a ≡ Err r → refusal_number r ≤ n
refused-up-to n k true a r h later q = later q
refused-up-to n k false a r h later q = let p : k ≡ r = cc in subst (λ (x : Refusal). refusal_number x ≤ n) p h

pub all-refused-up-to : (n : ℕ) (cs : List Check) (a : Result Reading Refusal) (r : Refusal) → up_to n cs ≡ true → (a ≡ Err r → refusal_number r ≤ n) → checks Err cs a ≡ Err r → refusal_number r ≤ n
all-refused-up-to n [] a r h later q = later q
all-refused-up-to n ((k, b) ∷ cs) a r h later q =
    refused-up-to n k b (checks Err cs a) r (leb-true (refusal_number k) n (and_left (leb (refusal_number k) n) (up_to n cs) h))
    (all-refused-up-to n cs a r (and_right (leb (refusal_number k) n) (up_to n cs) h) later)
    q
