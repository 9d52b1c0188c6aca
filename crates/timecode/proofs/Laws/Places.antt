-- Lists of places: fewer places than there are candidates leave one of the candidates out.
use Rattle.std.specs.Prelude.{◌≡◌, refl, true, false, not, ◌||◌, List, [], ◌∷◌, map, ℕ, zero, suc, ◌<◌, ◌≤◌, eqb, length, get_or}
use Rattle.std.proofs.Common.{sym, ap, ◌∙◌, not-suc-le-zero, zero-add, arith, eqb-true, eq-eqb, ne_eqb}
use Rattle.std.proofs.lemmas.Bool.{not-true}
use Rattle.timecode.specs.Formats.{member}
use Rattle.timecode.proofs.Laws.Runs.{length-tabulate, get_d_tabulate}
use Rattle.timecode.proofs.Laws.Tests.{by-test, clash, and_left, and_right, neither-first, neither-second}
use Rattle.timecode.specs.Layout.{tabulate}
use Rattle.timecode.specs.Laws.Places.{without, distinct}

-- places moved, or put into classes
pub member-map : (f : ℕ → ℕ) (k : ℕ) (ps : List ℕ) → member (f k) (map f ps) ≡ false → member k ps ≡ false
member-map f k [] h = refl
member-map f k (p ∷ ps) h =
    by-test (eqb k p)
    (λ y. clash (eq-eqb (f k) (f p) (ap f (eqb-true k p y))) (neither-first (eqb (f k) (f p)) (member (f k) (map f ps)) h))
    (λ m. rw m (member-map f k ps (neither-second (eqb (f k) (f p)) (member (f k) (map f ps)) h)))

-- ---- a list less one place

without-le : (k : ℕ) (ps : List ℕ) → length (without k ps) ≤ length ps
without-le k [] = omega arith
without-le k (p ∷ ps) = by-test (eqb k p) (λ y. rw y (omega (arith, without-le k ps))) (λ m. rw m (omega (arith, without-le k ps)))

without-lt : (k : ℕ) (ps : List ℕ) → member k ps ≡ true → length (without k ps) < length ps
without-lt k [] h = clash h refl
without-lt k (p ∷ ps) h =
    by-test (eqb k p)
    (λ y. rw y (omega (arith, without-le k ps)))
    (λ m. let z : member k ps ≡ true = rw m at h in rw m (omega (arith, without-lt k ps z)))

without_other : (j k : ℕ) (ps : List ℕ) → (j ≡ k → ⊥) → member j (without k ps) ≡ false → member j ps ≡ false
without_other j k [] n h = refl
without_other j k (p ∷ ps) n h =
    by-test (eqb k p)
    (λ y.
    let z : member j (without k ps) ≡ false = rw y at h in
    rw (ne_eqb j p (λ q. n (q ∙ sym (eqb-true k p y)))) (without_other j k ps n z))
    (λ m.
    let z : (eqb j p || member j (without k ps)) ≡ false = rw m at h in
    rw (neither-first (eqb j p) (member j (without k ps)) z) (without_other j k ps n (neither-second (eqb j p) (member j (without k ps)) z)))

-- ---- one of the candidates is left out

not_first : (p : ℕ) (ps : List ℕ) (j : ℕ) → member p ps ≡ false → j < length ps → get_or ps j 0 ≡ p → ⊥
not_first p [] j m h q = not-suc-le-zero h
not_first p (r ∷ rs) zero m h q = clash (eq-eqb p r (sym q)) (neither-first (eqb p r) (member p rs) m)
not_first p (r ∷ rs) (suc j) m h q = not_first p rs j (neither-second (eqb p r) (member p rs) m) (omega arith) q

pub spared : (ps qs : List ℕ) → distinct ps ≡ true → length qs < length ps → (j : ℕ) × (j < length ps) × (member (get_or ps j 0) qs ≡ false)
spared [] qs d h = absurd (not-suc-le-zero h)
spared (p ∷ ps) qs d h =
    by-test (member p qs)
    (λ y.
    let others = and_right (not (member p ps)) (distinct ps) d in
    let x = spared ps (without p qs) others (omega (arith, without-lt p qs y)) in
    let new = not-true (member p ps) (and_left (not (member p ps)) (distinct ps) d) in
    (suc x.0, omega (arith, x.1), without_other (get_or ps x.0 0) p qs (not_first p ps x.0 new x.1) x.2))
    (λ m. (0, omega arith, m))

-- ---- one of the numbers below k is left out

below-not : (k n i : ℕ) → k < i → member k (tabulate n i (λ (j : ℕ). j)) ≡ false
below-not k zero i h = refl
below-not k (suc n) i h = rw (ne_eqb k i (λ q. omega arith)) (below-not k n (suc i) (omega arith))

numbers-distinct : (n i : ℕ) → distinct (tabulate n i (λ (j : ℕ). j)) ≡ true
numbers-distinct zero i = refl
numbers-distinct (suc n) i = rw (below-not i n (suc i) (omega arith)) (numbers-distinct n (suc i))

pub missed : (k : ℕ) (ps : List ℕ) → length ps < k → (j : ℕ) × (j < k) × (member j ps ≡ false)
missed k ps h =
    let n = length-tabulate k 0 (λ (j : ℕ). j) in
    let x = spared (tabulate k 0 (λ (j : ℕ). j)) ps (numbers-distinct k 0) (omega arith) in
    let b : x.0 < k = omega (arith, x.1) in
    let v : get_or (tabulate k 0 (λ (j : ℕ). j)) x.0 0 ≡ x.0 = get_d_tabulate k 0 (λ (j : ℕ). j) 0 x.0 b ∙ zero-add x.0 in
    (x.0, b, rw v at x.2)
