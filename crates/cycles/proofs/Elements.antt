-- One element: its cycles taken apart, and the symbol by the high cycles that it begins with.
use Rattle.std.specs.Prelude.{◌≡◌, Bool, cond, ◌&&◌, List, [], ◌∷◌, ◌++◌, ℕ, zero, suc, ◌+◌, ◌*◌, ◌-◌, ◌/◌, ◌%◌, ◌<◌, ◌≤◌, leb, length, drop, replicate}
use Rattle.std.proofs.Math.Path.{refl}
use Rattle.std.proofs.Common.{sym, ap, ap₂, ◌∙◌, arith, leb-true, eqb-true, eq-eqb, ne_eqb, length-append}
use Rattle.std.proofs.Math.Bool.{true, false}
use Prim.Native.Nat.compare
use Rattle.std.proofs.Math.Dec.{eqb}
use Rattle.std.proofs.lemmas.List.{length-replicate}
use Rattle.timecode.proofs.Laws.Tests.{by-test, clash, and_left, and_right}
use Rattle.cycles.specs.Cycles.{is_cycle_count, highs, element, same, symbol_in, is_proper, first_improper}
use Rattle.cycles.specs.Elements.{leading, all_low, all_proper}

-- ---- lists that are one

pub same_refl : (xs : List ℕ) → same xs xs ≡ true
unfolding same
same_refl [] = refl
same_refl (x ∷ xs) = rw (eq-eqb x x refl, same_refl xs)

pub same_true : (xs ys : List ℕ) → same xs ys ≡ true → xs ≡ ys
unfolding same
same_true [] [] h = refl
same_true [] (y ∷ ys) h = clash refl (sym h)
same_true (x ∷ xs) [] h = clash refl (sym h)
same_true (x ∷ xs) (y ∷ ys) h =
    ap₂ (λ (a : ℕ) (r : List ℕ). a ∷ r)
    (eqb-true x y (and_left (eqb x y) (same xs ys) h))
    (same_true xs ys (and_right (eqb x y) (same xs ys) h))

-- ---- M a multiple of 10: 2, 5 and 8 tenths of it

pub count-parts : (M : ℕ) → is_cycle_count M ≡ true → (10 ≤ M) × (M ≤ 100) × (M % 10 ≡ 0)
unfolding is_cycle_count
count-parts M h =
    let range = and_left (leb 10 M && leb M 100) (eqb (M % 10) 0) h in
    (leb-true 10 M (and_left (leb 10 M) (leb M 100) range), leb-true M 100 (and_right (leb 10 M) (leb M 100) range), eqb-true (M % 10) 0 (and_right (leb 10 M && leb M 100) (eqb (M % 10) 0) h))

pub highs-within : (M s : ℕ) → highs M s ≤ M
unfolding highs
highs-within M s = by-test (eqb s 0) (λ y. rw y (omega arith)) (λ n. rw n (by-test (eqb s 1) (λ y. rw y (omega arith)) (λ m. rw m (omega arith))))

pub length-element : (M s : ℕ) → length (element M s) ≡ M
unfolding element
length-element M s =
    let h = highs-within M s in
    let sum : highs M s + (M - highs M s) ≡ M = omega arith in
    length-append (replicate (highs M s) 1) (replicate (M - highs M s) 2) ∙ ap₂ ◌+◌ (length-replicate (highs M s) 1) (length-replicate (M - highs M s) 2) ∙ sum

-- ---- the high cycles at the front, and whether all after them are low

pub lows : (cs : List ℕ) (l : ℕ) → l ≡ length cs → same cs (replicate l 2) ≡ all_low cs
unfolding same all_low
lows [] zero h = refl
lows [] (suc l) h = let no : ⊥ = omega arith in absurd no
lows (c ∷ cs) zero h = let no : ⊥ = omega arith in absurd no
lows (c ∷ cs) (suc l) h = rw (lows cs l (omega arith))

-- the run of h high cycles and l low ones
pub run-same : (cs : List ℕ) (h l : ℕ) → h + l ≡ length cs → same cs (replicate h 1 ++ replicate l 2) ≡ (eqb (leading cs) h && all_low (drop (leading cs) cs))
unfolding same leading all_low
run-same [] zero zero e = refl
run-same [] zero (suc l) e = let no : ⊥ = omega arith in absurd no
run-same [] (suc h) l e = let no : ⊥ = omega arith in absurd no
run-same (c ∷ cs) (suc h) l e =
    by-test (eqb c 1)
    (λ y. rw (y, compare.suc-suc) (run-same cs h l (omega arith)))
    (λ n. rw (n, ne_eqb 0 (suc h) (λ e. omega arith)))
run-same (c ∷ cs) zero zero e = let no : ⊥ = omega arith in absurd no
run-same (c ∷ cs) zero (suc l) e =
    by-test (eqb c 1)
    (λ y. let one : c ≡ 1 = eqb-true c 1 y in rw (one, ne_eqb (suc (leading cs)) 0 (λ e. omega arith)))
    (λ n. rw (n, lows cs l (omega arith)))

module _ (M : ℕ) (cs : List ℕ) (whole : length cs ≡ M) where
  element-same : (s : ℕ) → same cs (element M s) ≡ (eqb (leading cs) (highs M s) && all_low (drop (leading cs) cs))
  unfolding element
  element-same s = let h = highs-within M s in run-same cs (highs M s) (M - highs M s) (omega arith)

  pub symbol-other : all_low (drop (leading cs) cs) ≡ false → symbol_in M cs ≡ 3
  unfolding symbol_in
  symbol-other n =
      let none : (s : ℕ) → same cs (element M s) ≡ false = λ s. element-same s ∙ rw n (and-false (eqb (leading cs) (highs M s))) in
      rw (none 0, none 1, none 2)
    where
      and-false : (b : Bool) → (b && false) ≡ false
      and-false true = refl
      and-false false = refl

  pub symbol-run : all_low (drop (leading cs) cs) ≡ true → symbol_in M cs ≡ cond (eqb (leading cs) (M / 5)) 0 (cond (eqb (leading cs) (M / 2)) 1 (cond (eqb (leading cs) (4 * M / 5)) 2 3))
  unfolding symbol_in highs
  symbol-run y =
      let each : (s : ℕ) → same cs (element M s) ≡ eqb (leading cs) (highs M s) = λ s. element-same s ∙ rw y (and-true (eqb (leading cs) (highs M s))) in
      rw (each 0, each 1, each 2)
    where
      and-true : (b : Bool) → (b && true) ≡ b
      and-true true = refl
      and-true false = refl

-- ---- every cycle is high or low

pub all-proper : (cs : List ℕ) → all_proper cs ≡ true → first_improper cs ≡ length cs
unfolding all_proper first_improper
all-proper [] h = refl
all-proper (c ∷ cs) h = rw (and_left (is_proper c) (all_proper cs) h) (ap suc (all-proper cs (and_right (is_proper c) (all_proper cs) h)))

pub some-improper : (cs : List ℕ) → all_proper cs ≡ false → first_improper cs < length cs
unfolding all_proper first_improper
some-improper [] h = clash refl h
some-improper (c ∷ cs) h =
    by-test (is_proper c)
    (λ y. let k = some-improper cs (rw y at h) in rw y (omega arith))
    (λ n. rw n (omega arith))
