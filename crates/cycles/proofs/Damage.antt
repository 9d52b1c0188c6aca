-- Cycles of an element turned: fewer than 3M/10 of them never give another symbol, since two elements differ in 3M/10 cycles at least.
use Rattle.std.specs.Prelude.{◌≡◌, refl, true, false, List, [], ◌∷◌, ◌++◌, ◌⊎◌, ℕ, zero, suc, ◌+◌, ◌*◌, ◌-◌, ◌/◌, ◌<◌, ◌≤◌, eqb, length, get_or, set, replicate}
use Rattle.std.proofs.Common.{sym, ap, ap₂, ◌∙◌, inl, inr, zero-add, suc-add, not-suc-le-zero, arith, eqb-true, eq-eqb, ne_eqb}
use Rattle.timecode.proofs.Laws.Tests.{by-test, clash}
use Rattle.cycles.specs.Cycles.{is_cycle_count, highs, element, same, symbol_in}
use Rattle.cycles.proofs.Elements.{same_true, count-parts, highs-within, length-element}
use Rattle.cycles.proofs.Frames.{element-decoded}
use Rattle.cycles.specs.Damage.{differences}

none-of-one : (xs : List ℕ) → differences xs xs ≡ 0
unfolding differences
none-of-one [] = refl
none-of-one (x ∷ xs) = rw (eq-eqb x x refl, none-of-one xs)

one-of-none : (xs ys : List ℕ) → length xs ≡ length ys → differences xs ys ≡ 0 → xs ≡ ys
unfolding differences
one-of-none [] [] l h = refl
one-of-none [] (y ∷ ys) l h = let no : ⊥ = omega arith in absurd no
one-of-none (x ∷ xs) [] l h = let no : ⊥ = omega arith in absurd no
one-of-none (x ∷ xs) (y ∷ ys) l h =
    by-test (eqb x y)
    (λ e. let rest : 0 + differences xs ys ≡ 0 = rw e at h in ap₂ (λ (a : ℕ) (r : List ℕ). a ∷ r) (eqb-true x y e) (one-of-none xs ys (omega arith) (omega arith)))
    (λ n. let some : 1 + differences xs ys ≡ 0 = rw n at h in let no : ⊥ = omega arith in absurd no)

-- ---- runs of high and low cycles

lows-highs : (b l : ℕ) → differences (replicate (b + l) 2) (replicate b 1 ++ replicate l 2) ≡ b
unfolding differences
lows-highs zero l = rw (zero-add l) (none-of-one (replicate l 2))
lows-highs (suc b) l = rw (suc-add b l, lows-highs b l) (omega arith)

highs-lows : (b l : ℕ) → differences (replicate b 1 ++ replicate l 2) (replicate (b + l) 2) ≡ b
unfolding differences
highs-lows zero l = rw (zero-add l) (none-of-one (replicate l 2))
highs-lows (suc b) l = rw (suc-add b l, highs-lows b l) (omega arith)

runs_up : (a b l : ℕ) → differences (replicate a 1 ++ replicate (b + l) 2) (replicate (a + b) 1 ++ replicate l 2) ≡ b
unfolding differences
runs_up zero b l = rw (zero-add b) (lows-highs b l)
runs_up (suc a) b l = rw (suc-add a b, runs_up a b l) (omega arith)

runs-down : (a b l : ℕ) → differences (replicate (a + b) 1 ++ replicate l 2) (replicate a 1 ++ replicate (b + l) 2) ≡ b
unfolding differences
runs-down zero b l = rw (zero-add b) (highs-lows b l)
runs-down (suc a) b l = rw (suc-add a b, runs-down a b l) (omega arith)

elements-up : (M s t b : ℕ) → highs M s + b ≡ highs M t → differences (element M s) (element M t) ≡ b
unfolding element
elements-up M s t b h =
    let k = highs-within M t in
    let lows : M - highs M s ≡ b + (M - highs M t) = omega arith in
    rw (lows, ← h) (runs_up (highs M s) b (M - (highs M s + b)))

elements-down : (M s t b : ℕ) → highs M s + b ≡ highs M t → differences (element M t) (element M s) ≡ b
unfolding element
elements-down M s t b h =
    let k = highs-within M t in
    let lows : M - highs M s ≡ b + (M - highs M t) = omega arith in
    rw (lows, ← h) (runs-down (highs M s) b (M - (highs M s + b)))

-- ---- what a damaged element is decoded as

module _ (M s : ℕ) (cs : List ℕ) where
  not-another : (t : ℕ) → differences cs (element M s) < differences (element M t) (element M s) → same cs (element M t) ≡ false
  not-another t few =
      by-test (same cs (element M t))
      (λ y. let e : differences cs (element M s) ≡ differences (element M t) (element M s) = ap (λ (xs : List ℕ). differences xs (element M s)) (same_true cs (element M t) y) in let no : ⊥ = omega arith in absurd no)
      (λ n. n)

  not-its-own : 0 < differences cs (element M s) → same cs (element M s) ≡ false
  not-its-own some =
      by-test (same cs (element M s))
      (λ y. let e : differences cs (element M s) ≡ 0 = ap (λ (xs : List ℕ). differences xs (element M s)) (same_true cs (element M s) y) ∙ none-of-one (element M s) in let no : ⊥ = omega arith in absurd no)
      (λ n. n)

-- the runs in tenths of M
tenths : (M : ℕ) → is_cycle_count M ≡ true → (M / 5 ≡ 2 * (M / 10)) × (M / 2 ≡ 5 * (M / 10)) × (4 * M / 5 ≡ 8 * (M / 10)) × (3 * M / 10 ≡ 3 * (M / 10))
tenths M c =
    let p = count-parts M c in
    let whole : M ≡ 10 * (M / 10) = omega (arith, p) in
    (omega (arith, whole), omega (arith, whole), omega (arith, whole), omega (arith, whole))

-- Some cycles turned, but fewer than 3M/10: symbol 3.
pub few-turned-spoil : (M s : ℕ) (cs : List ℕ) → is_cycle_count M ≡ true → s ≤ 2 → 0 < differences cs (element M s) → differences cs (element M s) < 3 * M / 10 → symbol_in M cs ≡ 3
unfolding symbol_in highs
few-turned-spoil M zero cs c h some few =
    let p = tenths M c in
    let one = elements-down M 0 1 (3 * (M / 10)) (omega (arith, p)) in
    let two = elements-down M 0 2 (6 * (M / 10)) (omega (arith, p)) in
    rw (not-its-own M 0 cs some, not-another M 0 cs 1 (omega (arith, p)), not-another M 0 cs 2 (omega (arith, p)))
few-turned-spoil M (suc zero) cs c h some few =
    let p = tenths M c in
    let none = elements-up M 0 1 (3 * (M / 10)) (omega (arith, p)) in
    let two = elements-down M 1 2 (3 * (M / 10)) (omega (arith, p)) in
    rw (not-another M 1 cs 0 (omega (arith, p)), not-its-own M 1 cs some, not-another M 1 cs 2 (omega (arith, p)))
few-turned-spoil M (suc (suc zero)) cs c h some few =
    let p = tenths M c in
    let none = elements-up M 0 2 (6 * (M / 10)) (omega (arith, p)) in
    let one = elements-up M 1 2 (3 * (M / 10)) (omega (arith, p)) in
    rw (not-another M 2 cs 0 (omega (arith, p)), not-another M 2 cs 1 (omega (arith, p)), not-its-own M 2 cs some)
few-turned-spoil M (suc (suc (suc s))) cs c h some few = let no : ⊥ = omega arith in absurd no

-- So with fewer than 3M/10 turned an element is decoded as its own symbol or as 3, never as another.
pub never-another : (M s : ℕ) (cs : List ℕ) → is_cycle_count M ≡ true → s ≤ 2 → length cs ≡ M → differences cs (element M s) < 3 * M / 10 → (symbol_in M cs ≡ s) ⊎ (symbol_in M cs ≡ 3)
never-another M s cs c h l few =
    by-test (eqb (differences cs (element M s)) 0)
    (λ y. inl (ap (symbol_in M) (one-of-none cs (element M s) (l ∙ sym (length-element M s)) (eqb-true (differences cs (element M s)) 0 y)) ∙ element-decoded M s c h))
    (λ n. inr (few-turned-spoil M s cs c h (positive (differences cs (element M s)) n) few))
  where
    positive : (k : ℕ) → eqb k 0 ≡ false → 0 < k
    positive zero n = clash refl n
    positive (suc k) n = omega arith

one_set : (xs : List ℕ) (i v : ℕ) → i < length xs → (v ≡ get_or xs i 0 → ⊥) → differences (set xs i v) xs ≡ 1
unfolding differences
one_set [] i v h new = absurd (not-suc-le-zero h)
one_set (x ∷ xs) zero v h new = rw (ne_eqb v x new, none-of-one xs)
one_set (x ∷ xs) (suc i) v h new = rw (eq-eqb x x refl, one_set xs i v (omega arith) new)

-- One cycle turned, whatever to: symbol 3.
pub one-turned-spoils : (M s i v : ℕ) → is_cycle_count M ≡ true → s ≤ 2 → i < M → (v ≡ get_or (element M s) i 0 → ⊥) → symbol_in M (set (element M s) i v) ≡ 3
one-turned-spoils M s i v c h k new =
    let p = count-parts M c in
    let l = length-element M s in
    let d = one_set (element M s) i v (omega arith) new in
    few-turned-spoil M s (set (element M s) i v) c h (omega arith) (omega (arith, p))
