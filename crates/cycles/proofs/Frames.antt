-- Whole frames: their cycles taken apart, and the symbols that these are decoded as.
use Rattle.std.specs.Prelude.{◌≡◌, refl, true, false, cond, List, [], ◌∷◌, ◌++◌, ℕ, zero, suc, ◌+◌, ◌*◌, ◌-◌, ◌<◌, ◌≤◌, leb, ltb, length, get_or, replicate}
use Rattle.std.proofs.Common.{sym, ap, ◌∙◌, add-one, mul-le-mul_right, zero-add, suc-add, zero-mul, suc-mul, not-suc-le-zero, arith, leb-true, ltb-true, ltb-false, le-ltb, lt-ltb, length-append, ext_get_or, take_at, get_or-append-add}
use Rattle.std.proofs.lemmas.List.{length-replicate, get_or-replicate}
use Rattle.std.proofs.Math.ListN.{get_or-append}
use Rattle.std.proofs.Math.Seq.{drop-append-add}
use Rattle.timecode.proofs.Laws.Runs.{length-tabulate, get_d_tabulate}
use Rattle.timecode.proofs.Laws.Tests.{by-test, clash, and_left, and_right}
use Rattle.cycles.specs.Cycles.{is_cycle_count, is_proper, highs, element, cycles_of, unspoiled, same, symbol_in, cycles_at, symbols_in, first_improper}
use Rattle.cycles.proofs.Elements.{same_refl, same_true, count-parts, length-element}

-- ---- the elements of 0, 1 and 2 are three

-- the cycle at i
pub element-at : (M s i : ℕ) → i < M → get_or (element M s) i 0 ≡ cond (ltb i (highs M s)) 1 2
unfolding element
element-at M s i h =
    by-test (ltb i (highs M s))
    (λ y.
    let k = ltb-true i (highs M s) y in
    let l = length-replicate {A = ℕ} (highs M s) 1 in
    rw y (get_or-append (replicate (highs M s) 1) (replicate (M - highs M s) 2) 0 i (omega arith) ∙ get_or-replicate (highs M s) i 1 0 k))
    (λ n.
    let k = ltb-false i (highs M s) n in
    let l = length-replicate {A = ℕ} (highs M s) 1 in
    let there : i ≡ length (replicate {A = ℕ} (highs M s) 1) + (i - highs M s) = omega arith in
    rw n
    (ap (λ (j : ℕ). get_or (replicate (highs M s) 1 ++ replicate (M - highs M s) 2) j 0) there
    ∙ get_or-append-add (replicate (highs M s) 1) (replicate (M - highs M s) 2) (i - highs M s) 0
    ∙ get_or-replicate (M - highs M s) (i - highs M s) 2 0 (omega arith)))

-- they differ at the place where the shorter run of high cycles ends
apart : (M s t : ℕ) → highs M s < highs M t → highs M t < M → same (element M s) (element M t) ≡ false
apart M s t h k =
    by-test (same (element M s) (element M t))
    (λ y.
    let e : get_or (element M s) (highs M s) 0 ≡ get_or (element M t) (highs M s) 0 = ap (λ (xs : List ℕ). get_or xs (highs M s) 0) (same_true (element M s) (element M t) y) in
    let a : get_or (element M s) (highs M s) 0 ≡ 2 = element-at M s (highs M s) (omega arith) ∙ rw (le-ltb (highs M s) (highs M s) (omega arith)) in
    let b : get_or (element M t) (highs M s) 0 ≡ 1 = element-at M t (highs M s) (omega arith) ∙ rw (lt-ltb (highs M s) (highs M t) h) in
    let no : ⊥ = omega arith in
    absurd no)
    (λ n. n)

same-swap : (xs ys : List ℕ) → same xs ys ≡ false → same ys xs ≡ false
same-swap xs ys h = by-test (same ys xs) (λ y. clash (rw (same_true ys xs y) (same_refl xs)) h) (λ n. n)

pub element-decoded : (M s : ℕ) → is_cycle_count M ≡ true → s ≤ 2 → symbol_in M (element M s) ≡ s
unfolding symbol_in highs
element-decoded M zero c h = rw (same_refl (element M 0))
element-decoded M (suc zero) c h =
    let p = count-parts M c in
    rw (same-swap (element M 0) (element M 1) (apart M 0 1 (omega (arith, p)) (omega (arith, p))), same_refl (element M 1))
element-decoded M (suc (suc zero)) c h =
    let p = count-parts M c in
    rw (same-swap (element M 0) (element M 2) (apart M 0 2 (omega (arith, p)) (omega (arith, p))), same-swap (element M 1) (element M 2) (apart M 1 2 (omega (arith, p)) (omega (arith, p))), same_refl (element M 2))
element-decoded M (suc (suc (suc s))) c h = let no : ⊥ = omega arith in absurd no

-- ---- whole frames

pub length-cycles : (M : ℕ) (ss : List ℕ) → length (cycles_of M ss) ≡ length ss * M
unfolding cycles_of
length-cycles M [] = sym (zero-mul M)
length-cycles M (s ∷ ss) =
    let l = length-element M s in
    let r = length-cycles M ss in
    let m = suc-mul (length ss) M in
    length-append (element M s) (cycles_of M ss) ∙ omega arith

-- the cycles of element i are those of symbol i
pub cycles-at : (M : ℕ) (ss : List ℕ) (i : ℕ) → i < length ss → cycles_at M (cycles_of M ss) i ≡ element M (get_or ss i 0)
unfolding cycles_of
cycles-at M [] i h = absurd (not-suc-le-zero h)
cycles-at M (s ∷ ss) zero h = rw (zero-mul M) (take_at (element M s) (cycles_of M ss) M (length-element M s))
cycles-at M (s ∷ ss) (suc i) h =
    let there : suc i * M ≡ length (element M s) + i * M = let l = length-element M s in let m = suc-mul i M in omega arith in
    rw (there, drop-append-add (element M s) (cycles_of M ss) (i * M)) (cycles-at M ss i (omega arith))

pub unspoiled-at : (ss : List ℕ) (i : ℕ) → unspoiled ss ≡ true → i < length ss → get_or ss i 0 ≤ 2
unfolding unspoiled
unspoiled-at [] i u h = absurd (not-suc-le-zero h)
unspoiled-at (s ∷ ss) zero u h = leb-true s 2 (and_left (leb s 2) (unspoiled ss) u)
unspoiled-at (s ∷ ss) (suc i) u h = unspoiled-at ss i (and_right (leb s 2) (unspoiled ss) u) (omega arith)

pub symbol-at : (M n : ℕ) (cs : List ℕ) (i : ℕ) → i < n → get_or (symbols_in M n cs) i 0 ≡ symbol_in M (cycles_at M cs i)
unfolding symbols_in
symbol-at M n cs i h = get_d_tabulate n 0 (λ i. symbol_in M (cycles_at M cs i)) 0 i h ∙ ap (λ (j : ℕ). symbol_in M (cycles_at M cs j)) (zero-add i)

pub length_symbols : (M n : ℕ) (cs : List ℕ) → length (symbols_in M n cs) ≡ n
unfolding symbols_in
length_symbols M n cs = length-tabulate n 0 (λ i. symbol_in M (cycles_at M cs i))

pub symbols-of-cycles : (M : ℕ) (ss : List ℕ) → is_cycle_count M ≡ true → unspoiled ss ≡ true → symbols_in M (length ss) (cycles_of M ss) ≡ ss
symbols-of-cycles M ss c u =
    ext_get_or 0 (symbols_in M (length ss) (cycles_of M ss)) ss (length_symbols M (length ss) (cycles_of M ss))
    (λ i h.
    let k : i < length ss = rw (length_symbols M (length ss) (cycles_of M ss)) at h in
    symbol-at M (length ss) (cycles_of M ss) i k ∙ ap (symbol_in M) (cycles-at M ss i k) ∙ element-decoded M (get_or ss i 0) c (unspoiled-at ss i u k))

-- every cycle of an encoded frame is proper
first-append : (xs ys : List ℕ) → first_improper xs ≡ length xs → first_improper (xs ++ ys) ≡ length xs + first_improper ys
unfolding first_improper
first-append [] ys h = sym (zero-add (first_improper ys))
first-append (x ∷ xs) ys h =
    by-test (is_proper x)
    (λ y. let t : first_improper xs ≡ length xs = let k : suc (first_improper xs) ≡ suc (length xs) = rw y at h in omega arith in rw y (ap suc (first-append xs ys t) ∙ sym (suc-add (length xs) (first_improper ys))))
    (λ n. let k : 0 ≡ suc (length xs) = rw n at h in let no : ⊥ = omega arith in absurd no)

first-replicate : (n c : ℕ) → is_proper c ≡ true → first_improper (replicate n c) ≡ length (replicate n c)
unfolding first_improper
first-replicate zero c h = refl
first-replicate (suc n) c h = rw h (ap suc (first-replicate n c h))

first-element : (M s : ℕ) → first_improper (element M s) ≡ length (element M s)
unfolding element
first-element M s =
    first-append (replicate (highs M s) 1) (replicate (M - highs M s) 2) (first-replicate (highs M s) 1 refl)
    ∙ ap (λ (k : ℕ). length (replicate {A = ℕ} (highs M s) 1) + k) (first-replicate (M - highs M s) 2 refl)
    ∙ sym (length-append (replicate (highs M s) 1) (replicate (M - highs M s) 2))

pub first-cycles : (M : ℕ) (ss : List ℕ) → first_improper (cycles_of M ss) ≡ length (cycles_of M ss)
unfolding cycles_of first_improper
first-cycles M [] = refl
first-cycles M (s ∷ ss) =
    first-append (element M s) (cycles_of M ss) (first-element M s)
    ∙ ap (λ (k : ℕ). length (element M s) + k) (first-cycles M ss)
    ∙ sym (length-append (element M s) (cycles_of M ss))

-- ---- where an element's cycles stand

pub room_for : (M : ℕ) (frame cycles : List ℕ) (i at : ℕ) → i < length frame → at ≡ i * M → length cycles ≡ length frame * M → at + M ≤ length cycles
room_for M frame cycles i at h a l =
    let m = suc-mul i M in
    let most : suc i * M ≤ length frame * M = mul-le-mul_right M h in
    omega arith

pub next-at : (M i at : ℕ) → at ≡ i * M → at + M ≡ (i + 1) * M
next-at M i at a = rw (add-one i) (let m = suc-mul i M in omega arith)
