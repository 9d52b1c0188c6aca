-- Laws of the characters, and of decoding many of them: each to its own place, then those of skipped bytes left out.
use Rattle.std.specs.Prelude.{◌≡◌, refl, cond, List, [], ◌∷◌, ◌++◌, ℕ, suc, ◌+◌, ◌<◌, ◌≤◌, ◌/◌, ◌%◌, eqb, get_or, length, take, set}
use Rattle.std.proofs.Common.{sym, ap, ◌∙◌, append-nil, add-zero, add-one, arith, eqb-true, ne_eqb, length-set, length-append, take-suc, take-suc-set, length-take-le, get_or-take, get_or-set_same, get_or-set_other}
use Rattle.std.proofs.Math.Decide.{dec_lt}
use Rattle.std.proofs.lemmas.Bool.{eqb-false}
use Rattle.std.proofs.lemmas.List.{take-set-le}
use Rattle.timecode.proofs.Laws.Tests.{by-test}
use Rattle.characters.specs.ByteSymbols.{is_skipped, symbol_of_byte, feeds_of}
use Rattle.characters.specs.Decoding.{symbol_or_skipped, kept_of, EachPut, symbols_in, ClosedTo}

-- ---- characters

-- the characters 0 and 1
pub digit-symbol : (b : ℕ) → b / 2 ≡ 24 → b % 2 ≡ symbol_of_byte b
unfolding symbol_of_byte
digit-symbol b h =
    by-test (eqb b 48)
    (λ e. rw (eqb-true b 48 e))
    (λ n. let is : b ≡ 49 = omega (arith, eqb-false b 48 n) in rw is)

pub other-symbol : (b : ℕ) → ¬ (b / 2 ≡ 24) → symbol_of_byte b ≡ cond (eqb b 80) 2 (cond (eqb b 45) 3 4)
unfolding symbol_of_byte
other-symbol b h = rw (ne_eqb b 48 (λ e. h (rw e)), ne_eqb b 49 (λ e. h (rw e)))

-- ---- lists of Feeds

pub feeds-append : (xs ys : List ℕ) → feeds_of (xs ++ ys) ≡ feeds_of xs ++ feeds_of ys
unfolding feeds_of
feeds-append [] ys = refl
feeds-append (x ∷ xs) ys = by-test (is_skipped x) (λ y. rw y (feeds-append xs ys)) (λ n. rw n (ap (λ (ss : List ℕ). symbol_of_byte x ∷ ss) (feeds-append xs ys)))

pub feeds-few : (bytes : List ℕ) → length (feeds_of bytes) ≤ length bytes
unfolding feeds_of
feeds-few [] = omega arith
feeds-few (b ∷ bs) = by-test (is_skipped b) (λ y. rw y (omega (arith, feeds-few bs))) (λ n. rw n (omega (arith, feeds-few bs)))

-- ---- each byte's symbol at its index, or 5 where the byte is skipped

symbol-below : (b : ℕ) → symbol_of_byte b ≤ 4
unfolding symbol_of_byte
symbol-below b =
    by-test (eqb b 48)
    (λ y. rw y (omega arith))
    (λ n. by-test (eqb b 49) (λ y. rw (n, y) (omega arith)) (λ m. by-test (eqb b 80) (λ y. rw (n, m, y) (omega arith)) (λ l. by-test (eqb b 45) (λ y. rw (n, m, l, y) (omega arith)) (λ k. rw (n, m, l, k) (omega arith)))))

-- the symbols of the bytes are those kept
pub kept-are-feeds : (bytes xs : List ℕ) → length xs ≡ length bytes → ((j : ℕ) → j < length bytes → get_or xs j 0 ≡ symbol_or_skipped (get_or bytes j 0)) → kept_of xs ≡ feeds_of bytes
unfolding kept_of feeds_of symbol_or_skipped
kept-are-feeds [] [] l h = refl
kept-are-feeds [] (x ∷ xs) l h = let z : ⊥ = omega arith in absurd z
kept-are-feeds (b ∷ bs) [] l h = let z : ⊥ = omega arith in absurd z
kept-are-feeds (b ∷ bs) (x ∷ xs) l h =
    let others = kept-are-feeds bs xs (omega arith) (λ j u. h (suc j) (omega arith)) in
    let first : x ≡ symbol_or_skipped b = h 0 (omega arith) in
    by-test (is_skipped b)
    (λ y. let five : x ≡ 5 = rw y at first in rw (five, y) others)
    (λ n.
    let is : x ≡ symbol_of_byte b = rw n at first in
    let other : x ≡ 5 → ⊥ = λ e. omega (arith, symbol-below b) in
    rw (ne_eqb x 5 other, n) (rw is (ap (λ (ss : List ℕ). symbol_of_byte b ∷ ss) others)))

pub all-kept : (xs : List ℕ) → ((j : ℕ) → j < length xs → get_or xs j 0 < 5) → kept_of xs ≡ xs
unfolding kept_of
all-kept [] h = refl
all-kept (x ∷ xs) h =
    let below = h 0 (omega arith) in
    let other : x ≡ 5 → ⊥ = λ e. omega arith in
    rw (ne_eqb x 5 other) (ap (λ (ss : List ℕ). x ∷ ss) (all-kept xs (λ j u. h (suc j) (omega arith))))

pub put-start : (bytes symbols : List ℕ) → EachPut bytes (length symbols) 0 0 symbols
put-start bytes symbols =
    record {
      within = omega arith;
      long = refl;
      each = λ j h. let z : ⊥ = omega arith in absurd z;
      greatest = λ j h. let z : ⊥ = omega arith in absurd z;
    }

pub put-turn : (bytes symbols : List ℕ) (room i before most s : ℕ) → i < length bytes → length bytes ≤ room → s ≡ symbol_or_skipped (get_or bytes i 0) → before ≤ most → s ≤ most → EachPut bytes room i before symbols → EachPut bytes room (i + 1) most (set symbols i s)
put-turn bytes symbols room i before most s h fits is more most-is p =
    record {
      within = omega arith;
      long = length-set symbols i s ∙ p.long;
      each = λ j u. each_at j u (dec_lt j i);
      greatest = λ j u. greatest-at j u (dec_lt j i);
    }
  where
    here : get_or (set symbols i s) i 0 ≡ s
    here = get_or-set_same symbols i s 0 (omega (arith, p.long))

    before-it : (j : ℕ) → j < i → get_or (set symbols i s) j 0 ≡ get_or symbols j 0
    before-it j y = get_or-set_other symbols i j s 0 (λ e. omega arith)

    each_at : (j : ℕ) → j < i + 1 → Dec (j < i) → get_or (set symbols i s) j 0 ≡ symbol_or_skipped (get_or bytes j 0)
    each_at j u (yes y) = before-it j y ∙ p.each j y
    each_at j u (no m) = let same : j ≡ i = omega arith in rw same (here ∙ is)

    greatest-at : (j : ℕ) → j < i + 1 → Dec (j < i) → get_or (set symbols i s) j 0 ≤ most
    greatest-at j u (yes y) = rw (before-it j y) (omega (arith, p.greatest j y))
    greatest-at j u (no m) = let same : j ≡ i = omega arith in rw (same, here) most-is

-- ---- the fives left out

pub symbols-few : (s : ℕ) → symbols_in s ≤ 1
unfolding symbols_in
symbols-few s = by-test (eqb s 5) (λ y. rw y (omega arith)) (λ n. rw n (omega arith))

kept_append : (xs ys : List ℕ) → kept_of (xs ++ ys) ≡ kept_of xs ++ kept_of ys
unfolding kept_of
kept_append [] ys = refl
kept_append (x ∷ xs) ys = by-test (eqb x 5) (λ y. rw y (kept_append xs ys)) (λ n. rw n (ap (λ (ss : List ℕ). x ∷ ss) (kept_append xs ys)))

kept_next : (xs : List ℕ) (i : ℕ) → i < length xs → kept_of (take (i + 1) xs) ≡ kept_of (take i xs) ++ cond (eqb (get_or xs i 0) 5) [] (get_or xs i 0 ∷ [])
unfolding kept_of
kept_next xs i h = ap kept_of (ap (λ (k : ℕ). take k xs) (add-one i) ∙ take-suc xs i 0 h) ∙ kept_append (take i xs) (get_or xs i 0 ∷ [])

pub closed-start : (entry : List ℕ) → ClosedTo entry 0 0 entry
unfolding kept_of
closed-start entry = record { few = omega arith; counted = refl; first = refl; long = refl; others = λ j h. refl }

pub closed-turn : (entry : List ℕ) (i count s more : ℕ) (symbols : List ℕ) → i < length entry → s ≡ get_or symbols i 0 → more ≡ symbols_in s → ClosedTo entry i count symbols → ClosedTo entry (i + 1) (count + more) (set symbols count s)
unfolding symbols_in
closed-turn entry i count s more symbols h is counts to =
    let is-entry : get_or entry i 0 ≡ s = sym (is ∙ to.others i (omega arith)) in
    let long : length (set symbols count s) ≡ length entry = length-set symbols count s ∙ to.long in
    let others : (j : ℕ) → i + 1 ≤ j → get_or (set symbols count s) j 0 ≡ get_or entry j 0 = λ j u. get_or-set_other symbols count j s 0 (λ e. omega (arith, to.few)) ∙ to.others j (omega arith) in
    let kept = kept_of (take i entry) in
    by-test (eqb s 5)
    (λ y.
    let same : kept_of (take (i + 1) entry) ≡ kept = kept_next entry i h ∙ rw (is-entry, y) (append-nil kept) in
    let none : more ≡ 0 = counts ∙ rw y in
    record {
      few = omega (arith, to.few);
      counted = rw (none, same) (add-zero count ∙ to.counted);
      first = rw (none, same, add-zero count) (take-set-le count symbols count s (omega arith) ∙ to.first);
      long = long;
      others = others;
    })
    (λ n.
    let next : kept_of (take (i + 1) entry) ≡ kept ++ (s ∷ []) = kept_next entry i h ∙ rw (is-entry, n) in
    let one : more ≡ 1 = counts ∙ rw n in
    record {
      few = omega (arith, to.few);
      counted = rw (one, next, length-append kept (s ∷ [])) (ap (λ (k : ℕ). k + 1) to.counted);
      first = rw (one, next, add-one count) (take-suc-set symbols count s (omega (arith, to.few, to.long)) ∙ ap (λ (xs : List ℕ). xs ++ (s ∷ [])) to.first);
      long = long;
      others = others;
    })

-- ---- both

-- no byte is skipped
pub decoded-none-skipped : (bytes symbols : List ℕ) (room most : ℕ) → length bytes ≤ room → EachPut bytes room (length bytes) most symbols → most < 5 → (length bytes ≡ length (feeds_of bytes)) × (take (length bytes) symbols ≡ feeds_of bytes)
decoded-none-skipped bytes symbols room most fits p below =
    let n = length bytes in
    let long : length (take n symbols) ≡ n = length-take-le n symbols (omega (arith, p.long)) in
    let same : take n symbols ≡ feeds_of bytes =
    sym (all-kept (take n symbols) (λ j u. rw (get_or-take n symbols j 0 (omega (arith, long))) (omega (arith, p.greatest j (omega (arith, long))))))
    ∙ kept-are-feeds bytes (take n symbols) long (λ j u. get_or-take n symbols j 0 u ∙ p.each j u) in
    (sym long ∙ ap length same, same)

pub decoded-kept : (bytes symbols : List ℕ) (room most : ℕ) → length bytes ≤ room → EachPut bytes room (length bytes) most symbols → kept_of (take (length bytes) symbols) ≡ feeds_of bytes
decoded-kept bytes symbols room most fits p =
    let n = length bytes in
    kept-are-feeds bytes (take n symbols) (length-take-le n symbols (omega (arith, p.long))) (λ j u. get_or-take n symbols j 0 u ∙ p.each j u)
