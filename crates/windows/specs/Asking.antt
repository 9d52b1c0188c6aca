-- The loop over the keys of a calendar, and that it answers what the windows of these keys do.
use Rattle.std.specs.Prelude.{◌≡◌, Bool, not, ◌&&◌, ℕ, suc, ◌+◌, ◌*◌, ◌-◌, ◌%◌, ◌^◌, ◌<◌, ◌≤◌, leb, ltb, eqb, get_or, length, take, Option, Some, None}
use Rattle.std.proofs.Math.Path.{refl, sym, ap, ap₂}
use Rattle.std.proofs.Common.{◌∙◌, arith, length-drop, pow_mono, drop-cons, get_or-take, take_all}
use Rattle.std.proofs.Math.Bool.{true, false, cond}
use mathlib.Core.List.{List, [], ◌∷◌}
use Rattle.std.proofs.Math.Nat.{two-pow-succ}
use borrow.Author.Tests.{ltb-false, leb-true, le-leb, lt-ltb, eq-eqb, ne_eqb}
use Rattle.std.proofs.Math.ListN.{drop, drop_of_length-le}
use Rattle.std.proofs.Math.Seq.{length-take-le}
use Rattle.timecode.specs.Formats.{days_in}
use Rattle.timecode.proofs.Laws.Tests.{by-test, and_right}
use Rattle.timecode.specs.declared.Time.{Time}
use Rattle.calendar.proofs.Adding.{days-few}
use Rattle.calendar.specs.Dates.{has_day}
use Rattle.calendar.specs.Keys.{Small}
use Rattle.calendar.proofs.Keys.{key-order, key_back, time-small, back-key}
use Rattle.calendar.specs.Moments.{earlier, holds, mask_of, edges_of, nearer, next_of, ask_of, asked}
use Rattle.calendar.specs.Windows.{key_of, time_of, windows_in}

-- the 56 bits of a key
abbrev pub key_in : ℕ → ℕ
key_in k = k % 72057594037927936

abbrev pub no_key : ℕ
no_key = 18446744073709551615

abbrev pub sooner : ℕ → ℕ → ℕ → ℕ
sooner k e best = cond (ltb k e) (cond (ltb e best) e best) best

unfoldable pub next_key : ℕ → List ℕ → List ℕ → ℕ
next_key k [] es = no_key
next_key k (s ∷ ss) [] = no_key
next_key k (s ∷ ss) (e ∷ es) = sooner k (key_in s) (sooner k (key_in e) (next_key k ss es))

unfoldable pub mask_keys : ℕ → List ℕ → List ℕ → ℕ
mask_keys k [] es = 0
mask_keys k (s ∷ ss) [] = 0
mask_keys k (s ∷ ss) (e ∷ es) = cond (cond (ltb k (key_in s)) false (ltb k (key_in e))) 1 0 + 2 * mask_keys k ss es

unfoldable pub following_of : ℕ → Option Time
following_of k = cond (eqb k no_key) None (Some (time_of k))

-- ---- by keys as by moments

abbrev Code : Option Time → ℕ → Type 0
Code (Some m) k = Small m × (k ≡ key_of m)
Code None k = k ≡ no_key

module _ (t : Time) (small : Small t) where
  after : (k : ℕ) → earlier t (time_of k) ≡ ltb (key_of t) (key_in k)
  after k = key-order t (time_of k) small (time-small k) ∙ ap (ltb (key_of t)) (back-key k)

  pub mask-same : (ss es : List ℕ) → mask_keys (key_of t) ss es ≡ mask_of (windows_in ss es) t
  unfolding mask_keys mask_of holds windows_in
  mask-same [] es = refl
  mask-same (s ∷ ss) [] = refl
  mask-same (s ∷ ss) (e ∷ es) =
      rw (after s, after e, mask-same ss es) (ap (λ (x : Bool). cond x 1 0 + 2 * mask_of (windows_in ss es) t) (turned (ltb (key_of t) (key_in s)) (ltb (key_of t) (key_in e))))
    where
      turned : (a b : Bool) → cond a false b ≡ (not a && b)
      turned true b = refl
      turned false b = refl

  key-small : (m : Time) → Small m → key_of m < no_key
  unfolding key_of
  key-small m r = omega (arith, r.year, r.day, r.hundredths)

  one-nearer : (e : Time) → Small e → (f : Option Time) (k : ℕ) → Code f k → Code (nearer t e f) (sooner (key_of t) (key_of e) k)
  unfolding nearer
  one-nearer e r None k c =
      by-test (earlier t e)
      (λ y. rw (y, sym (key-order t e small r) ∙ y, c, lt-ltb (key_of e) no_key (key-small e r)) (r, refl))
      (λ n. rw (n, sym (key-order t e small r) ∙ n) c)
  one-nearer e r (Some m) k c =
      by-test (earlier t e)
      (λ y.
      by-test (earlier e m)
      (λ a. rw (y, a, sym (key-order t e small r) ∙ y, c.1, sym (key-order e m r c.0) ∙ a) (r, refl))
      (λ b. rw (y, b, sym (key-order t e small r) ∙ y, c.1, sym (key-order e m r c.0) ∙ b) (c.0, refl)))
      (λ n. rw (n, sym (key-order t e small r) ∙ n) c)

  by_key : (k : ℕ) (f : Option Time) (best : ℕ) → Code f best → Code (nearer t (time_of k) f) (sooner (key_of t) (key_in k) best)
  by_key k f best c = rw (← back-key k) (one-nearer (time_of k) (time-small k) f best c)

  next-code : (ss es : List ℕ) → Code (next_of t (edges_of (windows_in ss es))) (next_key (key_of t) ss es)
  unfolding next_of edges_of next_key windows_in
  next-code [] es = refl
  next-code (s ∷ ss) [] = refl
  next-code (s ∷ ss) (e ∷ es) = by_key s (nearer t (time_of e) (next_of t (edges_of (windows_in ss es)))) (sooner (key_of t) (key_in e) (next_key (key_of t) ss es)) (by_key e (next_of t (edges_of (windows_in ss es))) (next_key (key_of t) ss es) (next-code ss es))

  coded : (f : Option Time) (k : ℕ) → Code f k → following_of k ≡ f
  unfolding following_of
  coded (Some m) k c = rw (c.1, ne_eqb (key_of m) no_key (λ e. omega (arith, key-small m c.0))) (ap Some (key_back m c.0))
  coded None k c = rw (eq-eqb k no_key c)

  pub next-same : (ss es : List ℕ) → following_of (next_key (key_of t) ss es) ≡ next_of t (edges_of (windows_in ss es))
  next-same ss es = coded (next_of t (edges_of (windows_in ss es))) (next_key (key_of t) ss es) (next-code ss es)

-- ---- the limit of a count

abbrev pub limited : ℕ → ℕ
limited count = cond (ltb count 32) count 32

pub limit-take : (xs : List ℕ) (count n : ℕ) → length xs ≡ 32 → n ≡ limited count → take n xs ≡ take count xs
limit-take xs count n l e =
    by-test (ltb count 32)
    (λ y. let z : n ≡ count = rw y at e in rw z)
    (λ m. let z : n ≡ 32 = rw m at e in rw (z, take_all 32 xs (omega arith), take_all count xs (omega (arith, ltb-false count 32 m))))

-- ---- the loop

mask_below : (k : ℕ) (ss es : List ℕ) → mask_keys k ss es < 2 ^ length ss
unfolding mask_keys
mask_below k [] es = omega arith
mask_below k (s ∷ ss) [] = let p : 2 ^ suc (length ss) ≡ 2 ^ length ss + 2 ^ length ss = two-pow-succ (length ss) in let h = mask_below k ss [] in omega arith
mask_below k (s ∷ ss) (e ∷ es) =
    let h = mask_below k ss es in
    let p : 2 ^ suc (length ss) ≡ 2 ^ length ss + 2 ^ length ss = two-pow-succ (length ss) in
    by-test (cond (ltb k (key_in s)) false (ltb k (key_in e))) (λ y. rw y (omega arith)) (λ n. rw n (omega arith))

pub record Looked (k : ℕ) (ss es : List ℕ) (n i mask next : ℕ) : Type 0 where
  pub few : i ≤ n
  pub mask_is : mask ≡ mask_keys k (drop i (take n ss)) (drop i (take n es))
  pub next_is : next ≡ next_key k (drop i (take n ss)) (drop i (take n es))

module _ (ss es : List ℕ) (n : ℕ) (long : length ss ≡ 32) (other : length es ≡ 32) (most : n ≤ 32) (k : ℕ) where
  one_more : (xs : List ℕ) → length xs ≡ 32 → (i : ℕ) → 0 < i → i ≤ n → drop (i - 1) (take n xs) ≡ get_or xs (i - 1) 0 ∷ drop i (take n xs)
  one_more xs l i some h =
      let there : length (take n xs) ≡ n = length-take-le n xs (omega arith) in
      let next : suc (i - 1) ≡ i = omega arith in
      rw (next, get_or-take n xs (i - 1) 0 (omega arith)) at (drop-cons (take n xs) (i - 1) 0 (omega arith))

  pub looked-start : Looked k ss es n n 0 no_key
  unfolding mask_keys next_key
  looked-start =
      let none : drop n (take n ss) ≡ [] = drop_of_length-le (take n ss) {i = n} (omega (arith, length-take-le n ss (omega arith))) in
      record { few = omega arith; mask_is = rw none; next_is = rw none }

  pub looked-room : (i mask next : ℕ) → 0 < i → Looked k ss es n i mask next → mask < 2147483648
  looked-room i mask next some s =
      let left : length (drop i (take n ss)) ≡ n - i = length-drop i (take n ss) ∙ ap (λ (x : ℕ). x - i) (length-take-le n ss (omega arith)) in
      let below = mask_below k (drop i (take n ss)) (drop i (take n es)) in
      let wide : 2 ^ length (drop i (take n ss)) ≤ 2 ^ 31 = pow_mono {i = length (drop i (take n ss))} {j = 31} (omega arith) in
      omega (arith, s.mask_is)

  pub looked-turn : (i mask next after later found : ℕ) (held : Bool) → 0 < i → Looked k ss es n i mask next → later ≡ sooner k (key_in (get_or es (i - 1) 0)) next → found ≡ sooner k (key_in (get_or ss (i - 1) 0)) later → held ≡ cond (ltb k (key_in (get_or ss (i - 1) 0))) false (ltb k (key_in (get_or es (i - 1) 0))) → after ≡ cond held 1 0 + 2 * mask → Looked k ss es n (i - 1) after found
  unfolding mask_keys next_key
  looked-turn i mask next after later found held some s a b d e =
      let first = one_more ss long i some s.few in
      let second = one_more es other i some s.few in
      record {
        few = omega (arith, s.few);
        mask_is = rw (first, second) (e ∙ ap₂ (λ (x : Bool) (m : ℕ). cond x 1 0 + 2 * m) d s.mask_is);
        next_is = rw (first, second) (b ∙ ap (sooner k (key_in (get_or ss (i - 1) 0))) (a ∙ ap (sooner k (key_in (get_or es (i - 1) 0))) s.next_is));
      }

  pub looked-end : (i mask next : ℕ) → i ≤ 0 → Looked k ss es n i mask next → (mask ≡ mask_keys k (take n ss) (take n es)) × (next ≡ next_key k (take n ss) (take n es))
  looked-end i mask next h s = let none : i ≡ 0 = omega arith in (rw none at s.mask_is, rw none at s.next_is)

-- ---- the call

pub ask-is : (count : ℕ) (starts ends : List ℕ) (t : Time) (n mask next k : ℕ) (f : Option Time) → t.year ≤ 99 → t.hundredths ≤ 8640099 → has_day t.year t.day ≡ true → length starts ≡ 32 → length ends ≡ 32 → n ≡ limited count → k ≡ key_of t
    → (mask ≡ mask_keys k (take n starts) (take n ends)) × (next ≡ next_key k (take n starts) (take n ends)) → f ≡ following_of next → asked mask f ≡ ask_of (windows_in (take count starts) (take count ends)) t
unfolding ask_of has_day
ask-is count starts ends t n mask next k f year hundredths day long other limit key seen found =
    let within_year = leb-true t.day (days_in t.year) (and_right (leb 1 t.day) (leb t.day (days_in t.year)) day) in
    let small : Small t = record { year = omega (arith, year); day = omega (arith, within_year, days-few t.year); hundredths = omega (arith, hundredths) } in
    let ss = limit-take starts count n long limit in
    let es = limit-take ends count n other limit in
    let m : mask ≡ mask_keys (key_of t) (take count starts) (take count ends) = rw (key, ss, es) at seen.0 in
    let x : next ≡ next_key (key_of t) (take count starts) (take count ends) = rw (key, ss, es) at seen.1 in
    rw (le-leb t.year 99 year, le-leb t.hundredths 8640099 hundredths, day)
    (ap₂ asked (m ∙ mask-same t small (take count starts) (take count ends)) (found ∙ ap following_of x ∙ next-same t small (take count starts) (take count ends)))
