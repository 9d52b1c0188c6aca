-- The loops that put a number: its digits from the last to the first, and how many there are.
use Rattle.std.specs.Prelude.{◌≡◌, refl, List, [], ◌∷◌, ◌++◌, ℕ, zero, suc, ◌+◌, ◌*◌, ◌-◌, ◌/◌, ◌%◌, ◌^◌, ◌<◌, ◌≤◌, ltb, get_or, length, take, drop, set}
use Rattle.std.proofs.Common.{sym, ap, ◌∙◌, subst, append_assoc, append-nil, zero-add, div-one, mod-lt, pow-suc, div-lt_iff_lt-mul, add-one, arith, lt-ltb, le-ltb, ltb-true, ltb-false, length-set, length-append, length-drop, take_at, ext_get_or, get_or-set_same, get_or-set_other, get_or-take, length-take-le, get_or-append-add}
use Rattle.std.proofs.Math.Nat.{pow-zero, div-div-eq-div-mul}
use Rattle.std.proofs.Math.Decide.{ℕ_discrete}
use Rattle.std.proofs.Math.ListN.{get_or-append}
use Rattle.std.proofs.Math.Seq.{take-append-add}
use borrow.Rule.Slice.PartMut.{put_mid}
use Rattle.timecode.proofs.Laws.Runs.{length-tabulate, get_d_tabulate}
use Rattle.timecode.proofs.Laws.Tests.{by-test}
use Rattle.timecode.specs.Layout.{tabulate}
use Rattle.lines.specs.Text.{glyph, digit_at, digits_of, places_in, digit_count, together}

-- xs became ys: what lies before `at` is kept, and of the width places from there the last i are set
pub record Filled (xs ys : List ℕ) (at width i : ℕ) (g : ℕ → ℕ) : Type 0 where
  pub long : length ys ≡ length xs
  pub kept : (m : ℕ) → m < at → get_or ys m 0 ≡ get_or xs m 0
  pub put : (k : ℕ) → k < width → width ≤ k + i → get_or ys (at + k) 0 ≡ g k

pub filled-start : (xs : List ℕ) (at width : ℕ) (g : ℕ → ℕ) → Filled xs xs at width 0 g
filled-start xs at width g = record { long = refl; kept = λ m h. refl; put = λ k h b. let n : ⊥ = omega arith in absurd n }

pub filled-turn : (xs ys : List ℕ) (at width i : ℕ) (g : ℕ → ℕ) → Filled xs ys at width i g → i < width → at + width ≤ length xs → Filled xs (set ys (at + (width - 1 - i)) (g (width - 1 - i))) at width (i + 1) g
filled-turn xs ys at width i g f h room =
    record {
      long = length-set ys (at + (width - 1 - i)) (g (width - 1 - i)) ∙ f.long;
      kept = λ m b. get_or-set_other ys (at + (width - 1 - i)) m (g (width - 1 - i)) 0 (λ e. let n : ⊥ = omega arith in n) ∙ f.kept m b;
      put = λ k b c. by_place k b c (ℕ_discrete k (width - 1 - i));
    }
  where
    by_place : (k : ℕ) → k < width → width ≤ k + (i + 1) → Dec (k ≡ width - 1 - i) → get_or (set ys (at + (width - 1 - i)) (g (width - 1 - i))) (at + k) 0 ≡ g k
    by_place k b c (yes e) = rw e (get_or-set_same ys (at + (width - 1 - i)) (g (width - 1 - i)) 0 (omega (arith, f.long)))
    by_place k b c (no n) = get_or-set_other ys (at + (width - 1 - i)) (at + k) (g (width - 1 - i)) 0 (λ e. n (omega arith)) ∙ f.put k b (omega arith)

pub filled-end : (xs ys : List ℕ) (at width : ℕ) (g : ℕ → ℕ) → Filled xs ys at width width g → at + width ≤ length xs → take (at + width) ys ≡ take at xs ++ tabulate width 0 g
filled-end xs ys at width g f room =
    ext_get_or 0 (take (at + width) ys) (take at xs ++ tabulate width 0 g) (whole ∙ sym both)
    (λ i m.
    let b : i < at + width = rw whole at m in
    get_or-take (at + width) ys i 0 b
    ∙ by-test (ltb i at)
    (λ y.
    let before = ltb-true i at y in
    f.kept i before ∙ sym (get_or-take at xs i 0 before) ∙ sym (get_or-append (take at xs) (tabulate width 0 g) 0 i (omega (arith, front))))
    (λ n.
    let from = ltb-false i at n in
    let place : i ≡ at + (i - at) = omega arith in
    let index : i ≡ length (take at xs) + (i - at) = omega (arith, front) in
    ap (λ (k : ℕ). get_or ys k 0) place
    ∙ f.put (i - at) (omega arith) (omega arith)
    ∙ sym (ap (λ (k : ℕ). get_or (take at xs ++ tabulate width 0 g) k 0) index ∙ get_or-append-add (take at xs) (tabulate width 0 g) (i - at) 0 ∙ get_d_tabulate width 0 g 0 (i - at) (omega arith) ∙ ap g (zero-add (i - at)))))
  where
    front : length (take at xs) ≡ at
    front = length-take-le at xs (omega arith)

    whole : length (take (at + width) ys) ≡ at + width
    whole = length-take-le (at + width) ys (omega (arith, f.long))

    both : length (take at xs ++ tabulate width 0 g) ≡ at + width
    both = omega (arith, length-append (take at xs) (tabulate width 0 g), front, length-tabulate width 0 g)

-- ---- the digits of a number

pub all-rests : (number base : ℕ) → number ≡ number / base ^ 0
all-rests number base = sym (ap (λ (n : ℕ). number / n) (pow-zero base) ∙ div-one number)

pub next-rests : (number base i rest : ℕ) → rest ≡ number / base ^ i → rest / base ≡ number / base ^ (i + 1)
next-rests number base i rest e =
    ap (λ (n : ℕ). n / base) e ∙ div-div-eq-div-mul number (base ^ i) base ∙ ap (λ (n : ℕ). number / n) (sym (ap (λ (k : ℕ). base ^ k) (add-one i) ∙ pow-suc base i))

pub digit-small : (rest base : ℕ) → 2 ≤ base → base ≤ 16 → rest % base < 16
digit-small rest base a b = omega (arith, mod-lt rest {m = base} (omega arith))

pub digit-turn : (xs ys : List ℕ) (at width i number base rest v : ℕ) → rest ≡ number / base ^ i → v ≡ glyph (rest % base) → i < width → at + width ≤ length xs
    → Filled xs ys at width i (digit_at base width number) → Filled xs (set ys (at + (width - 1 - i)) v) at width (i + 1) (digit_at base width number)
unfolding digit_at
digit-turn xs ys at width i number base rest v e p h room f =
    subst (λ (x : ℕ). Filled xs (set ys (at + (width - 1 - i)) x) at width (i + 1) (digit_at base width number)) (sym same) (filled-turn xs ys at width i (digit_at base width number) f h room)
  where
    same : v ≡ digit_at base width number (width - 1 - i)
    same = p ∙ ap (λ (n : ℕ). glyph (n % base)) (e ∙ ap (λ (k : ℕ). number / base ^ k) (omega arith))

pub digits-end : (xs ys : List ℕ) (at width i number base : ℕ) → i ≡ width → at + width ≤ length xs → Filled xs ys at width i (digit_at base width number) → take (at + width) ys ≡ take at xs ++ digits_of base width number
unfolding digits_of
digits-end xs ys at width i number base e room f = filled-end xs ys at width (digit_at base width number) (rw e at f) room

-- ---- texts put one behind another

abbrev pub onto : List ℕ → List (List ℕ) → List ℕ
onto b [] = b
onto b (p ∷ ps) = onto (b ++ p) ps

pub onto-together : (b : List ℕ) (ps : List (List ℕ)) → onto b ps ≡ b ++ together ps
onto-together b [] = sym (append-nil b)
onto-together b (p ∷ ps) = onto-together (b ++ p) ps ∙ append_assoc b p (together ps)

-- a text in the part from a place on
pub text-put : (old part text : List ℕ) (at : ℕ) → at + length text ≤ length old → part ≡ text
    → (length (put_mid at (at + length text - at) old part) ≡ length old) × (take (at + length text) (put_mid at (at + length text - at) old part) ≡ take at old ++ text)
text-put old part text at h e =
    let front : length (take at old) ≡ at = length-take-le at old (omega arith) in
    let long : length part ≡ length text = ap length e in
    let rest = drop (at + length text - at) (drop at old) in (
      simp (length-append, length-drop) (omega arith),
      ap (λ (m : ℕ). take (m + length text) (take at old ++ (part ++ rest))) (sym front)
          ∙ take-append-add (take at old) (part ++ rest) (length text)
          ∙ ap (λ (l : List ℕ). take at old ++ l) (take_at part rest (length text) long ∙ e),
    )

-- ---- the number of digits

places-last : (k rest : ℕ) → rest < 10 → places_in k rest ≡ 1
unfolding places_in
places-last zero rest h = refl
places-last (suc k) rest h = rw (lt-ltb rest 10 h)

places-turn : (k rest : ℕ) → 10 ≤ rest → places_in (suc k) rest ≡ suc (places_in k (rest / 10))
unfolding places_in
places-turn k rest h = rw (le-ltb rest 10 h)

-- k digits, and after them what is left of the number
pub record Counted (number rest k : ℕ) : Type 0 where
  pub some : 1 ≤ k
  pub few : k ≤ 20
  pub room : rest < 10 ^ (21 - k)
  pub total : digit_count number ≡ k - 1 + places_in (20 - k) rest

pub counted_start : (number : ℕ) → number < 100000000000000000000 → Counted number number 1
unfolding digit_count
counted_start number h = record { some = omega arith; few = omega arith; room = h; total = sym (zero-add (places_in 19 number)) }

one_more : (k n : ℕ) → 1 ≤ k → k - 1 + suc n ≡ k + 1 - 1 + n
one_more k n h = omega arith

pub counted-turn : (number rest k : ℕ) → 10 ≤ rest → Counted number rest k → (k < 20) × Counted number (rest / 10) (k + 1)
counted-turn number rest k h c = go (ℕ_discrete k 20)
  where
    go : Dec (k ≡ 20) → (k < 20) × Counted number (rest / 10) (k + 1)
    go (yes e) = let small : rest < 10 = rw e at c.room in let n : ⊥ = omega arith in absurd n
    go (no n) =
        let below : k < 20 = omega (arith, c.few, n) in
        let power : 21 - k ≡ suc (21 - (k + 1)) = omega arith in
        let fuel : 20 - k ≡ suc (20 - (k + 1)) = omega arith in
        let wide : rest < 10 ^ (21 - (k + 1)) * 10 = rw (power, pow-suc 10 (21 - (k + 1))) at c.room in
        let turned : places_in (20 - k) rest ≡ suc (places_in (20 - (k + 1)) (rest / 10)) = rw fuel (places-turn (20 - (k + 1)) rest h) in
        (below, record { some = omega arith; few = omega arith; room = (div-lt_iff_lt-mul {k = 10} {x = rest} {y = 10 ^ (21 - (k + 1))} (omega arith)).1 wide; total = c.total ∙ ap (λ (n : ℕ). k - 1 + n) turned ∙ one_more k (places_in (20 - (k + 1)) (rest / 10)) c.some })

pub counted-end : (number rest k : ℕ) → rest < 10 → Counted number rest k → k ≡ digit_count number
counted-end number rest k h c = omega (arith, c.total, c.some, places-last (20 - k) rest h)

-- ---- a number below 10^20 has so many digits, and no fewer do: the first is no zero, but where it is the only one

suc-pred : (p : ℕ) → suc p - 1 ≡ p
suc-pred p = omega arith

places-some : (k number : ℕ) → 1 ≤ places_in k number
unfolding places_in
places-some zero number = omega arith
places-some (suc k) number = by-test (ltb number 10) (λ y. rw y (omega arith)) (λ m. rw m (omega arith))

no_zero : (k number : ℕ) → 10 ≤ number → (1 < places_in k (number / 10) → 10 ^ (places_in k (number / 10) - 1) ≤ number / 10) → 10 ^ places_in k (number / 10) ≤ number
no_zero k number h more = go (ℕ_discrete (places_in k (number / 10)) 1)
  where
    go : Dec (places_in k (number / 10) ≡ 1) → 10 ^ places_in k (number / 10) ≤ number
    go (yes e) = rw e h
    go (no n) =
        let least = more (omega (arith, places-some k (number / 10), n)) in
        let one_more : places_in k (number / 10) ≡ suc (places_in k (number / 10) - 1) = omega (arith, places-some k (number / 10)) in
        let power : 10 ^ places_in k (number / 10) ≡ 10 ^ (places_in k (number / 10) - 1) * 10 = ap (λ (p : ℕ). 10 ^ p) one_more ∙ pow-suc 10 (places_in k (number / 10) - 1) in
        omega (arith, least, power)

fewest-in : (k number : ℕ) → number < 10 ^ suc k → (number < 10 ^ places_in k number) × (1 < places_in k number → 10 ^ (places_in k number - 1) ≤ number)
unfolding places_in
fewest-in zero number h = (h, λ b. let n : ⊥ = omega arith in absurd n)
fewest-in (suc k) number h =
    by-test (ltb number 10)
    (λ y. rw y (ltb-true number 10 y, λ b. let n : ⊥ = omega arith in absurd n))
    (λ m.
    let ten = ltb-false number 10 m in
    let rest : number / 10 < 10 ^ suc k = (div-lt_iff_lt-mul {k = 10} {x = number} {y = 10 ^ suc k} (omega arith)).1 (rw (pow-suc 10 (suc k)) at h) in
    let more = fewest-in k (number / 10) rest in
    rw (m, pow-suc 10 (places_in k (number / 10))) (
      (div-lt_iff_lt-mul {k = 10} {x = number} {y = 10 ^ places_in k (number / 10)} (omega arith)).0 more.0,
      λ b. rw (suc-pred (places_in k (number / 10))) (no_zero k number ten more.1),
    ))

pub fewest : (number : ℕ) → number < 10 ^ 20 → (number < 10 ^ digit_count number) × (1 < digit_count number → 10 ^ (digit_count number - 1) ≤ number)
unfolding digit_count
fewest number h = fewest-in 19 number h
