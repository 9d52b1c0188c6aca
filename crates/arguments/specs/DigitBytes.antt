-- One digit more, at each turn of the loop that reads a number.
use Rattle.std.specs.Prelude.{◌≡◌, refl, Some, None, true, false, ◌&&◌, List, [], ◌∷◌, ◌++◌, ℕ, suc, ◌+◌, ◌*◌, ◌<◌, ◌≤◌, leb, ltb, get_or, length, take, drop}
use Rattle.std.proofs.Common.{sym, ap, ◌∙◌, mul-one, mul-le-mul_left, add-one, arith, lt-ltb, le-ltb, le-leb, leb-true, leb-false, drop_of_length-le, take-suc, drop-cons}
use Rattle.std.proofs.lemmas.Bool.{lt-leb}
use Rattle.std.proofs.Math.Seq.{take-length}
use Rattle.timecode.proofs.Laws.Tests.{by-test}
use Rattle.arguments.specs.Numbers.{digit_of, are_digit_bytes, value_from, last, limited, number_of}

pub limited-small : (v : ℕ) → v ≤ last → v ≡ limited v
unfolding limited
limited-small v h = rw (le-leb v last h)

pub limited-large : (v : ℕ) → last < v → last ≡ limited v
unfolding limited
limited-large v h = rw (lt-leb v last h)

limited-most : (v : ℕ) → last ≤ v → last ≡ limited v
limited-most v h = by-test (leb v last) (λ y. let same : v ≡ last = omega (arith, leb-true v last y) in rw same (limited-small last (omega arith))) (λ n. limited-large v (leb-false v last n))

grows : (v base d : ℕ) → 2 ≤ base → v ≤ v * base + d
grows v base d h = let m : v * 1 ≤ v * base = mul-le-mul_left v (one base h) in omega (arith, mul-one v)
  where
    one : (base : ℕ) → 2 ≤ base → 1 ≤ base
    one base h = omega arith

-- limited at each digit or at the end is the same
limited-turn : (v base d : ℕ) → 2 ≤ base → limited (limited v * base + d) ≡ limited (v * base + d)
limited-turn v base d h =
    by-test (leb v last)
    (λ y. ap (λ (u : ℕ). limited (u * base + d)) (sym (limited-small v (leb-true v last y))))
    (λ n.
    let over = leb-false v last n in
    ap (λ (u : ℕ). limited (u * base + d)) (sym (limited-large v over)) ∙ sym (limited-most (last * base + d) (grows last base d h)) ∙ limited-large (v * base + d) (above v base d h over))
  where
    above : (v base d : ℕ) → 2 ≤ base → last < v → last < v * base + d
    above v base d h o = omega (arith, grows v base d h)

-- ---- the loop

value-append : (base v : ℕ) (xs ys : List ℕ) → value_from base v (xs ++ ys) ≡ value_from base (value_from base v xs) ys
unfolding value_from
value-append base v [] ys = refl
value-append base v (x ∷ xs) ys = value-append base (v * base + digit_of x) xs ys

value-one : (base v b : ℕ) → value_from base v (b ∷ []) ≡ v * base + digit_of b
unfolding value_from
value-one base v b = refl

-- the first i digits are read, and the rest decides
pub record Read (base : ℕ) (text : List ℕ) (i value : ℕ) : Type 0 where
  pub so_far : value ≡ limited (value_from base 0 (take i text))
  pub rest : are_digit_bytes base text ≡ are_digit_bytes base (drop i text)

pub read-start : (base : ℕ) (text : List ℕ) → Read base text 0 0
unfolding value_from limited
read-start base text = record { so_far = refl; rest = refl }

digits-next : (base : ℕ) (text : List ℕ) (i : ℕ) → i < length text → are_digit_bytes base (drop i text) ≡ (ltb (digit_of (get_or text i 0)) base && are_digit_bytes base (drop (suc i) text))
unfolding are_digit_bytes
digits-next base text i h = ap (are_digit_bytes base) (drop-cons text i 0 h)

pub read-turn : (base : ℕ) (text : List ℕ) (i value value' d : ℕ) → 2 ≤ base → i < length text → Read base text i value → d ≡ digit_of (get_or text i 0) → d < base → value' ≡ limited (value * base + d) → Read base text (i + 1) value'
read-turn base text i value value' d h b r p q v =
    record {
      so_far =
          v
          ∙ rw r.so_far (limited-turn (value_from base 0 (take i text)) base d h)
          ∙ ap limited
          (ap (λ (x : ℕ). value_from base 0 (take i text) * base + x) p
          ∙ sym (value-one base (value_from base 0 (take i text)) (get_or text i 0))
          ∙ sym (value-append base 0 (take i text) (get_or text i 0 ∷ []))
          ∙ ap (value_from base 0) (sym (ap (λ (k : ℕ). take k text) (add-one i) ∙ take-suc text i 0 b)));
      rest = r.rest ∙ digits-next base text i b ∙ rw (← p, lt-ltb d base q, add-one i);
    }

pub read_none : (base : ℕ) (text : List ℕ) → length text ≡ 0 → None ≡ number_of base text
unfolding number_of
read_none base text n = rw n

pub read-other : (base : ℕ) (text : List ℕ) (i value d : ℕ) → i < length text → Read base text i value → d ≡ digit_of (get_or text i 0) → base ≤ d → None ≡ number_of base text
unfolding number_of
read-other base text i value d b r p q =
    let no : are_digit_bytes base text ≡ false = r.rest ∙ digits-next base text i b ∙ rw (← p, le-ltb d base q) in
    rw (no, lt-ltb 0 (length text) (omega arith))

digits-none : (base : ℕ) → are_digit_bytes base [] ≡ true
unfolding are_digit_bytes
digits-none base = refl

pub read_all : (base : ℕ) (text : List ℕ) (i value : ℕ) → 0 < length text → i ≡ length text → Read base text i value → Some value ≡ number_of base text
unfolding number_of
read_all base text i value some e r =
    let yes-all : are_digit_bytes base text ≡ true = r.rest ∙ ap (are_digit_bytes base) (drop_of_length-le text {i = i} (omega arith)) ∙ digits-none base in
    let all : take i text ≡ text = ap (λ (k : ℕ). take k text) e ∙ take-length text in
    rw (yes-all, lt-ltb 0 (length text) some) (ap Some (r.so_far ∙ ap (λ (t : List ℕ). limited (value_from base 0 t)) all))
