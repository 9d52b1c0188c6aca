-- The digits of a number in a field, and the number that digits make: each gives the other back, at any radices.
use Rattle.std.specs.Prelude.{◌≡◌, refl, List, [], ◌∷◌, ℕ, suc, ◌+◌, ◌*◌, ◌/◌, ◌%◌, ◌<◌, length}
use Rattle.std.proofs.Common.{sym, ap, ap₂, ◌∙◌, mod-eq_of_lt, mod-lt, mul_comm, mul-pos, zero-add, add_comm, arith}
use Rattle.std.proofs.Math.Nat.{add-mul-div_left, add-mul-mod_self_left, div-eq_of_lt, mod-one}
use Rattle.std.proofs.Math.Arith.{mod-mul, digits_lt}
use Rattle.timecode.specs.Layout.{Field, field_digits, digit_in, number_in, decode}
use Rattle.timecode.specs.Laws.Digits.{joined, capacity, Below, Positive}

capacity-positive : (d : Field) → Positive d → 0 < capacity d
capacity-positive [] p = omega arith
capacity-positive (r ∷ rs) p = mul-pos p.0 (capacity-positive rs p.1)

pub digits-below : (d : Field) (x : ℕ) → Positive d → Below d (field_digits d x)
digits-below [] x p = tt
digits-below (r ∷ rs) x p = (mod-lt x p.0, digits-below rs (x / r.radix) p.1)

pub digits-of-joined : (d : Field) (xs : List ℕ) → Below d xs → field_digits d (joined d xs) ≡ xs
digits-of-joined [] [] b = refl
digits-of-joined [] (x ∷ xs) b = absurd b
digits-of-joined (r ∷ rs) [] b = absurd b
digits-of-joined (r ∷ rs) (x ∷ xs) b =
    let positive : 0 < r.radix = omega arith in
    let above : (x + r.radix * joined rs xs) / r.radix ≡ joined rs xs =
    add-mul-div_left x (joined rs xs) positive ∙ ap (λ (n : ℕ). n + joined rs xs) (div-eq_of_lt b.0) ∙ zero-add (joined rs xs) in
    ap₂ (λ (y : ℕ) (ys : List ℕ). y ∷ ys) (add-mul-mod_self_left x r.radix (joined rs xs) ∙ mod-eq_of_lt b.0) (ap (field_digits rs) above ∙ digits-of-joined rs xs b.1)

pub joined-of-digits : (d : Field) (x : ℕ) → Positive d → joined d (field_digits d x) ≡ x % capacity d
joined-of-digits [] x p = sym (mod-one x)
joined-of-digits (r ∷ rs) x p =
    ap (λ (n : ℕ). x % r.radix + r.radix * n) (joined-of-digits rs (x / r.radix) p.1)
    ∙ add_comm (x % r.radix) (r.radix * (x / r.radix % capacity rs))
    ∙ ap (λ (n : ℕ). n + x % r.radix) (mul_comm r.radix (x / r.radix % capacity rs))
    ∙ sym (mod-mul x (capacity-positive rs p.1) p.0)
    ∙ ap (λ (n : ℕ). x % n) (mul_comm (capacity rs) r.radix)

pub joined-lt : (d : Field) (xs : List ℕ) → Below d xs → joined d xs < capacity d
joined-lt [] [] b = omega arith
joined-lt [] (x ∷ xs) b = absurd b
joined-lt (r ∷ rs) [] b = absurd b
joined-lt (r ∷ rs) (x ∷ xs) b =
    let l : joined rs xs * r.radix + x < capacity rs * r.radix = digits_lt (joined-lt rs xs b.1) b.0 in
    omega (arith, mul_comm (joined rs xs) r.radix, mul_comm (capacity rs) r.radix)

-- digits that agree with a number as far as they go are its digits
pub digits-agree : (d : Field) (xs : List ℕ) (x : ℕ) → Positive d → Below d xs → joined d xs ≡ x % capacity d → field_digits d x ≡ xs
digits-agree d xs x p b h =
    sym (digits-of-joined d (field_digits d x) (digits-below d x p)) ∙ ap (field_digits d) (joined-of-digits d x p ∙ sym h) ∙ digits-of-joined d xs b

-- ---- the digits that stand in a frame

pub number-joined : (frame : List ℕ) (d : Field) → number_in frame d ≡ joined d (decode d frame)
number-joined frame [] = refl
number-joined frame (r ∷ rs) = ap (λ (n : ℕ). digit_in frame r + r.radix * n) (number-joined frame rs)

pub length_digits : (d : Field) (x : ℕ) → length (field_digits d x) ≡ length d
length_digits [] x = refl
length_digits (r ∷ rs) x = ap suc (length_digits rs (x / r.radix))
