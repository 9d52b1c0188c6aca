-- The fields of a frame one by one: what stands in all runs together is what stands in each field.
use Rattle.std.specs.Prelude.{◌≡◌, refl, true, List, [], ◌∷◌, ◌++◌, ℕ, suc, ◌*◌, ◌/◌, ◌%◌, ◌^◌, ◌<◌, leb, length, take, drop}
use Rattle.std.proofs.Common.{sym, ap, ap₂, ◌∙◌, subst, mod-lt, mod-eq_of_lt, arith, leb-true, le-leb, pow_pos, pow-add, take_at, drop_at}
use Rattle.timecode.specs.Frames.{are_digits, total_width}
use Rattle.timecode.specs.Laws.Digits.{capacity, joined, Below, Positive}
use Rattle.timecode.proofs.Laws.Digits.{digits-of-joined, joined-of-digits, number-joined, length_digits}
use Rattle.timecode.proofs.Laws.Tests.{and_left, and_right}
use Rattle.timecode.specs.Layout.{Run, Field, flatten, field_digits, all_digits, digit_in, number_in, Small, decode}
use Rattle.timecode.specs.Laws.Fields.{Each, AreDigits, Binary}

pub decode-append : (frame : List ℕ) (rs qs : List Run) → decode (rs ++ qs) frame ≡ decode rs frame ++ decode qs frame
decode-append frame [] qs = refl
decode-append frame (r ∷ rs) qs = ap (λ (xs : List ℕ). digit_in frame r ∷ xs) (decode-append frame rs qs)

length-decode : (frame : List ℕ) (rs : List Run) → length (decode rs frame) ≡ length rs
length-decode frame [] = refl
length-decode frame (r ∷ rs) = ap suc (length-decode frame rs)

-- two lists in two parts each, the first parts of one length
apart : (xs ys us vs : List ℕ) → length xs ≡ length us → xs ++ ys ≡ us ++ vs → (xs ≡ us) × (ys ≡ vs)
apart xs ys us vs l h = (
  sym (take_at xs ys (length us) l) ∙ ap (take (length us)) h ∙ take_at us vs (length us) refl,
  sym (drop_at xs ys (length us) l) ∙ ap (drop (length us)) h ∙ drop_at us vs (length us) refl,
)

pub fields-apart : (frame : List ℕ) (ds : List Field) (xs : List ℕ) → length ds ≡ length xs → decode (flatten ds) frame ≡ all_digits ds xs → Each (λ d x. decode d frame ≡ field_digits d x) ds xs
fields-apart frame [] [] l h = tt
fields-apart frame [] (x ∷ xs) l h = let z : ⊥ = omega arith in absurd z
fields-apart frame (d ∷ ds) [] l h = let z : ⊥ = omega arith in absurd z
fields-apart frame (d ∷ ds) (x ∷ xs) l h =
    let p = apart (decode d frame) (decode (flatten ds) frame) (field_digits d x) (all_digits ds xs) (length-decode frame d ∙ sym (length_digits d x)) (sym (decode-append frame d (flatten ds)) ∙ h) in
    (p.0, fields-apart frame ds xs (omega arith) p.1)

pub fields-together : (frame : List ℕ) (ds : List Field) (xs : List ℕ) → Each (λ d x. field_digits d x ≡ decode d frame) ds xs → all_digits ds xs ≡ decode (flatten ds) frame
fields-together frame [] [] e = refl
fields-together frame [] (x ∷ xs) e = absurd e
fields-together frame (d ∷ ds) [] e = absurd e
fields-together frame (d ∷ ds) (x ∷ xs) e = ap₂ (λ (ys zs : List ℕ). ys ++ zs) e.0 (fields-together frame ds xs e.1) ∙ sym (decode-append frame d (flatten ds))

-- ---- the number in a field

-- a field whose digits are those of x holds x, as far as it has digits
pub number-back : (frame : List ℕ) (d : Field) (x : ℕ) → Positive d → x < capacity d → decode d frame ≡ field_digits d x → number_in frame d ≡ x
number-back frame d x p l h = number-joined frame d ∙ ap (joined d) h ∙ joined-of-digits d x p ∙ mod-eq_of_lt l

-- a field whose digits are below their radices has the digits of the number in it
pub digits-back : (frame : List ℕ) (d : Field) → Below d (decode d frame) → field_digits d (number_in frame d) ≡ decode d frame
digits-back frame d b = ap (field_digits d) (number-joined frame d) ∙ digits-of-joined d (decode d frame) b

-- ---- decimal fields

pub are-digits : (frame : List ℕ) (rs : List Run) → are_digits frame rs ≡ true → AreDigits (decode rs frame)
are-digits frame [] h = tt
are-digits frame (r ∷ rs) h = (leb-true (digit_in frame r) 9 (and_left (leb (digit_in frame r) 9) (are_digits frame rs) h), are-digits frame rs (and_right (leb (digit_in frame r) 9) (are_digits frame rs) h))

pub digits_are : (frame : List ℕ) (rs : List Run) → AreDigits (decode rs frame) → are_digits frame rs ≡ true
digits_are frame [] h = refl
digits_are frame (r ∷ rs) h = rw (le-leb (digit_in frame r) 9 h.0) (digits_are frame rs h.1)

-- ---- binary fields

pub binary-positive : (d : Field) → Binary d → Positive d
binary-positive [] b = tt
binary-positive (r ∷ rs) b = (subst (λ (n : ℕ). 0 < n) (sym b.0) (pow_pos r.width), binary-positive rs b.1)

pub binary-capacity : (d : Field) → Binary d → capacity d ≡ 2 ^ total_width d
binary-capacity [] b = refl
binary-capacity (r ∷ rs) b = ap₂ (λ (m n : ℕ). m * n) b.0 (binary-capacity rs b.1) ∙ sym (pow-add 2 r.width (total_width rs))

pub binary-small : (d : Field) (x : ℕ) → Binary d → Small d (field_digits d x)
binary-small [] x b = tt
binary-small (r ∷ rs) x b =
    let p = binary-positive (r ∷ rs) b in
    (subst (λ (n : ℕ). x % r.radix < n) b.0 (mod-lt x p.0), binary-small rs (x / r.radix) b.1)

pub binary-below : (d : Field) (xs : List ℕ) → Binary d → Small d xs → Below d xs
binary-below [] [] b s = tt
binary-below [] (x ∷ xs) b s = s
binary-below (r ∷ rs) [] b s = s
binary-below (r ∷ rs) (x ∷ xs) b s = (subst (λ (n : ℕ). x < n) (sym b.0) s.0, binary-below rs xs b.1 s.1)
