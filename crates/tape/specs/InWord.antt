-- The frame of letter X in a word, two bits for each element, the last one lowest; what Read says of it, and when one comparison tells that every element fits.
use Rattle.timecode.specs.declared.Reading.{Reading}
use Rattle.std.specs.Prelude.{◌≡◌, refl, Bool, true, false, cond, not, ◌&&◌, List, ◌⊎◌, ℕ, zero, suc, ◌+◌, ◌*◌, ◌-◌, ◌/◌, ◌%◌, ◌^◌, ◌<◌, ◌≤◌, eqb, get_or, length, Result, Err}
use Rattle.std.proofs.Common.{sym, ap, ◌∙◌, inl, inr, zero-add, div-one, pow-suc, arith, le-leb, eqb-true, eq-eqb, pow-add}
use Rattle.std.proofs.Math.Nat.{div-div-eq-div-mul}
use Rattle.std.proofs.lemmas.Bool.{eqb-false}
use Rattle.std.specs.Int.Bits.{bit_and}
use Rattle.std.proofs.lemmas.Nat.{and_shr, and_mod, and_le_r}
use Rattle.timecode.specs.Formats.{is_x, known}
use Rattle.timecode.specs.Frames.{are_symbols, read_of}
use Rattle.timecode.proofs.Laws.Runs.{get_d_tabulate, length-tabulate}
use Rattle.timecode.specs.Laws.Tests.{every_below}
use Rattle.timecode.proofs.Laws.Tests.{by-test, clash, and_left, and_right, below-every}
use Rattle.timecode.specs.Layout.{tabulate}
use Rattle.timecode.specs.declared.Format.{Format}
use Rattle.timecode.specs.declared.Refusal.{Refusal}
use Rattle.timecode.specs.declared.Refusal.TheVariants.{MisplacedMark, InvalidElement}
use Rattle.tape.specs.Readings.{meaning_of, mark_fits, element_is, check_from, reads_so, misplaced, invalid, fits-here, checked-all}

unfoldable pub element_in : ℕ → ℕ → ℕ
element_in word i = word / 2 ^ (48 - i * 2) % 4

unfoldable pub elements_in : ℕ → List ℕ
elements_in word = tabulate 25 0 (element_in word)

pub word-long : (word : ℕ) → length (elements_in word) ≡ 25
unfolding elements_in
word-long word = length-tabulate 25 0 (element_in word)

pub element-at : (word i : ℕ) → i < 25 → get_or (elements_in word) i 0 ≡ element_in word i
unfolding elements_in
element-at word i h = get_d_tabulate 25 0 (element_in word) 0 i h ∙ ap (element_in word) (zero-add i)

pub element-small : (word i : ℕ) → element_in word i ≤ 3
unfolding element_in
element-small word i = omega arith

small-symbols : (n i : ℕ) (g : ℕ → ℕ) → ((k : ℕ) → g k ≤ 3) → are_symbols (tabulate n i g) ≡ true
small-symbols zero i g h = refl
small-symbols (suc n) i g h = rw (le-leb (g i) 3 (h i)) (small-symbols n (suc i) g h)

are-symbols : (word : ℕ) → are_symbols (elements_in word) ≡ true
unfolding elements_in
are-symbols word = small-symbols 25 0 (element_in word) (element-small word)

-- Read checks the elements, then 7: no two bits are above 3.
reads_word : (f : Format) (word : ℕ) → is_x f ≡ true → known f ≡ true → read_of f (elements_in word) ≡ check_from (elements_in word) 0 (meaning_of (elements_in word))
reads_word f word x k = reads_so f (elements_in word) x k (word-long word) ∙ rw (are-symbols word)

-- ---- every element fits

-- both bits of element 0 and of 21-24, the higher one of 1-20; and what they are in a frame
abbrev pub fixed_bits : ℕ
fixed_bits = 1032074914605823

abbrev pub fixed : ℕ
fixed = 562949953421567

abbrev pub word_fits : ℕ → Bool
word_fits word = eqb (bit_and word fixed_bits) fixed

-- the bits of element i that are fixed, and what they are
abbrev bits_at : ℕ → ℕ
bits_at i = fixed_bits / 2 ^ (48 - i * 2) % 4

abbrev fixed_at : ℕ → ℕ
fixed_at i = fixed / 2 ^ (48 - i * 2) % 4

two-bits : (word s : ℕ) → bit_and word fixed_bits / 2 ^ s % 4 ≡ bit_and (word / 2 ^ s % 4) (fixed_bits / 2 ^ s % 4)
two-bits word s = ap (λ (n : ℕ). n % 4) (and_shr word fixed_bits s) ∙ and_mod (word / 2 ^ s) (fixed_bits / 2 ^ s) 2

-- two bits are those of an element that fits exactly if their fixed ones are a frame's
abbrev same_test : ℕ → ℕ → Bool
same_test i e = cond (eqb (bit_and e (bits_at i)) (fixed_at i)) (mark_fits i e && element_is i e) (not (element_is i e))

every-same : every_below 25 (λ i. every_below 4 (same_test i)) ≡ true
every-same = refl

same_at : (word i : ℕ) → i < 25 → same_test i (element_in word i) ≡ true
same_at word i b = let e = element-small word i in below-every 4 (same_test i) (below-every 25 (λ i. every_below 4 (same_test i)) every-same i b) (element_in word i) (omega arith)

fits-at : (word i : ℕ) → i < 25 → bit_and word fixed_bits ≡ fixed → (mark_fits i (element_in word i) && element_is i (element_in word i)) ≡ true
unfolding element_in
fits-at word i b h = rw (eq-eqb (bit_and (element_in word i) (bits_at i)) (fixed_at i) (sym (two-bits word (48 - i * 2)) ∙ ap (λ (n : ℕ). n / 2 ^ (48 - i * 2) % 4) h)) at (same_at word i b)

-- and the other way
bits-at : (word i : ℕ) → i < 25 → element_is i (element_in word i) ≡ true → bit_and word fixed_bits / 2 ^ (48 - i * 2) % 4 ≡ fixed_at i
unfolding element_in
bits-at word i b y =
    two-bits word (48 - i * 2)
    ∙ by-test (eqb (bit_and (element_in word i) (bits_at i)) (fixed_at i))
    (λ q. eqb-true (bit_and (element_in word i) (bits_at i)) (fixed_at i) q)
    (λ n. clash (rw (n, y) at (same_at word i b)) refl)

-- numbers are equal if each two bits are
by_bits : (k x y : ℕ) → x < 4 ^ k → y < 4 ^ k → ((j : ℕ) → j < k → x / 2 ^ (j * 2) % 4 ≡ y / 2 ^ (j * 2) % 4) → x ≡ y
by_bits zero x y a b h = omega arith
by_bits (suc k) x y a b h =
    let low : x % 4 ≡ y % 4 = ap (λ (n : ℕ). n % 4) (sym (div-one x)) ∙ h 0 (omega arith) ∙ ap (λ (n : ℕ). n % 4) (div-one y) in
    let high : x / 4 ≡ y / 4 = by_bits k (x / 4) (y / 4) (below x a) (below y b) (λ j l. ap (λ (n : ℕ). n % 4) (sym (higher x j)) ∙ h (suc j) (omega arith) ∙ ap (λ (n : ℕ). n % 4) (higher y j)) in
    omega arith
  where
    higher : (z j : ℕ) → z / 2 ^ (suc j * 2) ≡ z / 4 / 2 ^ (j * 2)
    higher z j = let twice : suc j * 2 ≡ 2 + j * 2 = omega arith in ap (λ (n : ℕ). z / n) (ap (λ (n : ℕ). 2 ^ n) twice ∙ pow-add 2 2 (j * 2)) ∙ sym (div-div-eq-div-mul z 4 (2 ^ (j * 2)))

    below : (z : ℕ) → z < 4 ^ suc k → z / 4 < 4 ^ k
    below z l = omega (arith, pow-suc 4 k)

module _ (word : ℕ) (answer : Result Reading Refusal) where
  fits-from : bit_and word fixed_bits ≡ fixed → (k i : ℕ) → i + k ≡ 25 → check_from (elements_in word) i answer ≡ answer
  fits-from same zero i q = checked-all (elements_in word) i answer (omega (arith, word-long word))
  fits-from same (suc k) i q =
      let b : i < 25 = omega arith in
      let s = element_in word i in
      let both = fits-at word i b same in
      fits-here (elements_in word) i answer (word-long word) b (rw (element-at word i b) (and_left (mark_fits i s) (element_is i s) both)) (rw (element-at word i b) (and_right (mark_fits i s) (element_is i s) both))
      ∙ fits-from same k (i + 1) (omega arith)

  -- what offends, or every element from i on fits
  abbrev FromOn : ℕ → Type 0
  FromOn i = ((x : Refusal) × (check_from (elements_in word) i answer ≡ Err x)) ⊎ ((j : ℕ) → i ≤ j → j < 25 → element_is j (element_in word j) ≡ true)

  from_on : (k i : ℕ) → i + k ≡ 25 → FromOn i
  from_on zero i q = inr (λ j a b. let no : ⊥ = omega arith in absurd no)
  from_on (suc k) i q =
      let b : i < 25 = omega arith in
      let s = element_in word i in
      let here = element-at word i b in
      by-test (mark_fits i s)
      (λ m.
      by-test (element_is i s)
      (λ e. onward (fits-here (elements_in word) i answer (word-long word) b (rw here m) (rw here e)) e (from_on k (i + 1) (omega arith)))
      (λ e. inl (InvalidElement i, invalid (elements_in word) i answer (word-long word) b (rw here m) (rw here e))))
      (λ m. inl (MisplacedMark i, misplaced (elements_in word) i answer (word-long word) b (rw here m)))
    where
      onward : check_from (elements_in word) i answer ≡ check_from (elements_in word) (i + 1) answer → element_is i (element_in word i) ≡ true → FromOn (i + 1) → FromOn i
      onward p e (inl (x, r)) = inl (x, p ∙ r)
      onward p e (inr g) = inr (λ j a b. by-test (eqb j i) (λ y. rw (eqb-true j i y) e) (λ n. let other = eqb-false j i n in g j (omega arith) b))

all-bits : (word : ℕ) → ((j : ℕ) → 0 ≤ j → j < 25 → element_is j (element_in word j) ≡ true) → bit_and word fixed_bits ≡ fixed
all-bits word g =
    by_bits 25 (bit_and word fixed_bits) fixed (omega (arith, and_le_r word fixed_bits)) (omega arith)
    (λ j l.
    let turned : 48 - (24 - j) * 2 ≡ j * 2 = omega arith in
    rw turned at (bits-at word (24 - j) (omega arith) (g (24 - j) (omega arith) (omega arith))))

-- A word that fits is read as its digits say, and any other is refused.
pub reads-fitting : (f : Format) (word : ℕ) → is_x f ≡ true → known f ≡ true → word_fits word ≡ true → read_of f (elements_in word) ≡ meaning_of (elements_in word)
reads-fitting f word x k y = reads_word f word x k ∙ fits-from word (meaning_of (elements_in word)) (eqb-true (bit_and word fixed_bits) fixed y) 25 0 refl

pub reads_other : (f : Format) (word : ℕ) → is_x f ≡ true → known f ≡ true → word_fits word ≡ false → (r : Refusal) × (read_of f (elements_in word) ≡ Err r)
reads_other f word x k n = decide (from_on word (meaning_of (elements_in word)) 25 0 refl)
  where
    decide : FromOn word (meaning_of (elements_in word)) 0 → (r : Refusal) × (read_of f (elements_in word) ≡ Err r)
    decide (inl (r, e)) = (r, reads_word f word x k ∙ e)
    decide (inr g) = clash (eq-eqb (bit_and word fixed_bits) fixed (all-bits word g)) n
