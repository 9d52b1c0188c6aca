-- Writing digits at runs and reading them from there are inverse, at any layout that passes the test `proper`.
use Rattle.std.specs.Prelude.{◌≡◌, true, ◌&&◌, leb, ltb, eqb, length, take, set}
use Rattle.std.proofs.Math.Path.{refl, ap, ap₂}
use Rattle.std.proofs.Common.{sym, ◌∙◌, add-zero, add-suc, zero-add, not-suc-le-zero, add-one, ext_get_or, take-suc-set}
use Rattle.std.proofs.Math.Bool.{false, not}
use mathlib.Core.List.{List, [], ◌∷◌, ◌++◌}
use Prim.Native.Nat.{ℕ, zero, suc, ◌+◌, ◌-◌, ◌<◌, ◌≤◌}
use Rattle.std.proofs.Math.Nat.{suc-add, mod-eq_of_lt}
use native.Mathlib.Omega.{arith}
use borrow.Author.Tests.{ltb-true, leb-true, eqb-true, not-true, lt-ltb, le-leb, eq-eqb, ne_eqb}
use Rattle.std.proofs.Math.ListN.{get_or}
use Rattle.std.proofs.Math.Seq.{take-length}
use Rattle.timecode.specs.Frames.{covered, marks_agree, element_fits}
use Rattle.timecode.proofs.Laws.Bits.{value-of-bits, value-small, bits_of_value}
use Rattle.timecode.proofs.Laws.Tests.{by-test, clash, and_left, and_right, or-other, or-first, or-second, neither-first, neither-second}
use Rattle.timecode.specs.Layout.{Run, in_run, bit_of, place_of, symbol_at, tabulate, encode, Small, decode}
use Rattle.timecode.specs.Laws.Runs.{clear, proper}

-- ---- a list by its index

pub length-tabulate {ℓ} : {A : Type ℓ} (n i : ℕ) (g : ℕ → A) → length (tabulate n i g) ≡ n
length-tabulate zero i g = refl
length-tabulate (suc n) i g = ap suc (length-tabulate n (suc i) g)

pub get_d_tabulate {ℓ} : {A : Type ℓ} (n i : ℕ) (g : ℕ → A) (d : A) (k : ℕ) → k < n → get_or (tabulate n i g) k d ≡ g (i + k)
get_d_tabulate zero i g d k h = absurd (not-suc-le-zero h)
get_d_tabulate (suc n) i g d zero h = ap g (sym (add-zero i))
get_d_tabulate (suc n) i g d (suc k) h = get_d_tabulate n (suc i) g d k (omega arith) ∙ ap g (suc-add i k ∙ sym (add-suc i k))

pub tabulate-same : (n : ℕ) (g h : ℕ → ℕ) → ((k : ℕ) → k < n → g k ≡ h k) → tabulate n 0 g ≡ tabulate n 0 h
tabulate-same n g h p =
    ext_get_or 0 (tabulate n 0 g) (tabulate n 0 h) (length-tabulate n 0 g ∙ sym (length-tabulate n 0 h))
    (λ i m.
    let k : i < n = rw (length-tabulate n 0 g) at m in
    get_d_tabulate n 0 g 0 i k ∙ ap g (zero-add i) ∙ p i k ∙ sym (get_d_tabulate n 0 h 0 i k ∙ ap h (zero-add i)))

pub tabulate-self : (xs : List ℕ) → tabulate (length xs) 0 (λ i. get_or xs i 0) ≡ xs
tabulate-self xs =
    ext_get_or 0 (tabulate (length xs) 0 (λ i. get_or xs i 0)) xs (length-tabulate (length xs) 0 (λ i. get_or xs i 0))
    (λ i m.
    let k : i < length xs = rw (length-tabulate (length xs) 0 (λ i. get_or xs i 0)) at m in
    get_d_tabulate (length xs) 0 (λ i. get_or xs i 0) 0 i k ∙ ap (λ (j : ℕ). get_or xs j 0) (zero-add i))

-- one more at the end, as a loop that fills a list stores it
tabulate-more : {A : Type 0} (n i : ℕ) (g : ℕ → A) → tabulate (suc n) i g ≡ tabulate n i g ++ (g (i + n) ∷ [])
tabulate-more {A} zero i g = ap (λ (k : ℕ). g k ∷ []) (sym (add-zero i))
tabulate-more {A} (suc n) i g = ap (λ (xs : List A). g i ∷ xs) (tabulate-more n (suc i) g ∙ ap (λ (k : ℕ). tabulate n (suc i) g ++ (g k ∷ [])) (suc-add i n ∙ sym (add-suc i n)))

pub fill_step : {A : Type 0} (xs : List A) (g : ℕ → A) (i : ℕ) → i < length xs → take i xs ≡ tabulate i 0 g → take (i + 1) (set xs i (g i)) ≡ tabulate (i + 1) 0 g
fill_step {A} xs g i h p =
    rw (add-one i)
    (take-suc-set xs i (g i) h ∙ ap (λ (ys : List A). ys ++ (g i ∷ [])) p ∙ sym (tabulate-more i 0 g ∙ ap (λ (k : ℕ). tabulate i 0 g ++ (g k ∷ [])) (zero-add i)))

pub fill_end : {A : Type 0} (xs : List A) (g : ℕ → A) (n : ℕ) → length xs ≡ n → take n xs ≡ tabulate n 0 g → xs ≡ tabulate n 0 g
fill_end xs g n l p = sym (take-length xs) ∙ ap (λ (k : ℕ). take k xs) l ∙ p

-- ---- the symbols of a frame by their index

pub get_d-encode : (n : ℕ) (fillers : ℕ → ℕ) (rs : List Run) (xs : List ℕ) (i : ℕ) → i < n → get_or (encode n fillers rs xs) i 0 ≡ symbol_at fillers rs xs i
unfolding encode
get_d-encode n fillers rs xs i h = get_d_tabulate n 0 (symbol_at fillers rs xs) 0 i h ∙ ap (symbol_at fillers rs xs) (zero-add i)

pub length-encode : (n : ℕ) (fillers : ℕ → ℕ) (rs : List Run) (xs : List ℕ) → length (encode n fillers rs xs) ≡ n
unfolding encode
length-encode n fillers rs xs = length-tabulate n 0 (symbol_at fillers rs xs)

-- ---- one run

pub in-run : (r : Run) (i : ℕ) → in_run r i ≡ true → (r.start ≤ i) × (i < r.start + r.width)
in-run r i h = (
  leb-true r.start i (and_left (leb r.start i) (ltb i (r.start + r.width)) h),
  ltb-true i (r.start + r.width) (and_right (leb r.start i) (ltb i (r.start + r.width)) h),
)

run_in : (r : Run) (i : ℕ) → r.start ≤ i → i < r.start + r.width → in_run r i ≡ true
run_in r i a b = rw (le-leb r.start i a, lt-ltb i (r.start + r.width) b)

pub place_in : (r : Run) (b : ℕ) → b < r.width → in_run r (place_of r b) ≡ true
place_in r b h =
    by-test r.falls
    (λ y. rw y (run_in r (r.start + (r.width - 1 - b)) (omega arith) (omega arith)))
    (λ m. rw m (run_in r (r.start + b) (omega arith) (omega arith)))

bit-of-place : (r : Run) (b : ℕ) → b < r.width → bit_of r (place_of r b) ≡ b
bit-of-place r b h = by-test r.falls (λ y. rw y (omega arith)) (λ m. rw m (omega arith))

place-of-bit : (r : Run) (i : ℕ) → in_run r i ≡ true → (place_of r (bit_of r i) ≡ i) × (bit_of r i < r.width)
place-of-bit r i h = let p = in-run r i h in by-test r.falls (λ y. rw y (omega arith)) (λ m. rw m (omega arith))

-- ---- the test of a layout: each element of a run lies in the frame, is no mark and is in no later run

pub small-length : (rs : List Run) (xs : List ℕ) → Small rs xs → length xs ≡ length rs
small-length [] [] s = refl
small-length [] (x ∷ xs) s = absurd s
small-length (r ∷ rs) [] s = absurd s
small-length (r ∷ rs) (x ∷ xs) s = ap suc (small-length rs xs s.1)

pub small-append : (rs qs : List Run) (xs ys : List ℕ) → Small rs xs → Small qs ys → Small (rs ++ qs) (xs ++ ys)
small-append [] qs [] ys a b = b
small-append [] qs (x ∷ xs) ys a b = absurd a
small-append (r ∷ rs) qs [] ys a b = absurd a
small-append (r ∷ rs) qs (x ∷ xs) ys a b = (a.0, small-append rs qs xs ys a.1 b)

module _ (n : ℕ) (fillers : ℕ → ℕ) where
  Clear : List Run → ℕ → Type 0
  Clear rs i = (i < n) × (eqb (fillers i) 2 ≡ false) × (covered rs i ≡ false)

  clear_at : (rs : List Run) (s w : ℕ) → clear n fillers rs s w ≡ true → (b : ℕ) → b < w → Clear rs (s + b)
  unfolding clear Clear
  clear_at rs s zero t b h = absurd (not-suc-le-zero h)
  clear_at rs s (suc w) t zero h =
      let here = and_left (ltb s n && (not (eqb (fillers s) 2) && not (covered rs s))) (clear n fillers rs (suc s) w) t in
      let free = and_right (ltb s n) (not (eqb (fillers s) 2) && not (covered rs s)) here in
      rw (add-zero s) (
        ltb-true s n (and_left (ltb s n) (not (eqb (fillers s) 2) && not (covered rs s)) here),
        not-true (eqb (fillers s) 2) (and_left (not (eqb (fillers s) 2)) (not (covered rs s)) free),
        not-true (covered rs s) (and_right (not (eqb (fillers s) 2)) (not (covered rs s)) free),
      )
  clear_at rs s (suc w) t (suc b) h =
      rw (add-suc s b, ← suc-add s b) (clear_at rs (suc s) w (and_right (ltb s n && (not (eqb (fillers s) 2) && not (covered rs s))) (clear n fillers rs (suc s) w) t) b (omega arith))

  clear_in : (rs : List Run) (r : Run) → proper n fillers (r ∷ rs) ≡ true → (i : ℕ) → in_run r i ≡ true → Clear rs i
  unfolding proper
  clear_in rs r t i h =
      let p = in-run r i h in
      let u : r.start + (i - r.start) ≡ i = omega arith in
      rw u at (clear_at rs r.start r.width (and_left (clear n fillers rs r.start r.width) (proper n fillers rs) t) (i - r.start) (omega arith))

  pub later-proper : (rs : List Run) (r : Run) → proper n fillers (r ∷ rs) ≡ true → proper n fillers rs ≡ true
  unfolding proper
  later-proper rs r t = and_right (clear n fillers rs r.start r.width) (proper n fillers rs) t

  -- no later run holds an element of this one
  pub covered-once : (rs : List Run) (r : Run) → proper n fillers (r ∷ rs) ≡ true → (i : ℕ) → in_run r i ≡ true → covered rs i ≡ false
  unfolding Clear
  covered-once rs r t i h = (clear_in rs r t i h).2

  pub covered-inside : (rs : List Run) → proper n fillers rs ≡ true → (i : ℕ) → covered rs i ≡ true → (i < n) × (eqb (fillers i) 2 ≡ false)
  unfolding Clear
  covered-inside [] t i h = clash h refl
  covered-inside (r ∷ rs) t i h =
      by-test (in_run r i)
      (λ y. let a = clear_in rs r t i y in (a.0, a.1))
      (λ m. covered-inside rs (later-proper rs r t) i (or-other (in_run r i) (covered rs i) m h))

  -- ---- digits to frame to digits

  read_back : (frame : List ℕ) (rs : List Run) (xs : List ℕ) → proper n fillers rs ≡ true → Small rs xs → ((i : ℕ) → covered rs i ≡ true → get_or frame i 0 ≡ symbol_at fillers rs xs i) → decode rs frame ≡ xs
  unfolding symbol_at Clear
  read_back frame [] [] t s h = refl
  read_back frame [] (x ∷ xs) t s h = absurd s
  read_back frame (r ∷ rs) [] t s h = absurd s
  read_back frame (r ∷ rs) (x ∷ xs) t s h =
      ap₂ (λ (y : ℕ) (ys : List ℕ). y ∷ ys)
      (value-of-bits r.width (λ b. get_or frame (place_of r b) 0) x
      (λ b l.
      let y = place_in r b l in
      h (place_of r b) (or-first (in_run r (place_of r b)) (covered rs (place_of r b)) y) ∙ rw (y, bit-of-place r b l))
      ∙ mod-eq_of_lt s.0)
      (read_back frame rs xs (later-proper rs r t) s.1
      (λ i k.
      let m : in_run r i ≡ false = by-test (in_run r i) (λ y. clash k (clear_in rs r t i y).2) (λ m. m) in
      h i (or-second (in_run r i) (covered rs i) k) ∙ rw m))

  pub decode-encode : (rs : List Run) (xs : List ℕ) → proper n fillers rs ≡ true → Small rs xs → decode rs (encode n fillers rs xs) ≡ xs
  decode-encode rs xs t s = read_back (encode n fillers rs xs) rs xs t s (λ i k. get_d-encode n fillers rs xs i (covered-inside rs t i k).0)

  -- ---- frame to digits to frame

  pub symbol-free : (rs : List Run) (xs : List ℕ) (i : ℕ) → covered rs i ≡ false → symbol_at fillers rs xs i ≡ fillers i
  unfolding symbol_at
  symbol-free [] xs i h = refl
  symbol-free (r ∷ rs) [] i h = refl
  symbol-free (r ∷ rs) (x ∷ xs) i h = rw (neither-first (in_run r i) (covered rs i) h) (symbol-free rs xs i (neither-second (in_run r i) (covered rs i) h))

  pub symbol-covered : (rs : List Run) (xs : List ℕ) → length xs ≡ length rs → (i : ℕ) → covered rs i ≡ true → symbol_at fillers rs xs i < 2
  unfolding symbol_at
  symbol-covered [] xs l i h = clash h refl
  symbol-covered (r ∷ rs) [] l i h = let n : ⊥ = omega arith in absurd n
  symbol-covered (r ∷ rs) (x ∷ xs) l i h = by-test (in_run r i) (λ y. rw y (omega arith)) (λ m. rw m (symbol-covered rs xs (omega arith) i (or-other (in_run r i) (covered rs i) m h)))

  -- every element of the frame fits its place, so that none offends
  abbrev pub Clean : List Run → List ℕ → Type 0
  Clean rs frame = (i : ℕ) → i < n → element_fits fillers rs i (get_or frame i 0) ≡ true

  clean-covered : (rs : List Run) (i s : ℕ) → element_fits fillers rs i s ≡ true → covered rs i ≡ true → s < 2
  unfolding element_fits
  clean-covered rs i s h y = ltb-true s 2 (rw y at h)

  clean_free : (rs : List Run) (i s : ℕ) → element_fits fillers rs i s ≡ true → covered rs i ≡ false → s ≡ fillers i
  unfolding element_fits
  clean_free rs i s h y = eqb-true s (fillers i) (rw y at h)

  -- an element that fits its place is a mark exactly where one belongs
  pub fits-agree : (rs : List Run) (i s : ℕ) → element_fits fillers rs i s ≡ true → marks_agree fillers rs i s ≡ true
  unfolding marks_agree
  fits-agree rs i s h =
      by-test (covered rs i)
      (λ y. let b : s < 2 = clean-covered rs i s h y in rw (y, ne_eqb s 2 (λ e. omega arith)))
      (λ m.
      rw (m, ← clean_free rs i s h m)
      (by-test (eqb s 2) (λ u. rw u) (λ u. rw u)))

  pub clean-bits : (rs : List Run) (frame : List ℕ) → proper n fillers rs ≡ true → Clean rs frame → (i : ℕ) → covered rs i ≡ true → get_or frame i 0 < 2
  clean-bits rs frame t c i h = clean-covered rs i (get_or frame i 0) (c i (covered-inside rs t i h).0) h

  symbol-decoded : (frame : List ℕ) (rs : List Run) → ((i : ℕ) → covered rs i ≡ true → get_or frame i 0 < 2) → (i : ℕ) → covered rs i ≡ true → symbol_at fillers rs (decode rs frame) i ≡ get_or frame i 0
  unfolding symbol_at
  symbol-decoded frame [] b i h = clash h refl
  symbol-decoded frame (r ∷ rs) b i h =
      by-test (in_run r i)
      (λ y.
      let p = place-of-bit r i y in
      rw y
      (bits_of_value r.width (λ k. get_or frame (place_of r k) 0) (λ k l. b (place_of r k) (or-first (in_run r (place_of r k)) (covered rs (place_of r k)) (place_in r k l))) (bit_of r i) p.1
      ∙ ap (λ (k : ℕ). get_or frame k 0) p.0))
      (λ m. rw m (symbol-decoded frame rs (λ k l. b k (or-second (in_run r k) (covered rs k) l)) i (or-other (in_run r i) (covered rs i) m h)))

  pub encode-decode : (rs : List Run) (frame : List ℕ) → proper n fillers rs ≡ true → length frame ≡ n → Clean rs frame → encode n fillers rs (decode rs frame) ≡ frame
  encode-decode rs frame t l c =
      ext_get_or 0 (encode n fillers rs (decode rs frame)) frame (length-encode n fillers rs (decode rs frame) ∙ sym l)
      (λ i h.
      let k : i < n = rw (length-encode n fillers rs (decode rs frame)) at h in
      get_d-encode n fillers rs (decode rs frame) i k
      ∙ by-test (covered rs i)
      (λ y. symbol-decoded frame rs (clean-bits rs frame t c) i y)
      (λ m. symbol-free rs (decode rs frame) i m ∙ sym (clean_free rs i (get_or frame i 0) (c i k) m)))

  pub encode-clean : (rs : List Run) (xs : List ℕ) → length xs ≡ length rs → Clean rs (encode n fillers rs xs)
  unfolding element_fits
  encode-clean rs xs l i h =
      rw (get_d-encode n fillers rs xs i h)
      (by-test (covered rs i)
      (λ y. rw (y, lt-ltb (symbol_at fillers rs xs i) 2 (symbol-covered rs xs l i y)))
      (λ m. rw (m, eq-eqb (symbol_at fillers rs xs i) (fillers i) (symbol-free rs xs i m))))

pub small-decoded : (frame : List ℕ) (rs : List Run) → ((i : ℕ) → covered rs i ≡ true → get_or frame i 0 < 2) → Small rs (decode rs frame)
small-decoded frame [] b = tt
small-decoded frame (r ∷ rs) b = (
  value-small r.width (λ k. get_or frame (place_of r k) 0) (λ k l. b (place_of r k) (or-first (in_run r (place_of r k)) (covered rs (place_of r k)) (place_in r k l))),
  small-decoded frame rs (λ i h. b i (or-second (in_run r i) (covered rs i) h)),
)

pub small-front : (frame : List ℕ) (rs qs : List Run) → Small (rs ++ qs) (decode (rs ++ qs) frame) → Small rs (decode rs frame)
small-front frame [] qs s = tt
small-front frame (r ∷ rs) qs s = (s.0, small-front frame rs qs s.1)

pub small-back : (frame : List ℕ) (rs qs : List Run) → Small (rs ++ qs) (decode (rs ++ qs) frame) → Small qs (decode qs frame)
small-back frame [] qs s = s
small-back frame (r ∷ rs) qs s = small-back frame rs qs s.1

-- an index of one of the runs is covered
pub covered-at : (rs : List Run) (none : Run) (j i : ℕ) → j < length rs → in_run (get_or rs j none) i ≡ true → covered rs i ≡ true
covered-at [] none j i h y = absurd (not-suc-le-zero h)
covered-at (r ∷ rs) none zero i h y = or-first (in_run r i) (covered rs i) y
covered-at (r ∷ rs) none (suc j) i h y = or-second (in_run r i) (covered rs i) (covered-at rs none j i (omega arith) y)
