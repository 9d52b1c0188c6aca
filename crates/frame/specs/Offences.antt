-- What offends in a frame, found beside the frame that is written again from its digits: the lowest index where the two differ.
use Rattle.timecode.specs.declared.Reading.{Reading}
use Rattle.std.specs.Prelude.{◌≡◌, true, false, not, List, [], ◌∷◌, ltb, eqb, get_or, length, drop, Result, Err, Option, Some, None}
use Rattle.std.proofs.Math.Path.{refl, sym}
use Rattle.std.proofs.Common.{ap, ◌∙◌, not-suc-le-zero, zero-add, add-one, drop_of_length-le}
use Rattle.std.proofs.Math.Bool.{cond}
use Prim.Native.Nat.{ℕ, zero, suc, ◌+◌, ◌<◌, ◌≤◌}
use native.Mathlib.Omega.{arith}
use borrow.Author.Tests.{eqb-true, eqb-false, eq-eqb, ne_eqb, ltb-true, ltb-false, lt-ltb, le-ltb}
use Rattle.std.proofs.Math.Seq.{drop-cons}
use Rattle.timecode.specs.Formats.{is_x, known, size}
use Rattle.timecode.specs.Frames.{are_symbols, covered, marks_agree, element_fits, check_elements}
use Rattle.timecode.proofs.Laws.Runs.{get_d_tabulate, length-tabulate, Clean, fits-agree, clean-bits, encode-decode, covered-inside, small-decoded}
use Rattle.timecode.proofs.Laws.Table.{size-range}
use Rattle.timecode.proofs.Laws.Tests.{by-test, clash}
use Rattle.timecode.specs.Layout.{is_mark, filler, runs, tabulate, decode}
use Rattle.timecode.specs.declared.Format.{Format}
use Rattle.timecode.specs.declared.Refusal.{Refusal}
use Rattle.timecode.specs.declared.Refusal.TheVariants.{UnknownSymbol, MisplacedMark, InvalidElement}
use Rattle.layout.specs.Runs.{code_runs, code-elements, code-proper}
use Rattle.elements.specs.Carries.{put_low}
use Rattle.elements.specs.RunBits.{put_in, put_right, put-binary, length-put}

-- symbol s stands where the frame written again has m: 5 where either is a mark, else 6
unfoldable pub offence_at : ℕ → ℕ → ℕ → Option Refusal
offence_at m s i = cond (eqb m 2) (Some (MisplacedMark i)) (cond (eqb s 2) (Some (MisplacedMark i)) (Some (InvalidElement i)))

-- the lowest index where the two differ, counted from i on
unfoldable pub offended_from : ℕ → List ℕ → List ℕ → Option Refusal
offended_from i ms [] = None
offended_from i [] (s ∷ ss) = None
offended_from i (m ∷ ms) (s ∷ ss) = cond (eqb s m) (offended_from (suc i) ms ss) (offence_at m s i)

abbrev pub offended_of : List ℕ → List ℕ → Option Refusal
offended_of again frame = offended_from 0 again frame

-- the lowest index where the two differ, counted from i on; 255, past the end of every frame, where they do not
unfoldable pub lowest_from : ℕ → List ℕ → List ℕ → ℕ
lowest_from i ms [] = 255
lowest_from i [] (s ∷ ss) = 255
lowest_from i (m ∷ ms) (s ∷ ss) = cond (eqb s m) (lowest_from (suc i) ms ss) i

abbrev pub lowest_of : List ℕ → List ℕ → ℕ
lowest_of again frame = lowest_from 0 again frame

-- a symbol above 3 before all else
unfoldable pub offence_in : List ℕ → List ℕ → Option Refusal
offence_in again frame = cond (are_symbols frame) (offended_of again frame) (Some UnknownSymbol)

-- the answer, where an offence refuses
abbrev pub refused_or : Option Refusal → Result Reading Refusal → Result Reading Refusal
refused_or None answer = answer
refused_or (Some r) answer = Err r

-- ---- turns of the loops

-- the lowest index so far, or the one that is found from i on
abbrev pub lowest_or : ℕ → ℕ → ℕ
lowest_or low later = cond (eqb low 255) later low

-- the lowest index so far, once the elements at i are looked at
abbrev pub lowered : ℕ → ℕ → ℕ → ℕ → ℕ
lowered low m s i = cond (ltb low (cond (eqb s m) 255 i)) low (cond (eqb s m) 255 i)

pub lowest-turn : (again frame : List ℕ) (i low : ℕ) → i < length again → i < length frame → i < 255 → (low < 255 → low < i) → low ≤ 255
    → lowest_or low (lowest_from i (drop i again) (drop i frame)) ≡ lowest_or (lowered low (get_or again i 0) (get_or frame i 0) i) (lowest_from (i + 1) (drop (i + 1) again) (drop (i + 1) frame))
unfolding lowest_from
lowest-turn again frame i low a b l before most =
    rw (drop-cons again i 0 a, drop-cons frame i 0 b, add-one i)
    (by-test (eqb low 255)
    (λ y.
    rw (eqb-true low 255 y)
    (by-test (eqb (get_or frame i 0) (get_or again i 0))
    (λ z. rw z)
    (λ z. rw (z, le-ltb 255 i (omega arith), ne_eqb i 255 (λ e. omega arith)))))
    (λ n.
    let small : low < 255 = omega (arith, eqb-false low 255 n) in
    let found = before small in
    by-test (eqb (get_or frame i 0) (get_or again i 0))
    (λ z. rw (z, lt-ltb low 255 small, n))
    (λ z. rw (z, lt-ltb low i found, n))))

pub lowered-below : (m s i low : ℕ) → i < 255 → (low < 255 → low < i) → low ≤ 255 → (lowered low m s i < 255 → lowered low m s i < i + 1) × (lowered low m s i ≤ 255)
lowered-below m s i low l before most =
    by-test (eqb s m)
    (λ y. by-test (ltb low 255) (λ z. rw (y, z) ((λ h. let found = before h in omega arith), most)) (λ z. rw (y, z) ((λ h. omega arith), omega arith)))
    (λ n. by-test (ltb low i) (λ z. rw (n, z) ((λ h. omega (arith, ltb-true low i z)), most)) (λ z. rw (n, z) ((λ h. omega arith), omega arith)))

pub lowest-end : (again frame : List ℕ) (i low : ℕ) → length frame ≤ i → lowest_or low (lowest_from i (drop i again) (drop i frame)) ≡ low
unfolding lowest_from
lowest-end again frame i low h = rw (drop_of_length-le frame {i = i} h) (by-test (eqb low 255) (λ y. rw (y, eqb-true low 255 y)) (λ n. rw n))

-- ---- two that agree

pub same-nothing : (i : ℕ) (again frame : List ℕ) → length frame ≤ length again → ((k : ℕ) → k < length frame → get_or frame k 0 ≡ get_or again k 0) → offended_from i again frame ≡ None
unfolding offended_from
same-nothing i again [] l h = refl
same-nothing i [] (s ∷ ss) l h = absurd (not-suc-le-zero l)
same-nothing i (m ∷ ms) (s ∷ ss) l h = rw (eq-eqb s m (h 0 (omega arith))) (same-nothing (suc i) ms ss (omega arith) (λ k b. h (suc k) (omega arith)))

pub some-offence : (r : Refusal) → Some r ≡ None → ⊥
some-offence r h = let z : ◌≡◌ {A = ℕ} 0 1 = cc in omega arith

offence-some : (m s i : ℕ) → offence_at m s i ≡ None → ⊥
unfolding offence_at
offence-some m s i h =
    by-test (eqb m 2)
    (λ y. some-offence (MisplacedMark i) (rw y at h))
    (λ n. by-test (eqb s 2) (λ y. some-offence (MisplacedMark i) (rw (n, y) at h)) (λ o. some-offence (InvalidElement i) (rw (n, o) at h)))

-- ---- the lowest index where they differ offends

module _ (again frame : List ℕ) (l : length frame ≤ length again) (short : length frame ≤ 255) where
  abbrev offence_found : ℕ → Option Refusal
  offence_found low = cond (eqb low 255) None (offence_at (get_or again low 0) (get_or frame low 0) low)

  lowest-offends : (left i : ℕ) → i + left ≡ length frame → offended_from i (drop i again) (drop i frame) ≡ offence_found (lowest_from i (drop i again) (drop i frame))
  unfolding offended_from lowest_from
  lowest-offends zero i e = rw (drop_of_length-le frame {i = i} (omega arith))
  lowest-offends (suc left) i e =
      rw (drop-cons frame i 0 (omega arith), drop-cons again i 0 (omega arith))
      (by-test (eqb (get_or frame i 0) (get_or again i 0))
      (λ y. rw y (lowest-offends left (suc i) (omega arith)))
      (λ n. rw (n, ne_eqb i 255 (λ q. omega arith))))

  pub offended-lowest : (low : ℕ) → low ≡ lowest_of again frame → offended_of again frame ≡ cond (eqb low 255) None (offence_at (get_or again low 0) (get_or frame low 0) low)
  offended-lowest low e = lowest-offends (length frame) 0 (zero-add (length frame)) ∙ ap offence_found (sym e)

-- ---- the frame written again agrees below the lowest index that offends, and there it does not

module _ (f : Format) (frame : List ℕ) (k : known f ≡ true) (x : is_x f ≡ false) (n : length frame ≡ size f) where
  abbrev again : List ℕ
  again = put_in (size f) (decode (code_runs f) frame)

  -- all elements below i fit
  abbrev FitBelow : ℕ → Type 0
  FitBelow i = (j : ℕ) → j < i → element_fits (filler f) (code_runs f) j (get_or frame j 0) ≡ true

  fit-more : (i : ℕ) → FitBelow i → element_fits (filler f) (code_runs f) i (get_or frame i 0) ≡ true → FitBelow (suc i)
  fit-more i h e j l = by-test (ltb j i) (λ y. h j (ltb-true j i y)) (λ m. let last : j ≡ i = omega (arith, ltb-false j i m) in rw last e)

  -- the frame up to i, and zeros and fillers behind
  abbrev cut_at : ℕ → ℕ → ℕ
  cut_at i j = cond (ltb j i) (get_or frame j 0) (cond (covered (code_runs f) j) 0 (filler f j))

  abbrev cut : ℕ → List ℕ
  cut i = tabulate (size f) 0 (cut_at i)

  cut-at : (i j : ℕ) → j < size f → get_or (cut i) j 0 ≡ cut_at i j
  cut-at i j l = get_d_tabulate (size f) 0 (cut_at i) 0 j l ∙ ap (cut_at i) (zero-add j)

  cut-clean : (i : ℕ) → FitBelow i → Clean (size f) (filler f) (code_runs f) (cut i)
  unfolding element_fits
  cut-clean i h j l =
      rw (cut-at i j l)
      (by-test (ltb j i)
      (λ y. rw y (h j (ltb-true j i y)))
      (λ z. rw z (by-test (covered (code_runs f) j) (λ y. rw y) (λ m. rw (m, eq-eqb (filler f j) (filler f j) refl)))))

  cut_again : (i : ℕ) → FitBelow i → (j : ℕ) → j < size f → get_or (put_in (size f) (decode (code_runs f) (cut i))) j 0 ≡ cut_at i j
  cut_again i h j l =
      let rs = code_runs f in
      let clean = cut-clean i h in
      let small = small-decoded (cut i) rs (clean-bits (size f) (filler f) rs (cut i) (code-proper f k) clean) in
      ap (λ (ss : List ℕ). get_or ss j 0) (put_right f k x (decode rs (cut i)) small (size f) (size-range f).1)
      ∙ ap (λ (ss : List ℕ). get_or ss j 0) (encode-decode (size f) (filler f) rs (cut i) (code-proper f k) (length-tabulate (size f) 0 (cut_at i)) clean)
      ∙ cut-at i j l

  cut-same : (i j : ℕ) → j < i → j < size f → get_or frame j 0 ≡ get_or (cut i) j 0
  cut-same i j l b = sym (cut-at i j b ∙ rw (lt-ltb j i l))

  pub again-below : (i : ℕ) → FitBelow i → (j : ℕ) → j < i → j < size f → get_or again j 0 ≡ get_or frame j 0
  again-below i h j l b =
      put_low f x (size f) i frame (cut i) (λ m a y. cut-same i m a (covered-inside (size f) (filler f) (code_runs f) (code-proper f k) m y).0) j l b
      ∙ cut_again i h j b
      ∙ rw (lt-ltb j i l)

  again-free : (i : ℕ) → FitBelow i → i < size f → covered (code_runs f) i ≡ false → get_or again i 0 ≡ filler f i
  again-free i h b m =
      put_low f x (size f) (suc i) frame (cut i)
      (λ j a y.
      by-test (ltb j i)
      (λ z. cut-same i j (ltb-true j i z) (covered-inside (size f) (filler f) (code_runs f) (code-proper f k) j y).0)
      (λ z. let last : j ≡ i = omega (arith, ltb-false j i z) in let none : covered (code_runs f) j ≡ false = rw last m in clash y none))
      i (omega arith) b
      ∙ cut_again i h i b
      ∙ rw (le-ltb i i (omega arith), m)

  again-covered : (i : ℕ) → covered (code_runs f) i ≡ true → get_or again i 0 < 2
  unfolding filler
  again-covered i y =
      let inside = covered-inside (size f) (filler f) (code_runs f) (code-proper f k) i y in
      put-binary (size f) (decode (code_runs f) frame) i inside.0
      (by-test (is_mark i) (λ z. clash {b = true} refl (rw (x, z) at inside.1)) (λ m. m))

  fits-where-same : (i : ℕ) → FitBelow i → i < size f → get_or frame i 0 ≡ get_or again i 0 → element_fits (filler f) (code_runs f) i (get_or frame i 0) ≡ true
  unfolding element_fits
  fits-where-same i h b e =
      by-test (covered (code_runs f) i)
      (λ y. rw y (lt-ltb (get_or frame i 0) 2 (rw e (again-covered i y))))
      (λ m. rw m (eq-eqb (get_or frame i 0) (filler f i) (e ∙ again-free i h b m)))

  fits-not-else : (i : ℕ) → FitBelow i → i < size f → (get_or frame i 0 ≡ get_or again i 0 → ⊥) → element_fits (filler f) (code_runs f) i (get_or frame i 0) ≡ false
  fits-not-else i h b o = by-test (element_fits (filler f) (code_runs f) i (get_or frame i 0)) (λ y. absurd (o (sym (again-below (suc i) (fit-more i h y) i (omega arith) b)))) (λ m. m)

  marks-beside : (i : ℕ) → FitBelow i → i < size f → marks_agree (filler f) (code_runs f) i (get_or frame i 0) ≡ cond (eqb (get_or again i 0) 2) (eqb (get_or frame i 0) 2) (not (eqb (get_or frame i 0) 2))
  unfolding marks_agree
  marks-beside i h b =
      by-test (covered (code_runs f) i)
      (λ y. rw (y, ne_eqb (get_or again i 0) 2 (λ q. omega (arith, again-covered i y))))
      (λ m. rw (m, again-free i h b m))

  -- ---- what the search finds is what the definition refuses

  refused-at : (i : ℕ) → FitBelow i → i < size f → (get_or frame i 0 ≡ get_or again i 0 → ⊥) → (ss : List ℕ) (a : Result Reading Refusal)
      → check_elements (filler f) (code_runs f) i (get_or frame i 0 ∷ ss) a ≡ refused_or (offence_at (get_or again i 0) (get_or frame i 0) i) a
  unfolding check_elements offence_at
  refused-at i h b o ss a =
      rw (marks-beside i h b, fits-not-else i h b o)
      (by-test (eqb (get_or again i 0) 2)
      (λ y. rw (y, ne_eqb (get_or frame i 0) 2 (λ q. o (q ∙ sym (eqb-true (get_or again i 0) 2 y)))))
      (λ m. by-test (eqb (get_or frame i 0) 2) (λ y. rw (m, y)) (λ z. rw (m, z))))

  found_from : (left i : ℕ) → i + left ≡ size f → FitBelow i → (a : Result Reading Refusal) → check_elements (filler f) (code_runs f) i (drop i frame) a ≡ refused_or (offended_from i (drop i again) (drop i frame)) a
  unfolding check_elements offended_from
  found_from zero i e h a = rw (drop_of_length-le frame {i = i} (omega arith))
  found_from (suc left) i e h a =
      let b : i < size f = omega arith in
      let long = length-put (size f) (decode (code_runs f) frame) in
      rw (drop-cons frame i 0 (omega arith), drop-cons again i 0 (omega arith))
      (by-test (eqb (get_or frame i 0) (get_or again i 0))
      (λ y.
      let fits = fits-where-same i h b (eqb-true (get_or frame i 0) (get_or again i 0) y) in
      rw (y, fits-agree (size f) (filler f) (code_runs f) i (get_or frame i 0) fits, fits) (found_from left (suc i) (omega arith) (fit-more i h fits) a))
      (λ z. rw z (refused-at i h b (eqb-false (get_or frame i 0) (get_or again i 0) z) (drop (suc i) frame) a)))

  pub offended-refuses : (a : Result Reading Refusal) → check_elements (filler f) (runs f) 0 frame a ≡ refused_or (offended_of again frame) a
  offended-refuses a = sym (code-elements f 0 frame a) ∙ found_from (size f) 0 (zero-add (size f)) (λ j l. absurd (not-suc-le-zero l)) a

  -- ---- where the search finds nothing, the frame is clean

  clean-from : (left i : ℕ) → i + left ≡ size f → FitBelow i → offended_from i (drop i again) (drop i frame) ≡ None → FitBelow (size f)
  unfolding offended_from
  clean-from zero i e h q = let all : i ≡ size f = omega arith in λ j l. h j (omega arith)
  clean-from (suc left) i e h q =
      let b : i < size f = omega arith in
      let long = length-put (size f) (decode (code_runs f) frame) in
      let here : cond (eqb (get_or frame i 0) (get_or again i 0)) (offended_from (suc i) (drop (suc i) again) (drop (suc i) frame)) (offence_at (get_or again i 0) (get_or frame i 0) i) ≡ None =
      rw (drop-cons frame i 0 (omega arith), drop-cons again i 0 (omega arith)) at q in
      by-test (eqb (get_or frame i 0) (get_or again i 0))
      (λ y. clean-from left (suc i) (omega arith) (fit-more i h (fits-where-same i h b (eqb-true (get_or frame i 0) (get_or again i 0) y))) (rw y at here))
      (λ z. absurd (offence-some (get_or again i 0) (get_or frame i 0) i (rw z at here)))

  pub offended-clean : offended_of again frame ≡ None → Clean (size f) (filler f) (code_runs f) frame
  offended-clean q = clean-from (size f) 0 (zero-add (size f)) (λ j l. absurd (not-suc-le-zero l)) q
