-- Whether every element of a frame of letter X fits and the lowest index that offends, each gathered over all of them, and what Read says by the two.
use Rattle.std.specs.Prelude.{◌≡◌, refl, Bool, true, false, cond, ◌&&◌, List, [], ◌∷◌, ℕ, zero, suc, ◌+◌, ◌<◌, ◌≤◌, leb, ltb, eqb, get_or, length, Err}
use Rattle.std.proofs.Common.{ap, ◌∙◌, not-suc-le-zero, add-one, arith, eqb-true, ne_eqb, le-leb, ltb-true, ltb-false, lt-ltb, le-ltb}
use Rattle.std.proofs.lemmas.Bool.{eqb-false}
use Rattle.timecode.specs.Formats.{is_x, known}
use Rattle.timecode.specs.Frames.{are_symbols, read_of}
use Rattle.timecode.specs.Laws.Tests.{every_below}
use Rattle.timecode.proofs.Laws.Tests.{by-test, clash, below-every}
use Rattle.timecode.specs.declared.Format.{Format}
use Rattle.timecode.specs.declared.Refusal.{Refusal}
use Rattle.timecode.specs.declared.Refusal.TheVariants.{MisplacedMark, InvalidElement}
use Rattle.tape.specs.Readings.{meaning_of, mark_fits, element_is, check_from, reads_so, misplaced, invalid, fits-here, checked-all}

-- 5 where a mark does not fit, else 6
abbrev pub offence_at : ℕ → ℕ → Refusal
offence_at i s = cond (mark_fits i s) (InvalidElement i) (MisplacedMark i)

-- the elements below n fit
abbrev pub Fits : List ℕ → ℕ → Type 0
Fits frame n = (k : ℕ) → k < n → element_is k (get_or frame k 0) ≡ true

abbrev pub all_fit : List ℕ → ℕ → Bool
all_fit frame n = every_below n (λ i. element_is i (get_or frame i 0))

pub all-turn : (frame : List ℕ) (i : ℕ) → all_fit frame (i + 1) ≡ (element_is i (get_or frame i 0) && all_fit frame i)
all-turn frame i = rw (add-one i)

fits_all : (frame : List ℕ) (n : ℕ) → Fits frame n → all_fit frame n ≡ true
fits_all frame zero fit = refl
fits_all frame (suc n) fit = rw (fit n (omega arith), fits_all frame n (λ k l. fit k (omega arith)))

-- low is the lowest index below n whose element offends; 255, past the end of the frame, where none does
pub record LowestBelow (frame : List ℕ) (n low : ℕ) : Type 0 where
  pub fit : (k : ℕ) → k < n → k < low → element_is k (get_or frame k 0) ≡ true
  pub offends : (low ≡ 255 → ⊥) → (low < n) × (element_is low (get_or frame low 0) ≡ false)

pub lowest-none : (frame : List ℕ) → LowestBelow frame 0 255
lowest-none frame = record { fit = λ k l b. absurd (not-suc-le-zero l); offends = λ no. absurd (no refl) }

-- the lowest index so far, once the element at i is looked at
abbrev pub lowered : ℕ → ℕ → ℕ → ℕ
lowered low i s = cond (ltb low (cond (element_is i s) 255 i)) low (cond (element_is i s) 255 i)

module _ (frame : List ℕ) (i : ℕ) (short : i < 25) where
  fit-more : Fits frame i → element_is i (get_or frame i 0) ≡ true → Fits frame (i + 1)
  fit-more below here k l = by-test (ltb k i) (λ y. below k (ltb-true k i y)) (λ m. let last : k ≡ i = omega (arith, ltb-false k i m) in rw last here)

  -- nothing offended below i
  first-turn : LowestBelow frame i 255 → LowestBelow frame (i + 1) (lowered 255 i (get_or frame i 0))
  first-turn before =
      by-test (element_is i (get_or frame i 0))
      (λ y. rw y (record { fit = λ k l b. fit-more (λ j m. before.fit j m (omega arith)) y k l; offends = λ no. absurd (no refl) }))
      (λ m. rw (m, le-ltb 255 i (omega arith)) (record { fit = λ k l b. before.fit k b (omega arith); offends = λ no. (omega arith, m) }))

  -- something did
  later-turn : (low : ℕ) → (low ≡ 255 → ⊥) → LowestBelow frame i low → LowestBelow frame (i + 1) (lowered low i (get_or frame i 0))
  later-turn low other before =
      let found = before.offends other in
      let kept : LowestBelow frame (i + 1) low = record { fit = λ k l b. before.fit k (omega arith) b; offends = λ no. (omega arith, found.1) } in
      by-test (element_is i (get_or frame i 0))
      (λ y. rw (y, lt-ltb low 255 (omega arith)) kept)
      (λ m. rw (m, lt-ltb low i found.0) kept)

  pub lowest-turn : (low : ℕ) → LowestBelow frame i low → LowestBelow frame (i + 1) (lowered low i (get_or frame i 0))
  lowest-turn low before = by-test (eqb low 255) (λ y. let none = eqb-true low 255 y in rw none (first-turn (rw none at before))) (λ m. later-turn low (eqb-false low 255 m) before)

-- where an element does not fit there is a lowest
pub some-offends : (frame : List ℕ) (low : ℕ) → LowestBelow frame 25 low → all_fit frame 25 ≡ false → low ≡ 255 → ⊥
some-offends frame low lowest not-all none = clash (fits_all frame 25 (λ k l. lowest.fit k l (omega arith))) not-all

-- ---- an element that fits

fits-mark : (i s : ℕ) → element_is i s ≡ true → mark_fits i s ≡ true
fits-mark i s e =
    by-test (eqb i 0)
    (λ y. rw y (rw y at e))
    (λ n.
    by-test (leb i 20)
    (λ y. rw (n, ne_eqb s 2 (λ q. omega (arith, ltb-true s 2 (rw (n, y) at e)))))
    (λ m. rw (n, ne_eqb s 2 (λ q. omega (arith, eqb-true s 3 (rw (n, m) at e))))))

fits-symbol : (i s : ℕ) → element_is i s ≡ true → s ≤ 3
fits-symbol i s e =
    by-test (eqb i 0)
    (λ y. omega (arith, eqb-true s 2 (rw y at e)))
    (λ n.
    by-test (leb i 20)
    (λ y. omega (arith, ltb-true s 2 (rw (n, y) at e)))
    (λ m. omega (arith, eqb-true s 3 (rw (n, m) at e))))

-- no symbol above 3
pub symbols-all : (frame : List ℕ) → ((k : ℕ) → k < length frame → get_or frame k 0 ≤ 3) → are_symbols frame ≡ true
symbols-all [] h = refl
symbols-all (s ∷ ss) h = rw (le-leb s 3 (h 0 (omega arith))) (symbols-all ss (λ k l. h (suc k) (omega arith)))

-- ---- what Read says

module _ (f : Format) (frame : List ℕ) (x : is_x f ≡ true) (k : known f ≡ true) (long : length frame ≡ 25) where
  fits-to : (n : ℕ) → n ≤ 25 → Fits frame n → check_from frame 0 (meaning_of frame) ≡ check_from frame n (meaning_of frame)
  fits-to zero b fit = refl
  fits-to (suc n) b fit =
      let here = fit n (omega arith) in
      fits-to n (omega arith) (λ j l. fit j (omega arith)) ∙ fits-here frame n (meaning_of frame) long (omega arith) (fits-mark n (get_or frame n 0) here) here ∙ ap (λ (m : ℕ). check_from frame m (meaning_of frame)) (omega arith)

  pub reads_all : all_fit frame 25 ≡ true → read_of f frame ≡ meaning_of frame
  reads_all all =
      let fit = below-every 25 (λ i. element_is i (get_or frame i 0)) all in
      let symbols = symbols-all frame (λ j l. fits-symbol j (get_or frame j 0) (fit j (omega arith))) in
      reads_so f frame x k long ∙ rw symbols (fits-to 25 (omega arith) fit ∙ checked-all frame 25 (meaning_of frame) (omega arith))

  pub reads-offence : (low : ℕ) → LowestBelow frame 25 low → (low ≡ 255 → ⊥) → are_symbols frame ≡ true → read_of f frame ≡ Err (offence_at low (get_or frame low 0))
  reads-offence low lowest some symbols =
      let found = lowest.offends some in
      reads_so f frame x k long
      ∙ rw symbols
      (fits-to low (omega arith) (λ j l. lowest.fit j (omega arith) l)
      ∙ by-test (mark_fits low (get_or frame low 0))
      (λ y. rw y (invalid frame low (meaning_of frame) long found.0 y found.1))
      (λ m. rw m (misplaced frame low (meaning_of frame) long found.0 m)))
