-- What reading and printing leave of the progress. That a read or a write failed stands in no contract of the C library:
-- these say what a failure leaves, and not that there was one.
use Rattle.std.specs.Prelude.{◌≡◌, true, false, List, [], ◌++◌, ◌⊎◌, ℕ, zero, suc, ◌≤◌, length, take, min}
use Rattle.std.proofs.Common.{refl, sym, ap, ◌∙◌, inl, inr, arith, Option, None, Some, ControlFlow, Continue, Break}
use Rattle.std.proofs.lemmas.Bool.{false≢true}
use Rattle.std.proofs.Math.Seq.{take-length}
use Rattle.std.proofs.lemmas.List.{take_min}
use Rattle.hearing.specs.Bytes.{after_of, after-parts}
use Rattle.listing.specs.Parts.{reached-start}
use Rattle.progress.specs.declared.Progress.{Progress}

-- the progress to go on with where another read is to come, or the last one
abbrev pub Printed : Type 0
Printed = ControlFlow Progress Progress

-- where a read or a write has failed, no other line follows
abbrev pub stopped : Progress → Progress
stopped p = record { reader = p.reader; elements = p.elements; reports = p.reports; ended = true }

-- the progress after all of the bytes; or, where something failed, after the first k, and stopped
abbrev pub Reaches : Progress → List ℕ → Progress → Type 0
Reaches p bytes q = (q ≡ after_of p bytes) ⊎ ((k : ℕ) × (k ≤ length bytes) × (q ≡ stopped (after_of p (take k bytes))))

-- what one read's bytes leave: another read is to come unless no other line follows
abbrev pub Prints : Progress → List ℕ → Printed → Type 0
Prints p bytes (Continue q) = Reaches p bytes q × (q.ended ≡ false)
Prints p bytes (Break q) = Reaches p bytes q × (q.ended ≡ true)

-- what a read's result leaves: a failure stops the listing, the end of the input leaves the progress, and the first bytes, as many as
-- the read brought, are printed
abbrev pub AfterRead : Progress → Option ℕ → List ℕ → Printed → Type 0
AfterRead p None input r = r ≡ Break (stopped p)
AfterRead p (Some zero) input r = r ≡ Break p
AfterRead p (Some (suc k)) input r = Prints p (take (suc k) input) r

-- what all reads leave, whatever they bring
abbrev pub ReadsAll : Progress → Progress → Type 0
ReadsAll p q = (bytes : List ℕ) × Reaches p bytes q

-- and what one leaves
abbrev pub Reads : Progress → Printed → Type 0
Reads p (Continue q) = ReadsAll p q × (q.ended ≡ false)
Reads p (Break q) = ReadsAll p q

-- ---- no bytes, and a failure before any

pub reads_nothing : (p : Progress) → Reaches p [] p
reads_nothing p = inl (reached-start p [])

pub reads-failed : (p q : Progress) → q ≡ stopped p → Reaches p [] q
reads-failed p q e = inr (0, omega arith, e ∙ ap stopped (reached-start p []))

-- ---- one read more

not-ended : (p : Progress) (bytes : List ℕ) (q : Progress) → q.ended ≡ false → Reaches p bytes q → q ≡ after_of p bytes
not-ended p bytes q n (inl e) = e
not-ended p bytes q n (inr (k, h, e)) = absurd (false≢true (sym n ∙ ap (λ (x : Progress). x.ended) e))

module _ (p q : Progress) (n : q.ended ≡ false) where
  further : (xs ys : List ℕ) → Reaches p xs q → after_of q ys ≡ after_of p (xs ++ ys)
  further xs ys a = ap (λ (x : Progress). after_of x ys) (not-ended p xs q n a) ∙ sym (after-parts p xs ys)

  pub reads_more : (r : Progress) → ReadsAll p q → ReadsAll q r → ReadsAll p r
  reads_more r (xs, a) (ys, inl e) = (xs ++ ys, inl (e ∙ further xs ys a))
  reads_more r (xs, a) (ys, inr (k, h, e)) =
      let zs = xs ++ take k ys in
      let whole : take (length zs) zs ≡ zs = take-length zs in
      (zs, inr (length zs, omega arith, e ∙ ap stopped (further xs (take k ys) a ∙ ap (after_of p) (sym whole))))

-- ---- whatever a read gives

after-bytes : (p : Progress) (bytes : List ℕ) (r : Printed) → Prints p bytes r → Reads p r
after-bytes p bytes (Continue q) (a, n) = ((bytes, a), n)
after-bytes p bytes (Break q) (a, n) = (bytes, a)

pub after_read : (p : Progress) (got : Option ℕ) (input : List ℕ) (r : Printed) → AfterRead p got input r → Reads p r
after_read p None input (Continue q) e = cc
after_read p None input (Break q) e = ([], reads-failed p q cc)
after_read p (Some zero) input (Continue q) e = cc
after_read p (Some zero) input (Break q) e = let same : q ≡ p = cc in ([], inl (same ∙ reached-start p []))
after_read p (Some (suc k)) input r a = after-bytes p (take (suc k) input) r a

module _ (p : Progress) (input : List ℕ) (r : Printed) where
  pub after-read-failed : (got : Option ℕ) → got ≡ None → r ≡ Break (stopped p) → AfterRead p got input r
  after-read-failed None n e = e
  after-read-failed (Some k) n e = cc

  pub after-read-bytes : (n : ℕ) → (n ≡ 0 → ⊥) → Prints p (take (min n (length input)) input) r → AfterRead p (Some n) input r
  after-read-bytes zero n a = absurd (n refl)
  after-read-bytes (suc k) n a = rw (sym (take_min (suc k) input)) a
