-- Scan finds the lowest place where a mark stands before and Read accepts, and answers None exactly where there is none.
use Rattle.timecode.specs.declared.Found.{Found}
use Rattle.timecode.specs.Answers.{found_frame, none_found}
use Rattle.std.proofs.Math.Path.{◌≡◌, refl, sym, ap}
use Rattle.std.proofs.Common.{◌∙◌, subst, length-take}
use Rattle.std.specs.Prelude.{List, ◌↔◌, leb, length, drop, Result, Ok, Err, Option, Some, None}
use Prim.Native.Nat.{ℕ, zero, suc, ◌+◌, ◌-◌, ◌<◌, ◌≤◌, min}
use native.Mathlib.Omega.{arith}
use Rattle.std.proofs.Math.Decide.{ℕ_discrete}
use borrow.Author.Tests.{leb-true, leb-false, le-leb}
use Rattle.std.proofs.Math.ListN.{length-drop}
use Rattle.timecode.specs.Calls.{part_at, lead_at, lowest_of, first_place, scan_of, FrameAt, Looks, LowestAt, NowhereAt, scan_checks}
use Rattle.timecode.specs.Formats.{size}
use Rattle.timecode.specs.Frames.{no_time, read_of}
use Rattle.timecode.proofs.Laws.Checks.{accepted-taken, by-reading, all-passed, all_pass}
use Rattle.timecode.proofs.Laws.Marks.{size-positive, accepted-length}
use Rattle.timecode.proofs.Laws.Tests.{by-test, clash}
use Rattle.timecode.specs.Stream.{lead}
use Rattle.timecode.specs.declared.Format.{Format}
use Rattle.timecode.specs.declared.Refusal.{Refusal}
use Rattle.timecode.specs.declared.Time.{Time}
use Rattle.timecode.specs.Laws.Scanning.{NoFit, IsFirst}

-- what Scan finds, and else a frame that nothing asks for
abbrev what_is_found : Result (Option Found) Refusal → Found
what_is_found (Ok (Some f)) = f
what_is_found (Ok None) = record { start = 0; reading = record { time = no_time; control = 0 } }
what_is_found (Err r) = record { start = 0; reading = record { time = no_time; control = 0 } }

module _ (f : Format) (recording : List ℕ) where
  -- a fit at the first place is the answer
  pub here : (k a : ℕ) (t : Time) (w : ℕ) → FrameAt f recording a t w → lowest_of f recording (suc k) a ≡ found_frame a t w
  unfolding lowest_of
  here k a t w fit = rw (fit.lead_stands, fit.frame)

  -- where the first place does not fit, the later ones decide
  pub next_place : (k a : ℕ) → NoFit f recording a → lowest_of f recording (suc k) a ≡ lowest_of f recording k (suc a)
  unfolding lowest_of
  next_place k a n =
      by-test (lead_at f recording a)
      (λ y.
      by-reading (read_of f (part_at f recording a))
      (λ x r. rw (y, r))
      (λ t w r. absurd (n t w (record { lead_stands = y; frame = r }))))
      (λ m. rw m)

  fits-or-not : (a : ℕ) → {P : Type 0} → ((t : Time) (w : ℕ) → FrameAt f recording a t w → P) → (NoFit f recording a → P) → P
  fits-or-not a {P} yes' no' =
      by-test (lead_at f recording a)
      (λ y.
      by-reading (read_of f (part_at f recording a))
      (λ x r. no' (λ t w fit. accepted-taken t w x (sym r ∙ fit.frame)))
      (λ t w r. yes' t w (record { lead_stands = y; frame = r })))
      (λ m. no' (λ t w fit. clash fit.lead_stands m))

  -- a place from a on is a itself or a later one
  from_first : (a j : ℕ) → a ≤ j → NoFit f recording a → (suc a ≤ j → NoFit f recording j) → NoFit f recording j
  from_first a j x n later = pick (ℕ_discrete a j)
    where
      pick : Dec (a ≡ j) → NoFit f recording j
      pick (yes q) = subst (NoFit f recording) q n
      pick (no q) = later (omega arith)

  -- the lowest of the k places from a on
  pub record Lowest (k a b : ℕ) (t : Time) (w : ℕ) : Type 0 where
    pub from : a ≤ b
    pub under : b < a + k
    pub fits : FrameAt f recording b t w
    pub none_before : (j : ℕ) → a ≤ j → j < b → NoFit f recording j

  pub found-lowest : (k a b : ℕ) (t : Time) (w : ℕ) → lowest_of f recording k a ≡ found_frame b t w → Lowest k a b t w
  unfolding lowest_of
  found-lowest zero a b t w h = let z : ◌≡◌ {A = ℕ} 0 1 = cc in let n : ⊥ = omega arith in absurd n
  found-lowest (suc k) a b t w h =
      fits-or-not a
      (λ u v fit.
      let z : found_frame a u v ≡ found_frame b t w = sym (here k a u v fit) ∙ h in
      let p : a ≡ b = ap (λ (x : Result (Option Found) Refusal). (what_is_found x).start) z in
      let q : u ≡ t = ap (λ (x : Result (Option Found) Refusal). (what_is_found x).reading.time) z in
      let r : v ≡ w = ap (λ (x : Result (Option Found) Refusal). (what_is_found x).reading.control) z in
      record { from = omega arith; under = omega arith; fits = rw (← p, ← q, ← r) fit; none_before = λ j x y. let n : ⊥ = omega arith in absurd n })
      (λ n.
      let l = found-lowest k (suc a) b t w (sym (next_place k a n) ∙ h) in
      record { from = omega (arith, l.from); under = omega (arith, l.under); fits = l.fits; none_before = λ j x y. from_first a j x n (λ z. l.none_before j z y) })

  pub lowest-found : (k a b : ℕ) (t : Time) (w : ℕ) → Lowest k a b t w → lowest_of f recording k a ≡ found_frame b t w
  lowest-found zero a b t w l = let n : ⊥ = omega (arith, l.from, l.under) in absurd n
  lowest-found (suc k) a b t w l = pick (lowest-found k (suc a) b t w) (ℕ_discrete a b)
    where
      pick : (Lowest k (suc a) b t w → lowest_of f recording k (suc a) ≡ found_frame b t w) → Dec (a ≡ b) → lowest_of f recording (suc k) a ≡ found_frame b t w
      pick later (yes q) = subst (λ (x : ℕ). lowest_of f recording (suc k) x ≡ found_frame b t w) (sym q) (here k b t w l.fits)
      pick later (no q) =
          next_place k a (l.none_before a (omega arith) (omega (arith, l.from)))
          ∙ later (record { from = omega (arith, l.from); under = omega (arith, l.under); fits = l.fits; none_before = λ j x y. l.none_before j (omega arith) y })

  pub none-fits : (k a : ℕ) → lowest_of f recording k a ≡ none_found → (j : ℕ) → a ≤ j → j < a + k → NoFit f recording j
  none-fits zero a h j x y = let n : ⊥ = omega arith in absurd n
  none-fits (suc k) a h j x y =
      fits-or-not a
      (λ t w fit. let z : found_frame a t w ≡ none_found = sym (here k a t w fit) ∙ h in let q : ◌≡◌ {A = ℕ} 0 1 = cc in let n : ⊥ = omega arith in absurd n)
      (λ n. from_first a j x n (λ z. none-fits k (suc a) (sym (next_place k a n) ∙ h) j z (omega arith)))

  pub fits-none : (k a : ℕ) → ((j : ℕ) → a ≤ j → j < a + k → NoFit f recording j) → lowest_of f recording k a ≡ none_found
  unfolding lowest_of
  fits-none zero a n = refl
  fits-none (suc k) a n = next_place k a (n a (omega arith) (omega arith)) ∙ fits-none k (suc a) (λ j x y. n j (omega arith) (omega arith))

  -- a frame that is accepted lies in the recording
  fit-inside : (a : ℕ) (t : Time) (w : ℕ) → FrameAt f recording a t w → a + size f ≤ length recording
  unfolding part_at
  fit-inside a t w fit =
      let l : min (size f) (length (drop a recording)) ≡ size f = sym (length-take (size f) (drop a recording)) ∙ accepted-length f (part_at f recording a) t w fit.frame in
      omega (arith, l, length-drop a recording, size-positive f)

-- ---- Scan

first-place : (f : Format) (start : ℕ) → IsFirst f start
unfolding first_place
first-place f start =
    by-test (leb (lead f) start)
    (λ y. rw y (leb-true (lead f) start y, omega arith, λ a x z. z))
    (λ m. let z = leb-false (lead f) start m in rw m (omega arith, omega arith, λ a x z. x))

module _ (f : Format) (recording : List ℕ) (start : ℕ) where
  abbrev places : ℕ
  places = length recording + 1 - (first_place f start + size f)

  looked : (x : Result (Option Found) Refusal) → ((r : Refusal) → Err r ≡ x → ⊥) → scan_of f recording start ≡ x → Looks f recording start × (lowest_of f recording places (first_place f start) ≡ x)
  unfolding scan_of
  looked x taken h =
      let all = all-passed Err (scan_checks f recording start) _ x taken h in
      (record { format = all.0 0; inside = leb-true start (length recording) (all.0 1) }, all.1)

  looks : Looks f recording start → scan_of f recording start ≡ lowest_of f recording places (first_place f start)
  unfolding scan_of
  looks l = all_pass Err (scan_checks f recording start) _ (l.format, (le-leb start (length recording) l.inside, tt))

  pub scan-finds-the-lowest : (a : ℕ) (t : Time) (w : ℕ) → (scan_of f recording start ≡ found_frame a t w) ↔ LowestAt f recording start a t w
  scan-finds-the-lowest a t w = (
    λ h.
        let l = looked (found_frame a t w) (λ r z. let q : ◌≡◌ {A = ℕ} 0 1 = cc in omega arith) h in
        let p = found-lowest f recording places (first_place f start) a t w l.1 in
        record {
          looks = l.0;
          found = record { first = omega (arith, p.from, first.0); from = omega (arith, p.from, first.1); fits = p.fits };
          none_before = λ b u v x z. p.none_before b (first.2 b z.first z.from) x u v z.fits;
        },
    λ l.
        let z = l.found in
        let room = fit-inside f recording a t w z.fits in
        let low = first.2 a z.first z.from in
        looks l.looks
        ∙ lowest-found f recording places (first_place f start) a t w
        (record {
          from = low;
          under = omega arith;
          fits = z.fits;
          none_before = λ j x y u v fit. l.none_before j u v y (record { first = omega (arith, first.0); from = omega (arith, first.1); fits = fit });
        }),
  )
    where
      first : IsFirst f start
      first = first-place f start

  pub scan-finds-none : (scan_of f recording start ≡ none_found) ↔ NowhereAt f recording start
  scan-finds-none = (
    λ h.
        let l = looked none_found (λ r z. let q : ◌≡◌ {A = ℕ} 0 1 = cc in omega arith) h in
        record {
          looks = l.0;
          none = λ a t w z.
              let room = fit-inside f recording a t w z.fits in
              let low = first.2 a z.first z.from in
              none-fits f recording places (first_place f start) l.1 a low (omega arith) t w z.fits;
        },
    λ n.
        looks n.looks
        ∙ fits-none f recording places (first_place f start) (λ j x y t w fit. n.none j t w (record { first = omega (arith, first.0); from = omega (arith, first.1); fits = fit })),
  )
    where
      first : IsFirst f start
      first = first-place f start
