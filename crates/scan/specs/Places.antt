-- The places that Scan looks at, one turn after another: `lowest_of` where a frame fits, and where none fits any more.
use Rattle.timecode.specs.declared.Found.{Found}
use Rattle.timecode.specs.Answers.{accepted, found_frame, none_found}
use Rattle.std.specs.Prelude.{◌≡◌, refl, Bool, true, false, List, eqb, length, take, drop, Result, Err, Option}
use Rattle.std.proofs.Common.{sym, ap, ◌∙◌, add-zero, eq-eqb, get_or-take, get_or-drop, length-take-le}
use Prim.Native.Nat.{ℕ, zero, suc, ◌+◌, ◌-◌, ◌<◌, ◌≤◌}
use Rattle.std.proofs.Math.Numerals.{add-one}
use native.Mathlib.Omega.{arith}
use Rattle.std.proofs.Math.ListN.{get_or, length-drop}
use Rattle.timecode.specs.Calls.{part_at, lead_at, found, lowest_of}
use Rattle.timecode.specs.Formats.{is_x, size}
use Rattle.timecode.specs.Frames.{read_of}
use Rattle.timecode.proofs.Laws.Checks.{by-reading}
use Rattle.timecode.proofs.Laws.Marks.{size-positive, accepted-first}
use Rattle.timecode.proofs.Laws.Tests.{by-test, clash, and_right}
use Rattle.timecode.proofs.Laws.Windows.{lead-one, lead-none}
use Rattle.timecode.specs.Stream.{lead}
use Rattle.timecode.specs.declared.Format.{Format}
use Rattle.timecode.specs.declared.Refusal.{Refusal}
use Rattle.timecode.specs.declared.Time.{Time}
use Rattle.openings.specs.Openings.{marks_meet, opens_at, meet-opens}
use Rattle.scan.specs.Spoiled.{NoneSpoiled, never_spoiled, never-spoiled-inside, accepted-unspoiled}

-- how many places there are from a on
abbrev pub places_from : Format → List ℕ → ℕ → ℕ
places_from f recording a = length recording + 1 - (a + size f)

abbrev pub lowest_from : Format → List ℕ → ℕ → Result (Option Found) Refusal
lowest_from f recording a = lowest_of f recording (places_from f recording a) a

part-first : (f : Format) (recording : List ℕ) (a : ℕ) → get_or (part_at f recording a) 0 0 ≡ get_or recording a 0
unfolding part_at
part-first f recording a = let h = size-positive f in rw (get_or-take, get_or-drop, add-zero a)

-- the part as a slice has it
pub part-at : (f : Format) (recording : List ℕ) (a n : ℕ) → n ≡ size f → read_of f (take (a + n - a) (drop a recording)) ≡ read_of f (part_at f recording a)
unfolding part_at
part-at f recording a n e = let k : a + n - a ≡ size f = omega arith in rw k

-- the lead of a frame by the mark that stands so many before it
lead-there : (f : Format) (recording : List ℕ) (a : ℕ) → eqb (get_or recording (a - lead f) 0) 2 ≡ true → lead_at f recording a ≡ true
unfolding lead_at
lead-there f recording a m = by-test (is_x f) (λ x. rw x) (λ n. let one : eqb (get_or recording (a - 1) 0) 2 ≡ true = rw (lead-one f n) at m in rw (n, one))

lead-missing : (f : Format) (recording : List ℕ) (a : ℕ) → eqb (get_or recording a 0) 2 ≡ true → eqb (get_or recording (a - lead f) 0) 2 ≡ false → lead_at f recording a ≡ false
unfolding lead_at
lead-missing f recording a first m =
    by-test (is_x f)
    (λ x. let same : a - lead f ≡ a = omega (arith, lead-none f x) in clash first (rw same at m))
    (λ n. let one : eqb (get_or recording (a - 1) 0) 2 ≡ false = rw (lead-one f n) at m in rw (n, one))

module _ (f : Format) (recording : List ℕ) (a : ℕ) (room : a + size f ≤ length recording) where
  turn : lowest_from f recording a ≡ found (lead_at f recording a) (read_of f (part_at f recording a)) a (lowest_from f recording (a + 1))
  unfolding lowest_of
  turn = let k : places_from f recording a ≡ suc (places_from f recording (a + 1)) = omega arith in rw (k, ← add-one a)

  pub refused-here : (x : Refusal) → read_of f (part_at f recording a) ≡ Err x → lowest_from f recording a ≡ lowest_from f recording (a + 1)
  refused-here x r = turn ∙ rw r (by-test (lead_at f recording a) (λ y. rw y) (λ m. rw m))

  pub found_here : (m : ℕ) → m ≡ lead f → marks_meet m recording a ≡ true → (t : Time) (w : ℕ) → read_of f (part_at f recording a) ≡ accepted t w → lowest_from f recording a ≡ found_frame a t w
  found_here m e y t w r = turn ∙ rw (lead-there f recording a (and_right (eqb (get_or recording a 0) 2) (eqb (get_or recording (a - lead f) 0) 2) (rw e at y)), r)

  -- no element of an accepted frame is spoiled, in X none before the missing pulses
  front-unspoiled : (t : Time) (w : ℕ) → read_of f (part_at f recording a) ≡ accepted t w → NoneSpoiled (take (never_spoiled f) (drop a recording))
  unfolding part_at
  front-unspoiled t w r k h =
      let fits = never-spoiled-inside f in
      let inside : k < never_spoiled f = rw (length-take-le (never_spoiled f) (drop a recording) (omega (arith, length-drop a recording))) at h in
      let here : get_or (take (size f) (drop a recording)) k 0 ≤ 2 = accepted-unspoiled f (part_at f recording a) t w r k inside in
      rw (get_or-take (never_spoiled f) (drop a recording) k 0 inside) (rw (get_or-take (size f) (drop a recording) k 0 (omega arith)) at here)

  -- where no marks meet, no frame is found: an accepted one begins with a mark
  unmet : marks_meet (lead f) recording a ≡ false → lowest_from f recording a ≡ lowest_from f recording (a + 1)
  unmet m =
      by-reading (read_of f (part_at f recording a)) refused-here
      (λ t w r.
      let first : eqb (get_or recording a 0) 2 ≡ true = eq-eqb (get_or recording a 0) 2 (sym (part-first f recording a) ∙ accepted-first f (part_at f recording a) t w r) in
      let before : eqb (get_or recording (a - lead f) 0) 2 ≡ false = rw first at m in
      turn ∙ rw (lead-missing f recording a first before))

  -- nor where a test says no that says yes at marks that meet before elements of which none is spoiled
  pub passed_over : (m n : ℕ) (r : Bool) → m ≡ lead f → n ≡ never_spoiled f → (marks_meet m recording a ≡ true → NoneSpoiled (take n (drop a recording)) → r ≡ true) → r ≡ false → lowest_from f recording a ≡ lowest_from f recording (a + 1)
  passed_over m n r e g may answer =
      by-test (marks_meet (lead f) recording a)
      (λ y. by-reading (read_of f (part_at f recording a)) refused-here (λ t w x. clash (may (rw e y) (rw g (front-unspoiled t w x))) answer))
      unmet

-- places at which no frame may begin
skipped : (f : Format) (recording : List ℕ) (a k : ℕ) → a + k + size f ≤ length recording + 1 → ((j : ℕ) → a ≤ j → j < a + k → opens_at f recording j ≡ false) → lowest_from f recording a ≡ lowest_from f recording (a + k)
skipped f recording a zero room none = ap (lowest_from f recording) (sym (add-zero a))
skipped f recording a (suc k) room none =
    let on : a + 1 + k ≡ a + suc k = omega arith in
    unmet f recording a (omega arith) (meet-opens f recording (lead f) a refl ∙ none a (omega arith) (omega arith))
    ∙ skipped f recording (a + 1) k (omega arith) (λ j l b. none j (omega arith) (omega arith))
    ∙ ap (lowest_from f recording) on

pub skipped-to : (f : Format) (recording : List ℕ) (a next : ℕ) → a ≤ next → next + size f ≤ length recording + 1 → ((j : ℕ) → a ≤ j → j < next → opens_at f recording j ≡ false) → lowest_from f recording a ≡ lowest_from f recording next
skipped-to f recording a next l room none =
    let there : a + (next - a) ≡ next = omega arith in
    skipped f recording a (next - a) (omega arith) (λ j b c. none j b (omega arith)) ∙ ap (lowest_from f recording) there

pub none_left : (f : Format) (recording : List ℕ) (a : ℕ) → length recording < a + size f → lowest_from f recording a ≡ none_found
unfolding lowest_of
none_left f recording a h = let k : places_from f recording a ≡ 0 = omega arith in rw k
