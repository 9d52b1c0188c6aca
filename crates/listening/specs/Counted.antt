-- What a listener counts of the answers to the elements of one frame, one after another; it is what the simulation's definition counts.
use Rattle.std.specs.Prelude.{◌≡◌, refl, Bool, cond, ◌&&◌, eqb, get_or, take, drop}
use Rattle.std.proofs.Common.{sym, ◌∙◌, not-suc-le-zero, add-one, length-drop, length-take-le, take-add}
use Rattle.std.proofs.Math.Path.{ap, ap₂}
use mathlib.Core.List.{List, [], ◌∷◌, ◌++◌}
use Prim.Native.Nat.{ℕ, suc, ◌+◌, ◌-◌, ◌<◌, ◌≤◌}
use native.Mathlib.Omega.{arith}
use Rattle.std.proofs.Math.ListN.{length}
use Rattle.timecode.specs.Frames.{same_time}
use Rattle.timecode.proofs.Laws.Tests.{by-test}
use Rattle.timecode.specs.declared.Answer.{Answer}
use Rattle.timecode.specs.declared.Answer.TheVariants.{Quiet, Report}
use Rattle.timecode.specs.declared.Time.{Time}
use Rattle.simulation.specs.declared.Counts.{Counts}
use Rattle.receive_many.specs.ManySymbols.{slice}
use Rattle.stream.proofs.FeedLists.{feed-answers-append, reader-append, length-feed-answers}
use Rattle.stream.specs.Feeding.{answer_after}
use Rattle.stream.specs.Refinement.{answers, reader_after}
use Rattle.stream.specs.declared.Reader.{Reader}
use Rattle.stride.specs.ReadyReaders.{Ready, ready-after}
use Rattle.stride.specs.Strides.{Strides}

-- one report more, with the element of that number
unfoldable pub with_report : Counts → ℕ → Bool → Counts
with_report c number right = record { first = cond (eqb c.first 0) number c.first; reports = c.reports + 1; wrong = cond right c.wrong (c.wrong + 1) }

-- the answer to the element of that number; a frame ends with the element `end`, and `sent` is its time
unfoldable pub count_answer : ℕ → Time → Counts → ℕ → Answer → Counts
count_answer end sent c number Quiet = c
count_answer end sent c number (Report t w) = with_report c number (eqb number end && same_time t sent)
count_answer end sent c number (Answer.Refused r) = c

-- answers one after another; `past` elements came before
unfoldable pub count_all : ℕ → Time → Counts → ℕ → List Answer → Counts
count_all end sent c past [] = c
count_all end sent c past (a ∷ rest) = count_all end sent (count_answer end sent c (suc past) a) (suc past) rest

module _ (end : ℕ) (sent : Time) where
  pub count-append : (c : Counts) (past : ℕ) (xs ys : List Answer) → count_all end sent c past (xs ++ ys) ≡ count_all end sent (count_all end sent c past xs) (past + length xs) ys
  unfolding count_all
  count-append c past [] ys = let u : past ≡ past + 0 = omega arith in ap (λ (p : ℕ). count_all end sent c p ys) u
  count-append c past (x ∷ xs) ys =
      let u : suc past + length xs ≡ past + suc (length xs) = omega arith in
      count-append (count_answer end sent c (suc past) x) (suc past) xs ys ∙ ap (λ (p : ℕ). count_all end sent (count_all end sent (count_answer end sent c (suc past) x) (suc past) xs) p ys) u

  -- only the last of some answers is not Quiet
  pub count-last : (c : Counts) (past : ℕ) (xs : List Answer) (a : Answer) → 1 ≤ length xs → ((none : Answer) (j : ℕ) → j + 1 < length xs → get_or xs j none ≡ Quiet) → ((none : Answer) → get_or xs (length xs - 1) none ≡ a)
      → count_all end sent c past xs ≡ count_answer end sent c (past + length xs) a
  unfolding count_all count_answer
  count-last c past [] a some quiet last = absurd (not-suc-le-zero some)
  count-last c past (x ∷ []) a some quiet last = ap₂ (λ (k : ℕ) (y : Answer). count_answer end sent c k y) (sym (add-one past)) (last Quiet)
  count-last c past (x ∷ (y ∷ ys)) a some quiet last =
      let first-quiet : x ≡ Quiet = quiet Quiet 0 (omega arith) in
      let u : suc past + suc (length ys) ≡ past + suc (suc (length ys)) = omega arith in
      let v : suc (suc (length ys)) - 1 ≡ suc (suc (length ys) - 1) = omega arith in
      let later = count-last c (suc past) (y ∷ ys) a (omega arith) (λ none j b. quiet none (suc j) (omega arith)) (λ none. rw v at (last none)) in
      rw first-quiet (later ∙ ap (λ (k : ℕ). count_answer end sent c k a) u)

  -- ---- no more is counted than there are answers

  one-bound : (c : Counts) (number : ℕ) (a : Answer) → ((count_answer end sent c number a).reports ≤ c.reports + 1) × ((count_answer end sent c number a).wrong ≤ c.wrong + 1)
  unfolding count_answer with_report
  one-bound c number Quiet = (omega arith, omega arith)
  one-bound c number (Report t w) = by-test (eqb number end && same_time t sent) (λ y. rw y (omega arith, omega arith)) (λ n. rw n (omega arith, omega arith))
  one-bound c number (Answer.Refused r) = (omega arith, omega arith)

  pub count-bound : (c : Counts) (past : ℕ) (xs : List Answer) → ((count_all end sent c past xs).reports ≤ c.reports + length xs) × ((count_all end sent c past xs).wrong ≤ c.wrong + length xs)
  unfolding count_all
  count-bound c past [] = (omega arith, omega arith)
  count-bound c past (x ∷ xs) =
      let one = one-bound c (suc past) x in
      let later = count-bound (count_answer end sent c (suc past) x) (suc past) xs in
      (omega (arith, one.0, later.0), omega (arith, one.1, later.1))

-- ---- the first i symbols are heard

pub record HeardTo (r : Reader) (c : Counts) (end : ℕ) (sent : Time) (past : ℕ) (ss : List ℕ) (i : ℕ) (current : Reader) (counted : Counts) : Type 0 where
  pub reader : current ≡ reader_after r (take i ss)
  pub counts : counted ≡ count_all end sent c past (answers r (take i ss))

pub heard-start : (r : Reader) (c : Counts) (end : ℕ) (sent : Time) (past : ℕ) (ss : List ℕ) → HeardTo r c end sent past ss 0 r c
unfolding reader_after answers count_all
heard-start r c end sent past ss = record { reader = refl; counts = refl }

module _ {r : Reader} {c : Counts} {end : ℕ} {sent : Time} {past : ℕ} {ss : List ℕ} {i : ℕ} {current : Reader} {counted : Counts} (h : HeardTo r c end sent past ss i current counted) where
  pub heard-ready : Ready r → Ready current
  heard-ready v = rw h.reader (ready-after r (take i ss) v)

  pub heard-bound : i ≤ length ss → (counted.reports ≤ c.reports + i) × (counted.wrong ≤ c.wrong + i)
  heard-bound b =
      let n : length (answers r (take i ss)) ≡ i = length-feed-answers r (take i ss) ∙ length-take-le i ss b in
      rw n at (rw (← h.counts) at (count-bound end sent c past (answers r (take i ss))))

  pub heard_all : (n : ℕ) → i ≡ n → (current ≡ reader_after r (take n ss)) × (counted ≡ count_all end sent c past (answers r (take n ss)))
  heard_all n all = (h.reader ∙ ap (λ (j : ℕ). reader_after r (take j ss)) all, h.counts ∙ ap (λ (j : ℕ). count_all end sent c past (answers r (take j ss))) all)

  -- a stride more
  pub heard-stride : {to taken : ℕ} {next : Reader} → to ≤ length ss → Strides current ss i to next taken → (a : Answer) → a ≡ answer_after next → (more : Counts) → more ≡ count_answer end sent counted (past + (i + taken)) a
      → HeardTo r c end sent past ss (i + taken) next more
  heard-stride {to} {taken} {next} l s a answer more is =
      record {
        reader = s.reader_is ∙ rw (mid, h.reader) (sym (reader-append r (take i ss) (take taken (drop i ss))) ∙ ap (reader_after r) (sym (take-add i taken ss)));
        counts = is ∙ sym (ap (λ (xs : List ℕ). count_all end sent c past (answers r xs)) (take-add i taken ss) ∙ ap (count_all end sent c past) both ∙ count-append end sent c past (answers r (take i ss)) (answers current (slice ss i (i + taken))) ∙ last);
      }
    where
      within : i + taken ≤ length ss
      within = omega (arith, s.within)

      mid : i + taken - i ≡ taken
      mid = omega arith

      both : answers r (take i ss ++ take taken (drop i ss)) ≡ answers r (take i ss) ++ answers current (slice ss i (i + taken))
      both = feed-answers-append r (take i ss) (take taken (drop i ss)) ∙ rw (mid, h.reader) refl

      so-many : length (answers current (slice ss i (i + taken))) ≡ taken
      so-many = length-feed-answers current (slice ss i (i + taken)) ∙ rw mid (length-take-le taken (drop i ss) (omega (arith, length-drop i ss, within)))

      before : length (answers r (take i ss)) ≡ i
      before = length-feed-answers r (take i ss) ∙ length-take-le i ss (omega (arith, within))

      last : count_all end sent (count_all end sent c past (answers r (take i ss))) (past + length (answers r (take i ss))) (answers current (slice ss i (i + taken))) ≡ count_answer end sent counted (past + (i + taken)) a
      last =
          let u : past + length (answers r (take i ss)) + length (answers current (slice ss i (i + taken))) ≡ past + (i + taken) = omega (arith, before, so-many) in
          count-last end sent (count_all end sent c past (answers r (take i ss))) (past + length (answers r (take i ss))) (answers current (slice ss i (i + taken))) (answer_after next) (omega (arith, so-many, s.some))
          (λ none j b. s.quiet none j (omega (arith, so-many)))
          (λ none. rw so-many (s.last none))
          ∙ rw (u, ← h.counts, answer) refl
