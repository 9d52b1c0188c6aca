-- Whole streams of a generator, joined at any element and damaged at some places: what the plain machine with the setting m + 1 answers to each element.
use Rattle.std.specs.Prelude.{◌≡◌, refl, true, false, ◌&&◌, ◌||◌, List, [], ◌∷◌, ◌++◌, ℕ, suc, ◌+◌, ◌*◌, ◌-◌, ◌<◌, ◌≤◌, leb, ltb, eqb, take, drop, set}
use Rattle.std.proofs.Common.{sym, ◌∙◌, mul-le-mul_left, leb-true, le-leb, lt-ltb, eq-eqb, ne_eqb, length-set, get_or-take, length-take-le, get_or-set_same, get_or-set_other}
use Rattle.std.proofs.Math.Path.{ap}
use Rattle.std.proofs.Math.Nat.{lt_of_mul-lt-mul_left}
use native.Mathlib.Omega.{arith}
use Rattle.std.proofs.Math.Decide.{ℕ_discrete, dec_le, dec_lt}
use Rattle.std.proofs.Math.ListN.{get_or, length, length-append, length-drop, get_or-eq_default}
use Rattle.std.proofs.Math.Seq.{get_or-drop, get_or-append-add}
use Rattle.timecode.specs.Formats.{member, size}
use Rattle.timecode.specs.Frames.{Sent, Generator, elements, sent_at, EndsFrame}
use Rattle.timecode.proofs.Laws.Checks.{quiet-no-report}
use Rattle.timecode.specs.Laws.Damage.{Near}
use Rattle.timecode.proofs.Laws.Damage.{no_false_time, intact}
use Rattle.timecode.proofs.Laws.Generators.{length-elements, element-small}
use Rattle.timecode.proofs.Laws.Machine.{answer-long, answer-short, answer-quiet, answer_at}
use Rattle.timecode.proofs.Laws.Marks.{size-positive}
use Rattle.timecode.proofs.Laws.Tests.{by-test, clash, and_left, neither-first, neither-second}
use Rattle.timecode.proofs.Laws.Windows.{window-long, window-confirmed, confirmed-window}
use Rattle.timecode.specs.Stream.{lead, window_length, last_of, plain_answer, plain_answers, ReplacedAt, places_within}
use Rattle.timecode.specs.declared.Answer.{Answer}
use Rattle.timecode.specs.declared.Answer.TheVariants.{Quiet, Report}
use Rattle.timecode.specs.declared.Format.{Format}
use Rattle.timecode.specs.declared.Time.{Time}
use Rattle.timecode.specs.Laws.Streams.{StreamPart}

pub places-within-le : (a n : ℕ) (ps : List ℕ) → length (places_within a n ps) ≤ length ps
places-within-le a n [] = omega arith
places-within-le a n (p ∷ ps) = by-test (leb a p && ltb p (a + n)) (λ y. rw y (omega (arith, places-within-le a n ps))) (λ m. rw m (omega (arith, places-within-le a n ps)))

places-within-member : (a n k : ℕ) (ps : List ℕ) → k < n → member k (places_within a n ps) ≡ false → member (a + k) ps ≡ false
places-within-member a n k [] b h = refl
places-within-member a n k (p ∷ ps) b h =
    by-test (leb a p && ltb p (a + n))
    (λ y.
    let c = leb-true a p (and_left (leb a p) (ltb p (a + n)) y) in
    let z : (eqb k (p - a) || member k (places_within a n ps)) ≡ false = rw y at h in
    let other : (a + k ≡ p → ⊥) = (λ q. clash (eq-eqb k (p - a) (omega arith)) (neither-first (eqb k (p - a)) (member k (places_within a n ps)) z)) in
    rw (ne_eqb (a + k) p other) (places-within-member a n k ps b (neither-second (eqb k (p - a)) (member k (places_within a n ps)) z)))
    (λ m.
    let z : member k (places_within a n ps) ≡ false = rw m at h in
    let other : (a + k ≡ p → ⊥) = (λ q. let y : (leb a p && ltb p (a + n)) ≡ true = rw (le-leb a p (omega arith), lt-ltb p (a + n) (omega arith)) in clash y m) in
    rw (ne_eqb (a + k) p other) (places-within-member a n k ps b z))

module _ (f : Format) (m : ℕ) (sent : List Sent) (gen : Generator f sent) (start : ℕ) (places before symbols : List ℕ) (part : StreamPart f sent start places symbols) (b : window_length f (suc m) ≤ length symbols) where
  abbrev offset : ℕ
  offset = length symbols - window_length f (suc m)

  abbrev in_window : List ℕ
  in_window = places_within offset (window_length f (suc m)) places

  window-near : Near f m sent (start + offset) in_window (last_of (window_length f (suc m)) (before ++ symbols))
  unfolding last_of
  window-near =
      let n : length (before ++ symbols) ≡ length before + length symbols = length-append before symbols in
      let w = window-long f m in
      record {
        long_is = length-drop (length (before ++ symbols) - window_length f (suc m)) (before ++ symbols) ∙ omega arith;
        inside = omega (arith, part.inside);
        same = λ k a d.
            let i : length (before ++ symbols) - window_length f (suc m) + k ≡ length before + (offset + k) = omega arith in
            let j : start + (offset + k) ≡ start + offset + k = omega arith in
            get_or-drop (length (before ++ symbols) - window_length f (suc m)) (before ++ symbols) k 0
            ∙ ap (λ (x : ℕ). get_or (before ++ symbols) x 0) i
            ∙ get_or-append-add before symbols (offset + k) 0
            ∙ part.same (offset + k) (omega arith) (places-within-member offset (window_length f (suc m)) k places (omega arith) d)
            ∙ ap (λ (x : ℕ). get_or (elements f sent) x 0) j;
      }

  long-enough : window_length f (suc m) ≤ length (before ++ symbols)
  long-enough = omega (arith, length-append before symbols)

  -- at most m places in the window: a report is of the frame that has just ended
  pub part-report : length in_window ≤ m → length in_window < 7 → (t : Time) (w : ℕ) → plain_answer f (suc m) (before ++ symbols) ≡ Report t w → EndsFrame f sent (start + length symbols) t
  part-report few less t w r =
      let e =
      no_false_time f m sent gen (start + offset) in_window (last_of (window_length f (suc m)) (before ++ symbols)) window-near few less t w (window-confirmed f m (last_of (window_length f (suc m)) (before ++ symbols)) t w (sym (answer-long f (suc m) (before ++ symbols) long-enough) ∙ r)) in
      record { frame = e.frame; inside = e.inside; whole = omega (arith, e.whole, window-long f m); time = e.time }

  -- no place in the window, and it ends where frame q + m does: that frame is reported
  pub part-intact : ((k : ℕ) → k < window_length f (suc m) → member k in_window ≡ false) → (q : ℕ) → start + length symbols ≡ size f * suc (q + m) → plain_answer f (suc m) (before ++ symbols) ≡ Report (sent_at sent (q + m)).time (sent_at sent (q + m)).control
  part-intact clear q a =
      answer-long f (suc m) (before ++ symbols) long-enough
      ∙ confirmed-window f m (last_of (window_length f (suc m)) (before ++ symbols)) (sent_at sent (q + m)).time (sent_at sent (q + m)).control
      (intact f m sent gen (start + offset) in_window (last_of (window_length f (suc m)) (before ++ symbols)) window-near (λ k h. clear k (omega (arith, window-long f m))) q (omega (arith, window-long f m)))

-- ---- consecutive elements, some of them replaced

pub part-replaced : (f : Format) (sent : List Sent) (start n : ℕ) (places symbols : List ℕ) → start + n ≤ length (elements f sent) → ReplacedAt places symbols (take n (drop start (elements f sent))) → StreamPart f sent start places symbols
part-replaced f sent start n places symbols h is =
    let l : length (take n (drop start (elements f sent))) ≡ n = length-take-le n (drop start (elements f sent)) (omega (arith, length-drop start (elements f sent))) in
    record {
      inside = omega (arith, is.as_long);
      same = λ j a d. is.same j (omega (arith, is.as_long)) d ∙ get_or-take n (drop start (elements f sent)) j 0 (omega (arith, is.as_long)) ∙ get_or-drop start (elements f sent) j 0;
    }

pub none-replaced : (xs : List ℕ) → ReplacedAt [] xs xs
none-replaced xs = record { as_long = refl; same = λ j b d. refl }

pub one-replaced : (xs : List ℕ) (p x : ℕ) → ReplacedAt (p ∷ []) (set xs p x) xs
one-replaced xs p x = record { as_long = length-set xs p x; same = λ j b d. get_or-set_other xs p j x 0 (λ q. clash (eq-eqb j p q) (neither-first (eqb j p) false d)) }

-- ---- a stream joined at an element, some of its elements replaced by symbols

pub symbols-intact : (f : Format) (sent : List Sent) (start j : ℕ) → get_or (drop start (elements f sent)) j 0 ≤ 3
symbols-intact f sent start j = rw (get_or-drop start (elements f sent) j 0) (element-small f sent (start + j))

pub symbol-replaced : (f : Format) (sent : List Sent) (start p x : ℕ) → x ≤ 3 → (j : ℕ) → get_or (set (drop start (elements f sent)) p x) j 0 ≤ 3
symbol-replaced f sent start p x small j = go (ℕ_discrete j p) (dec_lt p (length (drop start (elements f sent))))
  where
    go : Dec (j ≡ p) → Dec (p < length (drop start (elements f sent))) → get_or (set (drop start (elements f sent)) p x) j 0 ≤ 3
    go (no q) c = rw (get_or-set_other (drop start (elements f sent)) p j x 0 q) (symbols-intact f sent start j)
    go (yes q) (yes c) = rw q (rw (get_or-set_same (drop start (elements f sent)) p x 0 c) small)
    go (yes q) (no c) = omega (arith, get_or-eq_default (set (drop start (elements f sent)) p x) 0 {n = j} (omega (arith, length-set (drop start (elements f sent)) p x)))

module _ (f : Format) (m : ℕ) (sent : List Sent) (gen : Generator f sent) (start : ℕ) (places stream : List ℕ) (is : ReplacedAt places stream (drop start (elements f sent))) where
  first_part : (e : ℕ) → 1 ≤ e → e ≤ length stream → StreamPart f sent start places (take e stream)
  first_part e a b =
      let n : length (take e stream) ≡ e = length-take-le e stream b in
      record {
        inside = omega (arith, is.as_long, length-drop start (elements f sent));
        same = λ j c d. get_or-take e stream j 0 (omega arith) ∙ is.same j (omega (arith, is.as_long)) d ∙ get_or-drop start (elements f sent) j 0;
      }

  -- At most m places replaced in the window that ends with the first e elements: a report is of the frame that has just ended.
  pub report : (e : ℕ) → e ≤ length stream → length (places_within (e - window_length f (suc m)) (window_length f (suc m)) places) ≤ m → length (places_within (e - window_length f (suc m)) (window_length f (suc m)) places) < 7
      → (t : Time) (w : ℕ) → plain_answer f (suc m) (take e stream) ≡ Report t w → EndsFrame f sent (start + e) t
  report e b few less t w r = go (dec_le (window_length f (suc m)) e)
    where
      n : length (take e stream) ≡ e
      n = length-take-le e stream b

      go : Dec (window_length f (suc m) ≤ e) → EndsFrame f sent (start + e) t
      go (no c) = quiet-no-report t w (sym (answer-short f (suc m) (take e stream) (omega (arith, n))) ∙ r)
      go (yes c) =
          let ends = part-report f m sent gen start places [] (take e stream) (first_part e (omega (arith, window-long f m, size-positive f)) b) (omega (arith, n)) (rw n few) (rw n less) t w r in
          record { frame = ends.frame; inside = ends.inside; whole = omega (arith, ends.whole, n); time = ends.time }

-- an undamaged stream
module _ (f : Format) (m : ℕ) (sent : List Sent) (gen : Generator f sent) (start : ℕ) (none : Answer) (i : ℕ) (b : i < length (drop start (elements f sent))) where
  abbrev stream : List ℕ
  stream = drop start (elements f sent)

  -- the answer to the stream's element i, from 0
  abbrev pub answer : Answer
  answer = get_or (plain_answers f (suc m) [] stream) i none

  so_far : length (take (suc i) stream) ≡ suc i
  so_far = length-take-le (suc i) stream (omega arith)

  answer-is : answer ≡ plain_answer f (suc m) (take (suc i) stream)
  answer-is = answer_at f (suc m) [] stream none (λ j c. symbols-intact f sent start j) i b

  pub early : suc i < window_length f (suc m) → answer ≡ Quiet
  early c = answer-is ∙ answer-short f (suc m) (take (suc i) stream) (omega (arith, so_far))

  -- elsewhere than at a frame's end: nothing
  pub between : ((j : ℕ) → start + suc i ≡ size f * suc j → ⊥) → answer ≡ Quiet
  between n =
      answer-is
      ∙ answer-quiet f (suc m) (take (suc i) stream)
      (λ t w r. let e = report f m sent gen start [] stream (none-replaced stream) (suc i) (omega arith) (omega arith) (omega arith) t w r in n e.frame e.whole)

  -- at the end of frame q + m: that frame
  pub at-end : window_length f (suc m) ≤ suc i → (q : ℕ) → start + suc i ≡ size f * suc (q + m) → answer ≡ Report (sent_at sent (q + m)).time (sent_at sent (q + m)).control
  at-end c q a =
      answer-is
      ∙ part-intact f m sent gen start [] [] (take (suc i) stream) (first_part f m sent gen start [] stream (none-replaced stream) (suc i) (omega arith) (omega arith)) (omega (arith, so_far)) (λ j h. refl) q (omega (arith, so_far))

-- ---- joining an undamaged stream: frame q is the first that is received whole, its lead before it

pub first-report : (f : Format) (m : ℕ) (sent : List Sent) → Generator f sent → (start q : ℕ) → start + lead f ≤ size f * q → size f * q < start + lead f + size f → q + m < length sent → (none : Answer)
    → ((j : ℕ) → suc j < size f * suc (q + m) - start → get_or (plain_answers f (suc m) [] (drop start (elements f sent))) j none ≡ Quiet)
    × (get_or (plain_answers f (suc m) [] (drop start (elements f sent))) (size f * suc (q + m) - start - 1) none ≡ Report (sent_at sent (q + m)).time (sent_at sent (q + m)).control)
unfolding window_length
first-report f m sent gen start q a c b none =
    let whole : size f * suc (q + m) ≤ size f * length sent = mul-le-mul_left (size f) b in
    let n = size-positive f in
    let e : length (elements f sent) ≡ size f * length sent = length-elements f sent in
    let l : length (drop start (elements f sent)) ≡ length (elements f sent) - start = length-drop start (elements f sent) in (
      λ j d. quiet j d (omega arith) (dec_le (window_length f (suc m)) (suc j)),
      at-end f m sent gen start none (size f * suc (q + m) - start - 1) (omega arith) (omega arith) q (omega arith),
    )
  where
    quiet : (j : ℕ) → suc j < size f * suc (q + m) - start → j < length (drop start (elements f sent)) → Dec (window_length f (suc m) ≤ suc j)
        → get_or (plain_answers f (suc m) [] (drop start (elements f sent))) j none ≡ Quiet
    quiet j d k (no z) = early f m sent gen start none j k (omega arith)
    quiet j d k (yes z) =
        between f m sent gen start none j k
        (λ p u.
        let x : q + m < suc p = lt_of_mul-lt-mul_left (size f) (omega arith) in
        let y : suc p < suc (q + m) = lt_of_mul-lt-mul_left (size f) (omega arith) in
        omega arith)
