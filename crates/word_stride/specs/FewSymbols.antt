-- Few symbols received one by one: what changes is the newest word, the count, and whether a frame began among them.
use Rattle.std.specs.Prelude.{◌≡◌, refl, Bool, cond, List, [], ◌∷◌, ℕ, ◌+◌, ◌-◌, ◌%◌, ◌<◌, ◌≤◌, eqb, ltb, length}
use Rattle.std.proofs.Math.Path.{ap}
use Rattle.std.proofs.Common.{◌∙◌, arith}
use Rattle.std.proofs.Math.Bool.{true, false}
use borrow.Author.Tests.{ltb-true, ltb-false, lt-leb, ne_eqb}
use Rattle.std.proofs.Math.ListN.{get_or}
use Rattle.timecode.proofs.Laws.Table.{size-range}
use Rattle.timecode.proofs.Laws.Tests.{by-test}
use Rattle.timecode.specs.declared.Format.{Format}
use Rattle.following.specs.Rows.{opens_frame}
use Rattle.register.specs.Receiving.{push_of, begun_of, continued_of, receive_of}
use Rattle.register.specs.declared.Register.{Register}
use Rattle.openings.specs.Accepted.{accepted_in, accepted-at, unaccepted-at}
use Rattle.receive_many.specs.ManySymbols.{slice, receive_all, length-slice, slice-none, slice-last, receive-append, never-before, short-never, short-count}
use Rattle.stride.specs.Strides.{Runs}
use Rattle.reader_words.specs.Words.{register_into}
use Rattle.word_feed.specs.InPlace.{format_in, register_in, Ready}
use Rattle.word_stride.specs.WordRuns.{RunsIn, runs-until, runs-in}

pub accepted-more : (ss : List ℕ) (i : ℕ) → i ≤ accepted_in ss → i < length ss → get_or ss i 0 ≤ 3 → i + 1 ≤ accepted_in ss
accepted-more ss i a l b =
    by-test (ltb i (accepted_in ss))
    (λ y. let less = ltb-true i (accepted_in ss) y in omega arith)
    (λ n.
    let same : i ≡ accepted_in ss = let most = ltb-false i (accepted_in ss) n in omega arith in
    let above = unaccepted-at ss (rw same at l) in
    let no : ⊥ = let here : 3 < get_or ss i 0 = rw (← same) at above in omega arith in
    absurd no)

-- the register after them: with a frame that began among them, or as it was but for the newest word and the count
abbrev pub few_of : Register → Bool → ℕ → ℕ → Register
few_of h begun newest count = cond begun (begun_of newest count 0) (continued_of h newest count)

-- one symbol more, which begins a frame or not
abbrev pub count_with : Bool → ℕ → ℕ
count_with opens count = cond opens 1 (cond (eqb count 0) 0 (count + 1))

abbrev pub begun_with : Bool → Bool → Bool
begun_with begun opens = cond opens true begun

module _ (f : Format) (n : ℕ) (h : Register) (newest count s : ℕ) (below : count < n) (room : count % 32 < 31) where
  abbrev opens : Bool
  opens = opens_frame f (newest % 4) s

  few-step : (begun : Bool) → receive_of f n (few_of h begun newest count) s ≡ few_of h (begun_with begun opens) (push_of newest s) (count_with opens count)
  unfolding receive_of
  few-step true =
      by-test opens
      (λ y. rw (y, ne_eqb count n (λ e. omega arith)))
      (λ m. by-test (eqb count 0) (λ z. rw (m, z)) (λ z. rw (m, z, lt-leb n count below, ne_eqb ((count + 1) % 32) 0 (λ e. omega arith))))
  few-step false =
      by-test opens
      (λ y. rw (y, ne_eqb count n (λ e. omega arith)))
      (λ m. by-test (eqb count 0) (λ z. rw (m, z)) (λ z. rw (m, z, lt-leb n count below, ne_eqb ((count + 1) % 32) 0 (λ e. omega arith))))

-- the symbols before an index are received; up to the end no frame is whole, and no word of it full
pub record Received (f : Format) (n : ℕ) (h : Register) (ss : List ℕ) (from end i newest count : ℕ) (begun : Bool) : Type 0 where
  pub start : from ≤ i
  pub within : i ≤ end
  pub accepted : i ≤ accepted_in ss
  pub register_is : receive_all f n h (slice ss from i) ≡ few_of h begun newest count
  pub word_left : count % 32 + (end - i) ≤ 31
  pub frame_left : count + (end - i) < n

module _ (f : Format) (n : ℕ) (h : Register) (ss : List ℕ) (from end : ℕ) (large : 25 ≤ n) (few : end - from ≤ 15) (l : end ≤ length ss) where
  pub few-start : from ≤ end → from ≤ accepted_in ss → h.count % 32 + (end - from) ≤ 31 → h.count + (end - from) < n → Received f n h ss from end from h.newest h.count false
  unfolding receive_all
  few-start a b c d =
      record {
        start = omega arith;
        within = a;
        accepted = b;
        register_is = rw (slice-none ss from) refl;
        word_left = c;
        frame_left = d;
      }

  module _ {i newest count : ℕ} {begun : Bool} (r : Received f n h ss from end i newest count begun) where
    pub few-turn : i < end → get_or ss i 0 ≤ 3 → Received f n h ss from end (i + 1) (push_of newest (get_or ss i 0)) (count_with (opens_frame f (newest % 4) (get_or ss i 0)) count) (begun_with begun (opens_frame f (newest % 4) (get_or ss i 0)))
    unfolding receive_all
    few-turn b small =
        let s = get_or ss i 0 in
        let o = opens_frame f (newest % 4) s in
        let below : count < n = omega (arith, r.frame_left) in
        let room : count % 32 < 31 = omega (arith, r.word_left) in
        record {
          start = omega (arith, r.start);
          within = omega arith;
          accepted = accepted-more ss i r.accepted (omega arith) small;
          register_is =
              ap (receive_all f n h) (slice-last ss from i r.start (omega arith))
              ∙ receive-append f n h (slice ss from i) (s ∷ [])
              ∙ ap (λ (g : Register). receive_of f n g s) r.register_is
              ∙ few-step f n h newest count s below room begun;
          word_left = by-test o (λ y. rw y (omega (arith, few, r.start))) (λ m. by-test (eqb count 0) (λ z. rw (m, z) (omega (arith, few, r.start))) (λ z. rw (m, z) (omega (arith, r.word_left))));
          frame_left = by-test o (λ y. rw y (omega (arith, few, large, r.start))) (λ m. by-test (eqb count 0) (λ z. rw (m, z) (omega (arith, few, large, r.start))) (λ z. rw (m, z) (omega (arith, r.frame_left))));
        }

    -- with what the code finds
    pub few-next : {format : Format} {opens begun₁ : Bool} {count₁ newest₁ : ℕ} → i < end → get_or ss i 0 ≤ 3 → format ≡ f → opens ≡ opens_frame format (newest % 4) (get_or ss i 0) → count₁ ≡ count_with opens count → begun₁ ≡ begun_with begun opens → newest₁ ≡ push_of newest (get_or ss i 0)
        → Received f n h ss from end (i + 1) newest₁ count₁ begun₁
    few-next b small is o c g w = rw (w, c, g, o, is) (few-turn b small)

    -- they are a run
    pub few-run : h.count + (end - from) < n → Runs f n h ss from from i (few_of h begun newest count) i
    few-run short =
        let long : length (slice ss from i) ≡ i - from = length-slice ss from i r.start (omega (arith, r.within)) in
        let less : h.count + length (slice ss from i) < n = omega (arith, long, r.within, r.start) in
        record {
          start = r.start;
          within = omega arith;
          few = omega (arith, few, r.within);
          received_is = r.register_is;
          not_whole = never-before f n h (slice ss from i) (short-never f n h (slice ss from i) less);
          first_not = λ u z. omega (arith, short);
          last_not = λ u z. let count_less = short-count f n h (slice ss from i) less in omega (arith, ap (λ (g : Register). g.count) r.register_is, count_less);
        }

-- the words after them
module _ (words : List ℕ) (n : ℕ) (ss : List ℕ) (from end : ℕ) (at : Ready words n) (long : length words ≡ 14) (few : end - from ≤ 15) (l : end ≤ length ss) (short : get_or words 4 0 + (end - from) < n) where
  abbrev f : Format
  f = format_in (get_or words 0 0) (get_or words 1 0)

  pub large : 25 ≤ n
  large = omega (arith, at.size_is, size-range f)

  pub few-in : {i newest count : ℕ} {begun : Bool} → Received f n (register_in words) ss from end i newest count begun → (left : List ℕ) → left ≡ register_into words ((get_or words 3 0 + (i - from)) % n) (few_of (register_in words) begun newest count) → RunsIn words n ss from (accepted_in ss) left i
  few-in {i} {newest} {count} {begun} r left e =
      let run = few-run f n (register_in words) ss from end large few l r short in
      let in_words_lem = runs-in words n ss from from i at long (omega (arith, r.within)) (λ j b. accepted-at ss j (omega (arith, r.accepted))) (few_of (register_in words) begun newest count) i ((get_or words 3 0 + (i - from)) % n) (λ some. omega (arith, short)) run refl left e in
      runs-until r.accepted in_words_lem
