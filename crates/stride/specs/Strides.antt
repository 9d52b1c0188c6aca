-- A stride of a list of symbols: no frame is whole before its last symbol, so that only the last can report.
use Rattle.timecode.specs.declared.Refusal.{Refusal}
use Rattle.timecode.specs.declared.Reading.{Reading}
use Rattle.std.specs.Prelude.{◌≡◌, refl, false, cond, List, [], ◌∷◌, ◌++◌, ℕ, zero, suc, ◌+◌, ◌-◌, ◌%◌, ◌<◌, ◌≤◌, eqb, Result}
use Rattle.std.proofs.Math.Path.{sym, ap}
use Rattle.std.proofs.Common.{subst, ◌∙◌, add-zero, mod-eq_of_lt, eqb-true, eq-eqb, ne_eqb}
use Rattle.std.proofs.Math.Bool.{true}
use Rattle.std.proofs.Math.Nat.{mod-add-mod}
use native.Mathlib.Omega.{arith}
use Rattle.std.proofs.lemmas.Bool.{eqb-false}
use Rattle.std.proofs.Math.ListN.{get_or, length}
use Rattle.timecode.specs.Formats.{size}
use Rattle.timecode.specs.Frames.{read_of}
use Rattle.timecode.proofs.Laws.Table.{size-range}
use Rattle.timecode.proofs.Laws.Tests.{by-test}
use Rattle.timecode.specs.declared.Answer.{Answer}
use Rattle.timecode.specs.declared.Answer.TheVariants.{Quiet}
use Rattle.timecode.specs.declared.Format.{Format}
use Rattle.following.specs.Rows.{opens_frame}
use Rattle.register.specs.Receiving.{push_of, continued_of, begun_of, receive_of, frame_of}
use Rattle.register.specs.Contents.{pushed-low, receive-newest}
use Rattle.register.specs.declared.Register.{Register}
use Rattle.openings.specs.Openings.{opens_at, CloseOpenings, start, later}
use Rattle.receive_many.specs.ManySymbols.{slice, push_all, receive_all, join_all, AllSymbols, NoneOpens, NotWholeBefore, SymbolsBelow, length-slice, slice_at, slice-cons, inside_is, outside-is, inside-not-whole, outside-not-whole, join-all-count, NeverWhole, never-before, never-append, short-never, short-count, receive-append, received-newest, receive-opens, slice-join, slice-last, slice-none, push-all-none, push-all-last, push-all-low}
use Rattle.stream.specs.Feeding.{with_register, reader_with_reading, when_whole, with_symbol_of, next_of, answer_after, feed_of}
use Rattle.stream.proofs.Feeding.{valid-place}
use Rattle.stream.specs.Refinement.{answers, reader_after}
use Rattle.stream.specs.declared.Reader.{Reader}
use Rattle.stride.specs.ReadyReaders.{Ready, next-with-symbol, answer-of-symbol, ready_with, ready-next}
use Rattle.stride.specs.Shown.{ShowsLast, last_none, last-all, last_frame}

-- ---- over lists

not-whole-same : (r : Reader) → (r.received.count ≡ size r.format → ⊥) → when_whole r ≡ r
unfolding when_whole
not-whole-same r n = rw (ne_eqb r.received.count (size r.format) n)

not-whole-quiet : (r : Reader) → (r.received.count ≡ size r.format → ⊥) → answer_after r ≡ Quiet
unfolding answer_after
not-whole-quiet r n = rw (ne_eqb r.received.count (size r.format) n)

-- the reader after one symbol that makes no frame whole
abbrev pub symbol_received : Reader → ℕ → Reader
symbol_received r s = with_register r ((r.place + 1) % size r.format) (receive_of r.format (size r.format) r.received s)

next-received : (r : Reader) (s : ℕ) → Ready r → s ≤ 3 → ((receive_of r.format (size r.format) r.received s).count ≡ size r.format → ⊥) → next_of r s ≡ symbol_received r s
unfolding with_symbol_of
next-received r s v b n = next-with-symbol r s v b ∙ not-whole-same (symbol_received r s) n

-- The reader after symbols of which none but the last makes a frame whole: the register receives all of them, and one frame at most is read.
pub stride-reader : (r : Reader) (x : ℕ) (xs : List ℕ) → Ready r → AllSymbols (x ∷ xs) → NotWholeBefore r.format (size r.format) r.received (x ∷ xs)
    → reader_after r (x ∷ xs) ≡ when_whole (with_register r ((r.place + length (x ∷ xs)) % size r.format) (receive_all r.format (size r.format) r.received (x ∷ xs)))
unfolding reader_after feed_of receive_all with_symbol_of
stride-reader r x [] v s u = next-with-symbol r x v (s 0 (omega arith))
stride-reader r x (y ∷ ys) v s u =
    let n = size r.format in
    let next = symbol_received r x in
    let on : ((r.place + 1) % n + suc (length ys)) % n ≡ (r.place + suc (suc (length ys))) % n =
    mod-add-mod (r.place + 1) n (suc (length ys)) ∙ ap (λ (k : ℕ). k % n) (omega arith) in
    rw (next-received r x v (s 0 (omega arith)) u.0)
    (stride-reader next y ys (ready_with r 1 (receive_of r.format n r.received x) v) (λ j b. s (suc j) (omega arith)) u.1 ∙ rw on)

-- and no answer but the last is other than Quiet
pub stride-quiet : (r : Reader) (x : ℕ) (xs : List ℕ) → Ready r → AllSymbols (x ∷ xs) → NotWholeBefore r.format (size r.format) r.received (x ∷ xs)
    → (none : Answer) (k : ℕ) → k < length xs → get_or (answers r (x ∷ xs)) k none ≡ Quiet
unfolding answers feed_of
stride-quiet r x [] v s u none k b = let z : ⊥ = omega arith in absurd z
stride-quiet r x (y ∷ ys) v s u none zero b =
    answer-of-symbol r x v (s 0 (omega arith)) ∙ ap answer_after (next-received r x v (s 0 (omega arith)) u.0) ∙ not-whole-quiet (symbol_received r x) u.0
stride-quiet r x (y ∷ ys) v s u none (suc k) b =
    let n = size r.format in
    ap (λ (q : Reader). get_or (answers q (y ∷ ys)) k none) (next-received r x v (s 0 (omega arith)) u.0)
    ∙ stride-quiet (symbol_received r x) y ys (ready_with r 1 (receive_of r.format n r.received x) v) (λ j b. s (suc j) (omega arith)) u.1 none k (omega arith)

-- the last answer is that of the reader after it
pub stride-last : (r : Reader) (x : ℕ) (xs : List ℕ) → Ready r → AllSymbols (x ∷ xs) → (none : Answer) → get_or (answers r (x ∷ xs)) (length xs) none ≡ answer_after (reader_after r (x ∷ xs))
unfolding answers reader_after feed_of
stride-last r x [] v s none = answer-of-symbol r x v (s 0 (omega arith))
stride-last r x (y ∷ ys) v s none = stride-last (next_of r x) y ys (ready-next r x v) (λ j b. s (suc j) (omega arith)) none

-- where the last makes no frame whole either, none is read, and all answers are Quiet
pub run-reader : (r : Reader) (xs : List ℕ) → Ready r → AllSymbols xs → NotWholeBefore r.format (size r.format) r.received xs → ((receive_all r.format (size r.format) r.received xs).count ≡ size r.format → ⊥)
    → reader_after r xs ≡ with_register r ((r.place + length xs) % size r.format) (receive_all r.format (size r.format) r.received xs)
unfolding reader_after receive_all
run-reader r [] v s u m =
    let same : (r.place + 0) % size r.format ≡ r.place = ap (λ (k : ℕ). k % size r.format) (add-zero r.place) ∙ mod-eq_of_lt (valid-place r v.0) in
    ap (λ (place : ℕ). with_register r place r.received) (sym same)
run-reader r (x ∷ xs) v s u m =
    stride-reader r x xs v s u ∙ not-whole-same (with_register r ((r.place + length (x ∷ xs)) % size r.format) (receive_all r.format (size r.format) r.received (x ∷ xs))) m

pub run-quiet : (r : Reader) (xs : List ℕ) → Ready r → AllSymbols xs → NotWholeBefore r.format (size r.format) r.received xs → ((receive_all r.format (size r.format) r.received xs).count ≡ size r.format → ⊥)
    → (none : Answer) (k : ℕ) → k < length xs → get_or (answers r xs) k none ≡ Quiet
run-quiet r [] v s u m none k b = let z : ⊥ = omega arith in absurd z
run-quiet r (x ∷ xs) v s u m none k b =
    let next = with_register r ((r.place + length (x ∷ xs)) % size r.format) (receive_all r.format (size r.format) r.received (x ∷ xs)) in
    by-test (eqb k (length xs))
    (λ y. rw (eqb-true k (length xs) y) (stride-last r x xs v s none ∙ ap answer_after (run-reader r (x ∷ xs) v s u m) ∙ not-whole-quiet next m))
    (λ n. let other = eqb-false k (length xs) n in stride-quiet r x xs v s u none k (omega (arith, other)))

-- ---- the register after a stride

-- symbols of which none begins a frame, outside a frame or inside it
abbrev pub run_of : Register → List ℕ → Register
run_of h xs = cond (eqb h.count 0) (continued_of h (push_all h.newest xs) 0) (join_all h xs)

pub run-received : (f : Format) (n : ℕ) (h : Register) (xs : List ℕ) → AllSymbols xs → NoneOpens f (h.newest % 4) xs → (1 ≤ h.count → h.count + length xs ≤ n) → receive_all f n h xs ≡ run_of h xs
run-received f n h xs s c b =
    by-test (eqb h.count 0)
    (λ y. rw y (outside-is f n h xs s c (eqb-true h.count 0 y)))
    (λ m. let some = eqb-false h.count 0 m in let one : 1 ≤ h.count = omega (arith, some) in rw m (inside_is f n h xs s c one (b one)))

pub run-not-whole : (f : Format) (n : ℕ) (h : Register) (xs : List ℕ) → 1 ≤ n → AllSymbols xs → NoneOpens f (h.newest % 4) xs → (1 ≤ h.count → h.count + length xs ≤ n) → NotWholeBefore f n h xs
run-not-whole f n h xs p s c b =
    by-test (eqb h.count 0)
    (λ y. outside-not-whole f n h xs p s c (eqb-true h.count 0 y))
    (λ m. let some = eqb-false h.count 0 m in let one : 1 ≤ h.count = omega (arith, some) in inside-not-whole f n h xs s c one (b one))

-- ---- openings, each before the frame of the one before is whole

module _ (f : Format) (n : ℕ) (ss : List ℕ) (h : Register) (from to : ℕ) (two : 2 ≤ n) (l : to ≤ length ss) (below : SymbolsBelow ss to) (low : h.newest % 4 ≡ get_or ss from 0) (one : h.count ≡ 1) where
  -- the register after the symbols before an index
  abbrev after : ℕ → Register
  after k = receive_all f n h (slice ss (from + 1) k)

  after-low : (k : ℕ) → from < k → k ≤ to → (after k).newest % 4 ≡ get_or ss (k - 1) 0
  after-low k a b =
      let newest : (after k).newest % 4 ≡ push_all h.newest (slice ss (from + 1) k) % 4 = ap (λ (w : ℕ). w % 4) (received-newest f n h (slice ss (from + 1) k)) in
      by-test (eqb k (from + 1))
      (λ y.
      let is : k ≡ from + 1 = eqb-true k (from + 1) y in
      let there : from + 1 - 1 ≡ from = omega arith in
      newest ∙ rw is (rw there (ap (λ (w : ℕ). w % 4) (push-all-none h.newest ss (from + 1)) ∙ low)))
      (λ m. let other = eqb-false k (from + 1) m in newest ∙ push-all-low h.newest ss (from + 1) k (omega (arith, other)) (omega arith) (below (k - 1) (omega arith)))

  -- from one opening to the next
  next-opened : (m r : ℕ) → from ≤ m → m < r → r < to → r < m + n → opens_at f ss r ≡ true → (after (m + 1)).count ≡ 1 → NeverWhole f n h (slice ss (from + 1) (m + 1))
      → (after (r + 1) ≡ begun_of (push_all h.newest (slice ss (from + 1) (r + 1))) 1 0) × NeverWhole f n h (slice ss (from + 1) (r + 1))
  unfolding receive_all
  next-opened m r a b c d o e never =
      let middle = slice ss (m + 1) r in
      let x = get_or ss r 0 in
      let long : length middle ≡ r - (m + 1) = length-slice ss (m + 1) r (omega arith) (omega arith) in
      let cut : slice ss (from + 1) r ≡ slice ss (from + 1) (m + 1) ++ middle = slice-join ss (from + 1) (m + 1) r (omega arith) (omega arith) in
      let short : (after (m + 1)).count + length middle < n = omega (arith, e, long) in
      let before : after r ≡ receive_all f n (after (m + 1)) middle = ap (receive_all f n h) cut ∙ receive-append f n h (slice ss (from + 1) (m + 1)) middle in
      let fewer : (after r).count < n = rw before (short-count f n (after (m + 1)) middle short) in
      let other : (after r).count ≡ n → ⊥ = λ z. omega arith in
      let opens : opens_frame f ((after r).newest % 4) x ≡ true = rw (after-low r (omega arith) (omega arith)) o in
      let begun : receive_of f n (after r) x ≡ begun_of (push_of (after r).newest x) 1 0 = receive-opens f n (after r) x opens other in
      let cut-last : slice ss (from + 1) (r + 1) ≡ slice ss (from + 1) r ++ (x ∷ []) = slice-last ss (from + 1) r (omega arith) (omega arith) in
      let is : after (r + 1) ≡ receive_of f n (after r) x = ap (receive_all f n h) cut-last ∙ receive-append f n h (slice ss (from + 1) r) (x ∷ []) in
      let word : push_of (after r).newest x ≡ push_all h.newest (slice ss (from + 1) (r + 1)) = ap (λ (w : ℕ). push_of w x) (received-newest f n h (slice ss (from + 1) r)) ∙ sym (push-all-last h.newest ss (from + 1) r (omega arith) (omega arith)) in
      let single : (receive_of f n (after r) x).count ≡ n → ⊥ = λ z. let counted : (receive_of f n (after r) x).count ≡ 1 = ap (λ (g : Register). g.count) begun in omega arith in
      let never_r : NeverWhole f n h (slice ss (from + 1) r) = rw cut (never-append f n h (slice ss (from + 1) (m + 1)) middle never (short-never f n (after (m + 1)) middle short)) in
      (is ∙ begun ∙ ap (λ (w : ℕ). begun_of w 1 0) word, rw cut-last (never-append f n h (slice ss (from + 1) r) (x ∷ []) never_r (single, tt)))

  close_never : (last : ℕ) → CloseOpenings f n ss from last → last < to → (from ≤ last) × ((after (last + 1)).count ≡ 1) × NeverWhole f n h (slice ss (from + 1) (last + 1))
  unfolding receive_all
  close_never last start b = (omega arith, rw (slice-none ss (from + 1)) one, rw (slice-none ss (from + 1)) tt)
  close_never last (later m r before a d o) b =
      let so_far = close_never m before (omega arith) in
      let next = next-opened m r so_far.0 a b d o so_far.1 so_far.2 in
      (omega (arith, so_far.0), ap (λ (g : Register). g.count) next.0, next.1)

  -- a frame begins with the last of them, and none is whole before
  pub opened-last : (last : ℕ) → CloseOpenings f n ss from last → from < last → last < to → (receive_all f n h (slice ss (from + 1) (last + 1)) ≡ begun_of (push_all h.newest (slice ss (from + 1) (last + 1))) 1 0) × NeverWhole f n h (slice ss (from + 1) (last + 1))
  opened-last last start a b = let z : ⊥ = omega arith in absurd z
  opened-last last (later m r before c d o) a b =
      let so_far = close_never m before (omega arith) in
      next-opened m r so_far.0 c b d o so_far.1 so_far.2

-- ---- by index in a list of symbols

-- Symbols after a first, from the index `next` on: the register that received them, and that none but the last of them makes a frame whole.
pub record Runs (f : Format) (n : ℕ) (first : Register) (ss : List ℕ) (next end to : ℕ) (received : Register) (stop : ℕ) : Type 0 where
  pub start : next ≤ stop
  pub within : stop ≤ to
  pub few : stop - next ≤ 4096
  pub received_is : receive_all f n first (slice ss next stop) ≡ received
  pub not_whole : NotWholeBefore f n first (slice ss next stop)
  pub first_not : next < stop → first.count ≡ n → ⊥
  pub last_not : (1 ≤ first.count → first.count + (end - next) < n) → received.count ≡ n → ⊥

module _ (f : Format) (n : ℕ) (first : Register) (ss : List ℕ) (next end to : ℕ) (two : 2 ≤ n) (after : 1 ≤ next) (a : next ≤ end) (b : end ≤ to) (l : to ≤ length ss) (few : end - next ≤ 4096)
    (most : 1 ≤ first.count → first.count + (end - next) ≤ n) (low : first.newest % 4 ≡ get_or ss (next - 1) 0) (below : SymbolsBelow ss to) where
  -- openings, each before the frame of the one before is whole
  pub runs-open : (last : ℕ) (received : Register) → first.count ≡ 1 → next ≤ last → last < to → last + 1 - next ≤ 4096 → CloseOpenings f n ss (next - 1) last
      → received ≡ begun_of (push_all first.newest (slice ss next (last + 1))) 1 0 → Runs f n first ss next end to received (last + 1)
  runs-open last received one c d few-there close e =
      let there : next - 1 + 1 ≡ next = omega arith in
      let opened = rw there at (opened-last f n ss first (next - 1) to two l below low one last close (omega arith) d) in
      record {
        start = omega arith;
        within = omega arith;
        few = few-there;
        received_is = opened.0 ∙ sym e;
        not_whole = never-before f n first (slice ss next (last + 1)) opened.1;
        first_not = λ u z. omega (arith, one, two);
        last_not = λ u z. let single : received.count ≡ 1 = ap (λ (h : Register). h.count) e in omega (arith, single, two);
      }

  -- up to the next opening
  module _ (stop : ℕ) (c : next ≤ stop) (d : stop ≤ end) (none_open : (j : ℕ) → next ≤ j → j < stop → opens_at f ss j ≡ false) where
    abbrev others : List ℕ
    others = slice ss next stop

    others-long : length others ≡ stop - next
    others-long = length-slice ss next stop c (omega arith)

    others-at : (j : ℕ) → j < length others → get_or others j 0 ≡ get_or ss (next + j) 0
    others-at j h = slice_at ss next stop j (omega (arith, others-long))

    others-symbols : AllSymbols others
    others-symbols j h = rw (others-at j h) (below (next + j) (omega (arith, others-long)))

    none-opens : (j : ℕ) → j < length others → opens_frame f (get_or (get_or ss (next - 1) 0 ∷ others) j 0) (get_or others j 0) ≡ false
    none-opens zero h =
        let here : next + 0 - 1 ≡ next - 1 = omega arith in
        let here-none = none_open (next + 0) (omega arith) (omega (arith, others-long)) in
        rw (others-at 0 h) (rw here at here-none)
    none-opens (suc j) h =
        let here : next + suc j - 1 ≡ next + j = omega arith in
        let here-none = none_open (next + suc j) (omega arith) (omega (arith, others-long)) in
        rw (others-at (suc j) h, others-at j (omega arith)) (rw here at here-none)

    others-none-open : NoneOpens f (first.newest % 4) others
    others-none-open = rw low none-opens

    others-most : 1 ≤ first.count → first.count + length others ≤ n
    others-most h = let m = most h in omega (arith, others-long)

    run-count : (run_of first others).count ≡ cond (eqb first.count 0) 0 (first.count + length others)
    run-count = by-test (eqb first.count 0) (λ y. rw y) (λ m. rw m (join-all-count first others))

    pub runs_to : (received : Register) → received ≡ run_of first others → Runs f n first ss next end to received stop
    runs_to received e =
        record {
          start = c;
          within = omega arith;
          few = omega arith;
          received_is = run-received f n first others others-symbols others-none-open others-most ∙ sym e;
          not_whole = run-not-whole f n first others (omega arith) others-symbols others-none-open others-most;
          first_not = λ u z. let m = most (omega arith) in omega arith;
          last_not = λ short z. last_less short (sym (ap (λ (h : Register). h.count) e) ∙ z);
        }
      where
        last_less : (1 ≤ first.count → first.count + (end - next) < n) → (run_of first others).count ≡ n → ⊥
        last_less short z =
            by-test (eqb first.count 0)
            (λ y. let q : ◌≡◌ {A = ℕ} 0 n = sym (run-count ∙ rw y) ∙ z in omega arith)
            (λ m.
            let some = eqb-false first.count 0 m in
            let q : first.count + length others ≡ n = sym (run-count ∙ rw m) ∙ z in
            let u = short (omega (arith, some)) in
            omega (arith, others-long))

-- the register's newest symbol is the one received last
pub first-low : (f : Format) (n : ℕ) (h : Register) (ss : List ℕ) (from : ℕ) → get_or ss from 0 ≤ 3 → (receive_of f n h (get_or ss from 0)).newest % 4 ≡ get_or ss (from + 1 - 1) 0
first-low f n h ss from b =
    let back : from + 1 - 1 ≡ from = omega arith in
    rw back (ap (λ (w : ℕ). w % 4) (receive-newest f n h (get_or ss from 0)) ∙ pushed-low h.newest (get_or ss from 0) b)

-- from index `from` on so many symbols are taken and `next` is the reader after them: the answers are Quiet but for the last, which is that of `next`
pub record Strides (r : Reader) (ss : List ℕ) (from to : ℕ) (next : Reader) (taken : ℕ) : Type 0 where
  pub some : 1 ≤ taken
  pub within : from + taken ≤ to
  pub reader_is : next ≡ reader_after r (slice ss from (from + taken))
  pub quiet : (none : Answer) (k : ℕ) → k + 1 < taken → get_or (answers r (slice ss from (from + taken))) k none ≡ Quiet
  pub last : (none : Answer) → get_or (answers r (slice ss from (from + taken))) (taken - 1) none ≡ answer_after next

-- the first symbol, then a run
module _ (r : Reader) (ss : List ℕ) (from end to n : ℕ) (first received : Register) (stop place : ℕ) (after : Reader)
    (v : Ready r) (l : to ≤ length ss) (below : SymbolsBelow ss to) (en : n ≡ size r.format) (ef : first ≡ receive_of r.format n r.received (get_or ss from 0))
    (run : Runs r.format n first ss (from + 1) end to received stop) (ep : place ≡ (r.place + (stop - from)) % n) (ea : after ≡ with_register r place received) where
  abbrev f : Format
  f = r.format

  abbrev rest : List ℕ
  rest = slice ss (from + 1) stop

  abbrev taken_symbols : List ℕ
  taken_symbols = get_or ss from 0 ∷ rest

  cons : slice ss from stop ≡ taken_symbols
  cons = slice-cons ss from stop (omega (arith, run.start)) (omega (arith, run.within))

  taken-long : length (slice ss from stop) ≡ stop - from
  taken-long = length-slice ss from stop (omega (arith, run.start)) (omega (arith, run.within))

  all-symbols : AllSymbols taken_symbols
  all-symbols = subst AllSymbols cons (λ j h. rw (slice_at ss from stop j (omega (arith, taken-long))) (below (from + j) (omega (arith, taken-long, run.within))))

  received_is : receive_all f n r.received taken_symbols ≡ received
  unfolding receive_all
  received_is = ap (λ (h : Register). receive_all f n h rest) (sym ef) ∙ run.received_is

  not-whole-from : (xs : List ℕ) → xs ≡ rest → NotWholeBefore f n first xs → NotWholeBefore f n r.received (get_or ss from 0 ∷ xs)
  not-whole-from [] e u = tt
  not-whole-from (y ∷ ys) e u =
      let some : from + 1 < stop = let long : suc (length ys) ≡ stop - (from + 1) = ap length e ∙ length-slice ss (from + 1) stop run.start (omega (arith, run.within)) in omega arith in
      rw (← ef) (run.first_not some, u)

  not_whole : NotWholeBefore f (size f) r.received taken_symbols
  not_whole = rw (← en) (not-whole-from rest refl run.not_whole)

  -- a frame that began with the first symbol and is whole is the symbols themselves
  pub frame-way : stop - from ≡ n → after.received.count ≡ n → frame_of after.received n ≡ slice ss from stop
  frame-way e c =
      let same : after.received ≡ received = ap (λ (q : Reader). q.received) ea in
      let is : received.count ≡ n = sym (ap (λ (h : Register). h.count) same) ∙ c in
      let shown : ShowsLast received (slice ss from stop) = rw (cons, ← received_is) (last-all f n r.received [] taken_symbols all-symbols (last_none r.received)) in
      let none : length (slice ss from stop) - n ≡ 0 = omega (arith, taken-long) in
      rw same (last_frame received (slice ss from stop) n (omega (arith, size-range f)) is (omega (arith, taken-long)) shown ∙ rw none)

  pub advance-way : (next : Reader) → next ≡ when_whole after → Strides r ss from to next (stop - from)
  advance-way next es =
      let there : from + (stop - from) ≡ stop = omega (arith, run.start) in
      let long : suc (length rest) ≡ stop - from = sym (ap length cons) ∙ taken-long in
      let whole : reader_after r taken_symbols ≡ when_whole (with_register r ((r.place + (stop - from)) % n) received) = rw (long, ← en, received_is) at (stride-reader r (get_or ss from 0) rest v all-symbols not_whole) in
      let is : next ≡ reader_after r (slice ss from stop) = es ∙ ap when_whole ea ∙ rw ep (sym whole) ∙ sym (ap (reader_after r) cons) in
      record {
        some = omega (arith, run.start);
        within = omega (arith, run.start, run.within);
        reader_is = rw there is;
        quiet = λ none k h. rw (there, cons) (stride-quiet r (get_or ss from 0) rest v all-symbols not_whole none k (omega (arith, long)));
        last = λ none. let end_is : stop - from - 1 ≡ length rest = omega (arith, long) in rw (there, end_is, is, cons) (stride-last r (get_or ss from 0) rest v all-symbols none);
      }

-- ---- the ways out of the functions

pub whole-way : (r : Reader) (n : ℕ) (whole : List ℕ) (reading : Result Reading Refusal) (result : Reader) → n ≡ size r.format → r.received.count ≡ n → frame_of r.received n ≡ whole → reading ≡ read_of r.format whole → result ≡ reader_with_reading r reading → result ≡ when_whole r
unfolding when_whole
whole-way r n whole reading result e c f rd j =
    let same : read_of r.format whole ≡ read_of r.format (frame_of r.received (size r.format)) = ap (read_of r.format) (sym f ∙ ap (frame_of r.received) e) in
    j ∙ rw (eq-eqb r.received.count (size r.format) (c ∙ e)) (ap (reader_with_reading r) (rd ∙ same))
