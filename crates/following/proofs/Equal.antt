-- The state that follows one frame answers as the plain machine does, for every setting k and every list of Feeds.
use Rattle.timecode.specs.declared.Reading.{Reading}
use Rattle.timecode.specs.Answers.{accepted}
use Rattle.std.specs.Prelude.{◌≡◌, false, cond, List, [], ◌∷◌, ◌++◌, leb, ltb, eqb, take, drop, Result, Err}
use Rattle.std.proofs.Math.Path.{refl, sym, ap}
use Rattle.std.proofs.Common.{ap₂, ◌∙◌, not-suc-le-zero, length-append, get_or-take, get_or-drop, get_or-append-add, drop_at, take_all}
use Rattle.std.proofs.Math.Bool.{true}
use Prim.Native.Nat.{ℕ, zero, suc, ◌+◌, ◌-◌, ◌<◌, ◌≤◌}
use native.Mathlib.Omega.{arith}
use borrow.Author.Tests.{leb-true, leb-false, le-leb, ltb-true, ltb-false, lt-ltb, le-ltb, eqb-true, eqb-false, eq-eqb, ne_eqb}
use Rattle.std.proofs.Math.ListN.{get_or, length, get_or-append}
use Rattle.std.proofs.lemmas.List.{drop-append-le}
use Rattle.std.proofs.Math.Seq.{drop-length}
use Rattle.timecode.specs.Formats.{is_symbol, size}
use Rattle.timecode.specs.Frames.{next_after, read_of}
use Rattle.timecode.proofs.Laws.Checks.{by-reading}
use Rattle.timecode.proofs.Laws.Table.{size-range}
use Rattle.timecode.proofs.Laws.Tests.{by-test, clash, and_left, and_right}
use Rattle.timecode.specs.Stream.{is_setting, first_in_row, next_in_row, plain_answer, plain_feed, plain_answers}
use Rattle.timecode.specs.declared.Answer.{Answer}
use Rattle.timecode.specs.declared.Answer.TheVariants.{Quiet, Report}
use Rattle.timecode.specs.declared.Format.{Format}
use Rattle.timecode.specs.declared.Refusal.{Refusal}
use Rattle.timecode.specs.declared.Refusal.TheVariants.{UnknownSymbol}
use Rattle.timecode.specs.declared.Time.{Time}
use Rattle.following.specs.Rows.{before, may_begin, frame_before, row_to, leads_frame, opens_frame}
use Rattle.following.proofs.Rows.{before-append, begin-append, row-append, row_ends, row-quiet, plain-is-row, no-opening-inside, accepted-opens}
use Rattle.following.specs.Following.{Following, nothing_received, row_after, with_reading, following_next, following_answer}
use Rattle.following.specs.Equal.{BeginsFrame, Describes, following_answers}

positive : (k : ℕ) → (k ≡ 0 → ⊥) → 1 ≤ k
positive zero h = absurd (h refl)
positive (suc k) h = omega arith

-- a row that ends at the end of the list is an opening of n symbols
whole-opening : (f : Format) (received : List ℕ) (m : ℕ) (t : Time) (w : ℕ) → row_to f received m (length received) ≡ Report t w → (size f ≤ length received) × BeginsFrame f received (size f)
unfolding frame_before
whole-opening f received m t w h =
    let e = row_ends f received m (length received) t w (omega arith) h in (
      e.long,
      record {
        frame = take (size f) (drop (length received - size f) received);
        time = t;
        control = w;
        accepted = e.reads;
        begins = e.begins;
        same = λ i b. get_or-take (size f) (drop (length received - size f) received) i 0 b ∙ get_or-drop (length received - size f) received i 0;
      },
    )

-- where the frame under way is not whole, no row ends
no_row : (f : Format) (received : List ℕ) (l : ℕ) → ((c : ℕ) → 1 ≤ c → c ≤ size f → c ≤ length received → BeginsFrame f received c → l ≡ c) → (l ≡ size f → ⊥) → (m : ℕ) → row_to f received m (length received) ≡ Quiet
no_row f received l only other m =
    row-quiet f received m (length received) (λ t w h. let o = whole-opening f received m t w h in other (only (size f) (omega (arith, size-range f)) (omega arith) o.0 o.1))

-- ---- how the row grows

row-some : (f : Format) (c : ℕ) (s t : Time) → ltb 0 (row_after f c s t) ≡ true
unfolding row_after
row-some f c s t =
    by-test (eqb c 0)
    (λ y. rw y)
    (λ n.
    by-test (next_after f s t)
    (λ y. by-test (ltb c 5) (λ z. rw (n, y, z) (lt-ltb 0 (c + 1) (omega arith))) (λ z. rw (n, y, z)))
    (λ y. rw (n, y)))

row-longer : (f : Format) (c : ℕ) (s t : Time) (m : ℕ) → suc m < 5 → ltb m c ≡ true → next_after f s t ≡ true → ltb (suc m) (row_after f c s t) ≡ true
unfolding row_after
row-longer f c s t m b y z =
    let l = ltb-true m c y in
    rw (ne_eqb c 0 (λ e. omega arith), z)
    (by-test (ltb c 5) (λ a. rw a (lt-ltb (suc m) (c + 1) (omega arith))) (λ a. rw a (lt-ltb (suc m) 5 b)))

row-broken : (f : Format) (c : ℕ) (s t : Time) (m : ℕ) → next_after f s t ≡ false → ltb (suc m) (row_after f c s t) ≡ false
unfolding row_after
row-broken f c s t m z = by-test (eqb c 0) (λ y. rw y (le-ltb (suc m) 1 (omega arith))) (λ n. rw (n, z) (le-ltb (suc m) 1 (omega arith)))

row-too-short : (f : Format) (c : ℕ) (s t : Time) (m : ℕ) → suc m < 5 → ltb m c ≡ false → ltb (suc m) (row_after f c s t) ≡ false
unfolding row_after
row-too-short f c s t m b y =
    let l = ltb-false m c y in
    by-test (eqb c 0)
    (λ z. rw z (le-ltb (suc m) 1 (omega arith)))
    (λ n.
    by-test (next_after f s t)
    (λ z. rw (n, z, lt-ltb c 5 (omega arith)) (le-ltb (suc m) (c + 1) (omega arith)))
    (λ z. rw (n, z) (le-ltb (suc m) 1 (omega arith))))

level : (f : Format) (m : ℕ) (r : Following) → cond (leb (suc m) r.row) (Report r.time r.control) Quiet ≡ cond (ltb m r.row) (Report r.time r.control) Quiet
level f m r = refl

module _ (f : Format) (r : Following) (received : List ℕ) (s : ℕ) (tr : Describes f r received) where
  abbrev longer : List ℕ
  longer = received ++ (s ∷ [])

  one_more : length longer ≡ length received + 1
  one_more = length-append received (s ∷ [])

  newest_is : get_or longer (length received) 0 ≡ s
  newest_is =
      let here : length received + 0 ≡ length received = omega arith in
      ap (λ (i : ℕ). get_or longer i 0) (sym here) ∙ get_or-append-add received (s ∷ []) 0 0

  newest-before : s ≡ before longer (length longer)
  newest-before =
      let up : length longer ≡ suc (length received) = omega (arith, one_more) in
      rw up (sym newest_is)

  -- the frame begins with the newest symbol
  first-opens : BeginsFrame f longer 1 → opens_frame f r.last s ≡ true
  unfolding opens_frame may_begin
  first-opens o =
      let start : length longer - 1 ≡ length received = omega (arith, one_more) in
      let at : length longer - 1 + 0 ≡ length received = omega (arith, one_more) in
      let two : s ≡ 2 = sym newest_is ∙ ap (λ (i : ℕ). get_or longer i 0) (sym at) ∙ sym (o.same 0 (omega arith)) ∙ accepted-opens f o.frame o.time o.control o.accepted in
      let mark-there : leads_frame f (before longer (length received)) ≡ true = rw start at o.begins in
      rw (eq-eqb s 2 two, tr.newest) (rw (before-append received (s ∷ []) (length received) (omega arith)) at mark-there)

  -- the newest symbol stands inside an accepted frame: it opens none
  inside-opens : (i : ℕ) → suc i < size f → suc (suc i) ≤ length longer → BeginsFrame f longer (suc (suc i)) → opens_frame f r.last s ≡ true → ⊥
  inside-opens i b l o h =
      let a : length longer - suc (suc i) + i ≡ length received - 1 = omega (arith, one_more) in
      let z : length longer - suc (suc i) + suc i ≡ length received = omega (arith, one_more) in
      let up : suc (length received - 1) ≡ length received = omega (arith, one_more) in
      let first : get_or o.frame i 0 ≡ r.last =
      o.same i (omega arith)
      ∙ ap (λ (j : ℕ). get_or longer j 0) a
      ∙ get_or-append received (s ∷ []) 0 (length received - 1) (omega (arith, one_more))
      ∙ ap (before received) up
      ∙ sym tr.newest in
      let second : get_or o.frame (suc i) 0 ≡ s = o.same (suc i) (omega arith) ∙ ap (λ (j : ℕ). get_or longer j 0) z ∙ newest_is in
      no-opening-inside f o.frame o.time o.control o.accepted i b (rw (first, second) h)

  shrink : (c : ℕ) → suc c ≤ length longer → BeginsFrame f longer (suc c) → BeginsFrame f received c
  shrink c l o =
      let start : length longer - suc c ≡ length received - c = omega (arith, one_more) in
      record {
        frame = o.frame;
        time = o.time;
        control = o.control;
        accepted = o.accepted;
        begins = sym (begin-append f received (s ∷ []) (length received - c) (omega arith)) ∙ rw start at o.begins;
        same = λ i b. o.same i (omega arith) ∙ rw start (get_or-append received (s ∷ []) 0 (length received - c + i) (omega (arith, one_more)));
      }

  -- where the newest symbol opens no frame, what the list ends in was under way
  grown : opens_frame f r.last s ≡ false → (c : ℕ) → 1 ≤ c → c ≤ size f → c ≤ length longer → BeginsFrame f longer c → (2 ≤ c) × (length r.frame + 1 ≡ c)
  grown n zero a b l o = absurd (not-suc-le-zero a)
  grown n (suc zero) a b l o = clash (first-opens o) n
  grown n (suc (suc i)) a b l o =
      let before-it : length r.frame ≡ suc i = tr.only (suc i) (omega arith) (omega arith) (omega (arith, one_more)) (shrink (suc i) l o) in
      (omega arith, omega arith)

  -- no row ends where the frame was not whole
  row_here : (l : ℕ) → l ≡ length r.frame → (m : ℕ) → m < 5 → row_to f received m (length received) ≡ cond (ltb m (cond (eqb l (size f)) r.row 0)) (Report r.time r.control) Quiet
  row_here l e m b =
      by-test (eqb l (size f))
      (λ y. rw y (rw (← e, y) at (tr.row_is m b)))
      (λ n. rw (n, le-ltb m 0 (omega arith)) (no_row f received (length r.frame) tr.only (λ z. eqb-false l (size f) n (e ∙ z)) m))

  started : opens_frame f r.last s ≡ true
      → Describes f (record { last = s; frame = s ∷ []; row = cond (eqb (length r.frame) (size f)) r.row 0; time = r.time; control = r.control }) longer
  unfolding opens_frame may_begin
  started y =
      let n = size-range f in
      let start : length longer - 1 ≡ length received = omega (arith, one_more) in
      record {
        newest = newest-before;
        short = omega arith;
        inside = omega (arith, one_more);
        part = rw start (sym (drop_at received (s ∷ []) (length received) refl));
        begins = λ h. rw start (rw (before-append received (s ∷ []) (length received) (omega arith), ← tr.newest) (and_right (eqb s 2) (leads_frame f r.last) y));
        only = λ c a b l o. opened c a b l o;
        idle = λ h. let z : ⊥ = omega arith in absurd z;
        row_is = λ m b. rw (ne_eqb 1 (size f) (λ e. omega arith), start) (row-append f received (s ∷ []) m (length received) (omega arith) ∙ row_here (length r.frame) refl m b);
      }
    where
      opened : (c : ℕ) → 1 ≤ c → c ≤ size f → c ≤ length longer → BeginsFrame f longer c → 1 ≡ c
      opened zero a b l o = absurd (not-suc-le-zero a)
      opened (suc zero) a b l o = refl
      opened (suc (suc i)) a b l o = absurd (inside-opens i b l o y)

  -- no frame is under way
  module _ (n : opens_frame f r.last s ≡ false) where
    none-on : (row : ℕ) → row ≡ 0 → ((c : ℕ) → 1 ≤ c → c ≤ size f → c ≤ length longer → BeginsFrame f longer c → 0 ≡ c)
        → Describes f (record { last = s; frame = []; row = row; time = r.time; control = r.control }) longer
    none-on row z only =
        let k = size-range f in
        let end : length longer - 0 ≡ length longer = omega arith in
        record {
          newest = newest-before;
          short = omega arith;
          inside = omega arith;
          part = rw end (sym (drop-length longer));
          begins = λ h. absurd (not-suc-le-zero h);
          only = only;
          idle = λ h. z;
          row_is = λ m b. rw (ne_eqb 0 (size f) (λ e. omega arith), end, z, le-ltb m 0 (omega arith)) (no_row f longer 0 only (λ e. omega arith) m);
        }

    idled : length r.frame ≡ 0 → Describes f (record { last = s; frame = []; row = r.row; time = r.time; control = r.control }) longer
    idled e = none-on r.row (tr.idle e) (λ c a b l o. let g = grown n c a b l o in let z : ⊥ = omega (arith, g.0, g.1) in absurd z)

    lost : size f ≤ length r.frame → Describes f (record { last = s; frame = []; row = 0; time = r.time; control = r.control }) longer
    lost e = none-on 0 refl (λ c a b l o. let g = grown n c a b l o in let z : ⊥ = omega (arith, g.0, g.1) in absurd z)

    module _ (some : (length r.frame ≡ 0) → ⊥) (room : length r.frame < size f) where
      abbrev frame' : List ℕ
      frame' = r.frame ++ (s ∷ [])

      frame-long : length frame' ≡ length r.frame + 1
      frame-long = length-append r.frame (s ∷ [])

      start-same : length longer - length frame' ≡ length received - length r.frame
      start-same = omega (arith, one_more, frame-long)

      joined : frame' ≡ drop (length longer - length frame') longer
      joined =
          ap (λ (xs : List ℕ). xs ++ (s ∷ [])) tr.part
          ∙ sym (drop-append-le (length received - length r.frame) received (s ∷ []) (omega arith))
          ∙ ap (λ (i : ℕ). drop i longer) (sym start-same)

      still-begins : may_begin f longer (length longer - length frame') ≡ true
      still-begins = rw start-same (begin-append f received (s ∷ []) (length received - length r.frame) (omega arith) ∙ tr.begins (positive (length r.frame) some))

      only-on : (c : ℕ) → 1 ≤ c → c ≤ size f → c ≤ length longer → BeginsFrame f longer c → length frame' ≡ c
      only-on c a b l o = frame-long ∙ (grown n c a b l o).1

      -- the row before the frame under way
      row_before : (m : ℕ) → m < 5 → row_to f longer m (length received - length r.frame) ≡ cond (ltb m r.row) (Report r.time r.control) Quiet
      row_before m b = row-append f received (s ∷ []) m (length received - length r.frame) (omega arith) ∙ rw (ne_eqb (length r.frame) (size f) (λ e. omega arith)) at (tr.row_is m b)

      gone-on : (length r.frame + 1 ≡ size f → ⊥) → Describes f (record { last = s; frame = frame'; row = r.row; time = r.time; control = r.control }) longer
      gone-on other =
          record {
            newest = newest-before;
            short = omega (arith, frame-long);
            inside = omega (arith, frame-long, one_more, tr.inside);
            part = joined;
            begins = λ h. still-begins;
            only = only-on;
            idle = λ h. let z : ⊥ = omega (arith, frame-long) in absurd z;
            row_is = λ m b. rw (ne_eqb (length frame') (size f) (λ e. other (sym frame-long ∙ e)), start-same) (row_before m b);
          }

      module _ (last : length r.frame + 1 ≡ size f) where
        whole_long : length frame' ≡ size f
        whole_long = frame-long ∙ last

        whole : frame_before f longer (length longer) ≡ frame'
        unfolding frame_before
        whole =
            let start : length longer - size f ≡ length longer - length frame' = omega (arith, whole_long) in
            rw start (rw (← joined) (take_all (size f) frame' (omega (arith, whole_long))))

        fits : size f ≤ length longer
        fits = omega (arith, one_more, tr.inside)

        before-it : length longer - size f ≡ length received - length r.frame
        before-it = omega (arith, one_more)

        whole-begins : may_begin f longer (length longer - size f) ≡ true
        whole-begins = rw (← whole_long) still-begins

        row_zero : (x : Result Reading Refusal) → read_of f frame' ≡ x → row_to f longer 0 (length longer) ≡ first_in_row x
        unfolding row_to
        row_zero x e = rw (le-leb (size f) (length longer) fits, whole-begins, whole, e)

        row-suc : (x : Result Reading Refusal) → read_of f frame' ≡ x → (m : ℕ) → m < 5 → row_to f longer (suc m) (length longer) ≡ next_in_row f (cond (ltb m r.row) (Report r.time r.control) Quiet) x
        unfolding row_to
        row-suc x e m b = rw (le-leb (size f) (length longer) fits, whole, e, before-it) (ap (λ (a : Answer). next_in_row f a x) (row_before m b))

        ended : (row : ℕ) (t : Time) (w : ℕ) → ((m : ℕ) → m < 5 → row_to f longer m (length longer) ≡ cond (ltb m row) (Report t w) Quiet)
            → Describes f (record { last = s; frame = frame'; row = row; time = t; control = w }) longer
        ended row t w ends =
            record {
              newest = newest-before;
              short = omega (arith, whole_long);
              inside = omega (arith, frame-long, one_more, tr.inside);
              part = joined;
              begins = λ h. still-begins;
              only = only-on;
              idle = λ h. let z : ⊥ = omega (arith, frame-long) in absurd z;
              row_is = λ m b. rw (eq-eqb (length frame') (size f) whole_long) (ends m b);
            }

        refused : (x : Refusal) → read_of f frame' ≡ Err x → (m : ℕ) → m < 5 → row_to f longer m (length longer) ≡ cond (ltb m 0) (Report r.time r.control) Quiet
        unfolding next_in_row
        refused x e zero b = row_zero (Err x) e
        refused x e (suc m) b = row-suc (Err x) e m (omega arith) ∙ by-test (ltb m r.row) (λ y. rw (y, le-ltb (suc m) 0 (omega arith))) (λ z. rw (z, le-ltb (suc m) 0 (omega arith)))

        read_in : (t : Time) (w : ℕ) → read_of f frame' ≡ accepted t w → (m : ℕ) → m < 5 → row_to f longer m (length longer) ≡ cond (ltb m (row_after f r.row r.time t)) (Report t w) Quiet
        unfolding next_in_row
        read_in t w e zero b = row_zero (accepted t w) e ∙ rw (row-some f r.row r.time t)
        read_in t w e (suc m) b =
            row-suc (accepted t w) e m (omega arith)
            ∙ by-test (ltb m r.row)
            (λ y. by-test (next_after f r.time t) (λ z. rw (y, z, row-longer f r.row r.time t m b y z)) (λ z. rw (y, z, row-broken f r.row r.time t m z)))
            (λ y. rw (y, row-too-short f r.row r.time t m b y))

-- ---- one symbol more

pub step : (f : Format) (r : Following) (received : List ℕ) (s : ℕ) → Describes f r received → Describes f (following_next f r s) (received ++ (s ∷ []))
unfolding following_next with_reading
step f r received s tr =
    by-test (opens_frame f r.last s)
    (λ y. rw y (started f r received s tr y))
    (λ n.
    by-test (eqb (length r.frame) 0)
    (λ y. rw (n, y) (idled f r received s tr n (eqb-true (length r.frame) 0 y)))
    (λ some.
    by-test (leb (size f) (length r.frame))
    (λ y. rw (n, some, y) (lost f r received s tr n (leb-true (size f) (length r.frame) y)))
    (λ room.
    let some' = eqb-false (length r.frame) 0 some in
    let room' = leb-false (size f) (length r.frame) room in
    by-test (eqb (length r.frame + 1) (size f))
    (λ y.
    let last = eqb-true (length r.frame + 1) (size f) y in
    by-reading (read_of f (r.frame ++ (s ∷ [])))
    (λ x e. rw (n, some, room, y, e) (ended f r received s tr n some' room' last 0 r.time r.control (refused f r received s tr n some' room' last x e)))
    (λ t w e. rw (n, some, room, y, e) (ended f r received s tr n some' room' last (row_after f r.row r.time t) t w (read_in f r received s tr n some' room' last t w e))))
    (λ z. rw (n, some, room, z) (gone-on f r received s tr n some' room' (eqb-false (length r.frame + 1) (size f) z))))))

pub fresh-describes : (f : Format) → Describes f nothing_received []
fresh-describes f =
    let k = size-range f in
    let none : (c : ℕ) → 1 ≤ c → c ≤ size f → c ≤ 0 → BeginsFrame f [] c → 0 ≡ c = λ c a b l o. omega arith in
    record {
      newest = refl;
      short = omega arith;
      inside = omega arith;
      part = refl;
      begins = λ h. absurd (not-suc-le-zero h);
      only = none;
      idle = λ h. refl;
      row_is = λ m b. rw (ne_eqb 0 (size f) (λ e. omega arith), le-ltb m 0 (omega arith)) (no_row f [] 0 none (λ e. omega arith) m);
    }

-- ---- the answers

-- its answer is the plain machine's
pub following-plain : (f : Format) (k : ℕ) (r : Following) (received : List ℕ) → 1 ≤ k → k ≤ 5 → Describes f r received → following_answer f k r ≡ plain_answer f k received
unfolding following_answer
following-plain f zero r received a b tr = absurd (not-suc-le-zero a)
following-plain f (suc m) r received a b tr =
    by-test (eqb (length r.frame) (size f))
    (λ y. rw y (level f m r ∙ sym (rw y at (tr.row_is m b)) ∙ sym (plain-is-row f received m)))
    (λ n. rw n (sym (no_row f received (length r.frame) tr.only (eqb-false (length r.frame) (size f) n) m) ∙ sym (plain-is-row f received m)))

pub setting-range : (k : ℕ) → is_setting k ≡ true → (1 ≤ k) × (k ≤ 5)
unfolding is_setting
setting-range k h =
    let least = leb-true 2 k (and_left (leb 2 k) (leb k 5) h) in
    (omega arith, leb-true k 5 (and_right (leb 2 k) (leb k 5) h))

answers-alike : (f : Format) (k : ℕ) → 1 ≤ k → k ≤ 5 → (ss : List ℕ) (r : Following) (received : List ℕ) → Describes f r received → following_answers f k r ss ≡ plain_answers f k received ss
unfolding following_answers plain_answers plain_feed
answers-alike f k a b [] r received tr = refl
answers-alike f k a b (s ∷ ss) r received tr =
    by-test (is_symbol s)
    (λ y.
    let on = step f r received s tr in
    rw y (ap₂ (λ (x : Answer) (xs : List Answer). x ∷ xs) (following-plain f k (following_next f r s) (received ++ (s ∷ [])) a b on) (answers-alike f k a b ss (following_next f r s) (received ++ (s ∷ [])) on)))
    (λ n. rw n (ap (λ (xs : List Answer). Answer.Refused UnknownSymbol ∷ xs) (answers-alike f k a b ss r received tr)))

-- For every format, every setting k and every list of symbols, refused ones among them, the answers are the plain machine's.
pub following-answers-are-plain : (f : Format) (k : ℕ) → is_setting k ≡ true → (ss : List ℕ) → following_answers f k nothing_received ss ≡ plain_answers f k [] ss
following-answers-are-plain f k h ss = let in-range = setting-range k h in answers-alike f k in-range.0 in-range.1 ss nothing_received [] (fresh-describes f)
