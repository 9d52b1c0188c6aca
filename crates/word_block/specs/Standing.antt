-- A block that is being fed: how many answers are taken, what they report, the lent lists with these reports, and the reader so far.
use Rattle.std.specs.Prelude.{◌≡◌, get_or, set}
use Rattle.std.proofs.Math.Path.{refl, ap}
use Rattle.std.proofs.Common.{sym, ap₂, ◌∙◌, add-zero, zero-add, add-one, length-drop, length-append, take-append-drop, take-suc, drop-cons, length-take-le, take-add, take-take, get_or-take, get_or-drop}
use mathlib.Core.List.{List, [], ◌∷◌, ◌++◌, append_assoc, append-nil, map}
use Prim.Native.Nat.{ℕ, zero, suc, ◌+◌, ◌-◌, ◌<◌, ◌≤◌}
use native.Mathlib.Omega.{arith}
use Rattle.std.proofs.Math.ListN.{length, take, drop, length-set}
use Rattle.std.proofs.Math.Seq.{take-suc-set, drop-set-lt, take-length}
use Rattle.timecode.specs.declared.Answer.{Answer}
use Rattle.timecode.specs.declared.Answer.TheVariants.{Quiet, Report}
use Rattle.timecode.specs.declared.Refusal.{Refusal}
use Rattle.timecode.specs.declared.Time.{Time}
use Rattle.stream.specs.Feeding.{answer_of}
use Rattle.stream.specs.Refinement.{answers, reader_after}
use Rattle.stream.specs.declared.Reader.{Reader}
use Rattle.stream.proofs.FeedLists.{answers_at, length-feed-answers, reader-append}
use Rattle.stride.specs.ReadyReaders.{reader-start}
use Rattle.receive_many.specs.ManySymbols.{slice}
use Rattle.block.specs.Blocks.{Reported, report_at, Block, stopped, with_first, block_in, Lists, lists, room_in, field_left, index_of, year_of, day_of, hundredths_of, control_of, lists_left}
use Rattle.block.specs.Folds.{followed}
use Rattle.block.proofs.Folds.{block-append, block-takes, all-taken}
use Rattle.block.specs.declared.Stop.{Stop}
use Rattle.block.specs.declared.Stop.TheVariants.{AllTaken, UnknownSymbol, NoRoom}

-- ---- the lent lists

-- a record at the entry p
abbrev pub set_record : Lists → ℕ → Reported → Lists
set_record l p r = lists (set l.indexes p r.index) (set l.years p r.time.year) (set l.days p r.time.day) (set l.hundredths p r.time.hundredths) (set l.controls p r.control)

-- the records from the entry p on
unfoldable pub put_from : ℕ → List Reported → Lists → Lists
put_from p [] l = l
put_from p (r ∷ rs) l = put_from (suc p) rs (set_record l p r)

pub put-none : (p : ℕ) (l : Lists) → put_from p [] l ≡ l
unfolding put_from
put-none p l = refl

pub put-append : (p : ℕ) (rs qs : List Reported) (l : Lists) → put_from p (rs ++ qs) l ≡ put_from (p + length rs) qs (put_from p rs l)
unfolding put_from
put-append p [] qs l = ap (λ (k : ℕ). put_from k qs l) (sym (add-zero p))
put-append p (r ∷ rs) qs l =
    let on : suc p + length rs ≡ p + suc (length rs) = omega arith in
    put-append (suc p) rs qs (set_record l p r) ∙ ap (λ (k : ℕ). put_from k qs (put_from (suc p) rs (set_record l p r))) on

-- one record more
pub put-more : (p : ℕ) (rs : List Reported) (r : Reported) (l : Lists) → put_from p (rs ++ (r ∷ [])) l ≡ set_record (put_from p rs l) (p + length rs) r
unfolding put_from
put-more p rs r l = put-append p rs (r ∷ []) l

-- the list of a field
module _ (list : Lists → List ℕ) (field : Reported → ℕ) (stores : (l : Lists) (p : ℕ) (r : Reported) → list (set_record l p r) ≡ set (list l) p (field r)) where
  length-put : (p : ℕ) (rs : List Reported) (l : Lists) → length (list (put_from p rs l)) ≡ length (list l)
  unfolding put_from
  length-put p [] l = refl
  length-put p (r ∷ rs) l = length-put (suc p) rs (set_record l p r) ∙ ap length (stores l p r) ∙ length-set (list l) p (field r)

  put-between : (p : ℕ) (rs : List Reported) (l : Lists) → p + length rs ≤ length (list l) → list (put_from p rs l) ≡ take p (list l) ++ (map field rs ++ drop (p + length rs) (list l))
  unfolding put_from
  put-between p [] l h = rw (add-zero p) (sym (take-append-drop p (list l)))
  put-between p (r ∷ rs) l h =
      let on : suc p + length rs ≡ p + suc (length rs) = omega arith in
      let x = field r in
      put-between (suc p) rs (set_record l p r) (rw (stores l p r, length-set (list l) p x) (omega arith))
      ∙ rw (stores l p r, take-suc-set (list l) p x (omega arith), drop-set-lt (suc p + length rs) (list l) p x (omega arith), on) (append_assoc (take p (list l)) (x ∷ []) (map field rs ++ drop (p + suc (length rs)) (list l)))

  -- from the start: the reports, and the entries past them as they were
  put-start : (b : Block) (l : Lists) → length b.reports ≤ length (list l) → list (put_from 0 b.reports l) ≡ field_left field b (list l)
  unfolding field_left
  put-start b l h =
      let all : 0 + length b.reports ≡ length b.reports = omega arith in
      put-between 0 b.reports l (omega arith) ∙ ap (λ (k : ℕ). map field b.reports ++ drop k (list l)) all

-- all five are of one length
abbrev pub Even : Lists → Type 0
Even l = (length l.years ≡ room_in l) × (length l.days ≡ room_in l) × (length l.hundredths ≡ room_in l) × (length l.controls ≡ room_in l)

-- each is as long as it was
abbrev pub AsLong : Lists → Lists → Type 0
AsLong l m = (room_in l ≡ room_in m) × (length l.years ≡ length m.years) × (length l.days ≡ length m.days) × (length l.hundredths ≡ length m.hundredths) × (length l.controls ≡ length m.controls)

put-long : (p : ℕ) (rs : List Reported) (l : Lists) → AsLong (put_from p rs l) l
put-long p rs l = (
  length-put (λ m. m.indexes) index_of (λ m q r. refl) p rs l,
  length-put (λ m. m.years) year_of (λ m q r. refl) p rs l,
  length-put (λ m. m.days) day_of (λ m q r. refl) p rs l,
  length-put (λ m. m.hundredths) hundredths_of (λ m q r. refl) p rs l,
  length-put (λ m. m.controls) control_of (λ m q r. refl) p rs l,
)

-- what the reports of a block leave
pub put-left : (b : Block) (l : Lists) → length b.reports ≤ room_in l → Even l → put_from 0 b.reports l ≡ lists_left b l
put-left b l fits even =
    let m = put_from 0 b.reports l in
    let same : lists m.indexes m.years m.days m.hundredths m.controls ≡ lists_left b l =
    rw (
      put-start (λ k. k.indexes) index_of (λ k q r. refl) b l fits,
      put-start (λ k. k.years) year_of (λ k q r. refl) b l (omega (arith, even.0)),
      put-start (λ k. k.days) day_of (λ k q r. refl) b l (omega (arith, even.1)),
      put-start (λ k. k.hundredths) hundredths_of (λ k q r. refl) b l (omega (arith, even.2)),
      put-start (λ k. k.controls) control_of (λ k q r. refl) b l (omega (arith, even.3)),
    ) in
    same

-- ---- how far a block has come, its first symbol at the index `from`

module _ (from room : ℕ) (as' : List Answer) where
  -- the first i answers are taken
  abbrev pub Reached : ℕ → Type 0
  Reached i = (i ≤ length as') × ((block_in from room (take i as')).stop ≡ AllTaken)

  abbrev pub so_far : ℕ → List Reported
  so_far i = (block_in from room (take i as')).reports

  -- what a block is that has come so far and stops
  abbrev pub stops_at : ℕ → Stop → Block
  stops_at i why = record { taken = i; reports = so_far i; stop = why }

  pub reached-start : Reached 0
  unfolding block_in
  reached-start = (omega arith, refl)

  pub start_none : so_far 0 ≡ []
  unfolding block_in
  start_none = refl

  pub reached-fits : (i : ℕ) → length (so_far i) ≤ room
  reached-fits i = (block-takes from room (take i as')).fits

  module _ (i : ℕ) (reached : Reached i) where
    abbrev first : Block
    first = block_in from room (take i as')

    -- the room that is left
    abbrev left : ℕ
    left = room - length (so_far i)

    -- the block is the one so far, followed by the one of the answers left
    going_on : (bs : List Answer) → block_in from room (take i as' ++ bs) ≡ followed AllTaken first (block_in (from + i) left bs)
    going_on bs =
        block-append from room (take i as') bs
        ∙ ap₂ (λ (why : Stop) (k : ℕ). followed why first (block_in (from + k) left bs)) reached.1 (length-take-le i as' reached.0)

    taken_is : first.taken ≡ i
    taken_is = all-taken from room (take i as') reached.1 ∙ length-take-le i as' reached.0

    -- with these answers left it stops at once
    stops-here : (bs : List Answer) (why : Stop) → as' ≡ take i as' ++ bs → block_in (from + i) left bs ≡ stopped why → block_in from room as' ≡ stops_at i why
    stops-here bs why is e =
        ap (block_in from room) is
        ∙ going_on bs
        ∙ ap (followed AllTaken first) e
        ∙ ap₂ (λ (k : ℕ) (rs : List Reported). record { taken = k; reports = rs; stop = why }) (add-zero first.taken ∙ taken_is) (append-nil (so_far i))

    -- where the answers end, all are taken
    pub reached-end : i ≡ length as' → block_in from room as' ≡ stops_at i AllTaken
    unfolding block_in
    reached-end e = stops-here [] AllTaken (sym (append-nil (take i as') ∙ ap (λ (k : ℕ). take k as') e ∙ take-length as')) refl

    module _ (h : i < length as') (none : Answer) where
      next_is : (a : Answer) → get_or as' i none ≡ a → take (suc i) as' ≡ take i as' ++ (a ∷ [])
      next_is a is = take-suc as' i none h ∙ ap (λ (x : Answer). take i as' ++ (x ∷ [])) is

      left_is : (a : Answer) → get_or as' i none ≡ a → as' ≡ take i as' ++ (a ∷ drop (suc i) as')
      left_is a is = sym (take-append-drop i as') ∙ ap (λ (xs : List Answer). take i as' ++ xs) (drop-cons as' i none h ∙ ap (λ (x : Answer). x ∷ drop (suc i) as') is)

      -- the next answer is taken, with what it reports
      goes_on : (a : Answer) (more : List Reported) → get_or as' i none ≡ a → block_in (from + i) left (a ∷ []) ≡ with_first more (stopped AllTaken)
          → Reached (suc i) × (so_far (suc i) ≡ so_far i ++ (more ++ []))
      goes_on a more is e =
          let whole : block_in from room (take (suc i) as') ≡ followed AllTaken first (with_first more (stopped AllTaken)) =
          ap (block_in from room) (next_is a is) ∙ going_on (a ∷ []) ∙ ap (followed AllTaken first) e in
          ((omega arith, ap (λ (b : Block). b.stop) whole), ap (λ (b : Block). b.reports) whole)

      pub reached-quiet : get_or as' i none ≡ Quiet → Reached (suc i) × (so_far (suc i) ≡ so_far i)
      unfolding block_in
      reached-quiet is = let next = goes_on Quiet [] is refl in (next.0, next.1 ∙ append-nil (so_far i))

      pub reached-report : (t : Time) (w : ℕ) → get_or as' i none ≡ Report t w → length (so_far i) < room → Reached (suc i) × (so_far (suc i) ≡ so_far i ++ (report_at (from + i) t w ∷ []))
      unfolding block_in
      reached-report t w is fits =
          let one : left ≡ suc (left - 1) = omega arith in
          goes_on (Report t w) (report_at (from + i) t w ∷ []) is (rw one)

      pub reached-refused : (x : Refusal) → get_or as' i none ≡ Answer.Refused x → block_in from room as' ≡ stops_at i UnknownSymbol
      unfolding block_in
      reached-refused x is = stops-here (Answer.Refused x ∷ drop (suc i) as') UnknownSymbol (left_is (Answer.Refused x) is) refl

      pub reached-full : (t : Time) (w : ℕ) → get_or as' i none ≡ Report t w → room ≤ length (so_far i) → block_in from room as' ≡ stops_at i NoRoom
      unfolding block_in
      reached-full t w is full =
          let none_left : left ≡ 0 = omega arith in
          stops-here (Report t w ∷ drop (suc i) as') NoRoom (left_is (Report t w) is) (rw none_left)

abbrev pub put_so_far : List Answer → Lists → ℕ → List Reported
put_so_far as' l i = so_far 0 (room_in l) as' i

-- ---- i answers are taken, so many reports are put in, and the lists have them

pub record Standing (as' : List Answer) (l₀ : Lists) (i reports : ℕ) (l : Lists) : Type 0 where
  pub reached : Reached 0 (room_in l₀) as' i
  pub counted : reports ≡ length (so_far 0 (room_in l₀) as' i)
  pub filled : l ≡ put_from 0 (so_far 0 (room_in l₀) as' i) l₀

module _ {as' : List Answer} {l₀ : Lists} where
  pub standing-start : Standing as' l₀ 0 0 l₀
  standing-start =
      record {
        reached = reached-start 0 (room_in l₀) as';
        counted = rw (start_none 0 (room_in l₀) as') refl;
        filled = rw (start_none 0 (room_in l₀) as') (sym (put-none 0 l₀));
      }

  module _ {i reports : ℕ} {l : Lists} (s : Standing as' l₀ i reports l) where
    -- the lists are as long as they were, and the reports fit
    pub standing-long : AsLong l l₀
    standing-long = rw s.filled (put-long 0 (put_so_far as' l₀ i) l₀)

    pub standing-room : Even l₀ → (reports ≤ room_in l) × Even l
    standing-room even =
        let long = standing-long in
        (omega (arith, long.0, s.counted, reached-fits 0 (room_in l₀) as' i), (omega (arith, even, long), omega (arith, even, long), omega (arith, even, long), omega (arith, even, long)))

    -- a record is left
    pub standing-fits : Even l₀ → reports < room_in l → (reports < room_in l) × (reports < length l.years) × (reports < length l.days) × (reports < length l.hundredths) × (reports < length l.controls)
    standing-fits same fits = let even = (standing-room same).1 in (fits, omega (arith, even.0), omega (arith, even.1), omega (arith, even.2), omega (arith, even.3))

    pub standing-quiet : i < length as' → (none : Answer) → get_or as' i none ≡ Quiet → Standing as' l₀ (i + 1) reports l
    standing-quiet h none is =
        let next = reached-quiet 0 (room_in l₀) as' i s.reached h none is in
        rw (add-one i)
        (record {
          reached = next.0;
          counted = rw next.1 s.counted;
          filled = rw next.1 s.filled;
        })

    pub standing-report : i < length as' → (none : Answer) (t : Time) (w : ℕ) → get_or as' i none ≡ Report t w → reports < room_in l → Standing as' l₀ (i + 1) (reports + 1) (set_record l reports (report_at (0 + i) t w))
    standing-report h none t w is fits =
        let next = reached-report 0 (room_in l₀) as' i s.reached h none t w is (omega (arith, s.counted, standing-long.0)) in
        rw (add-one i)
        (record {
          reached = next.0;
          counted = rw (next.1, length-append (put_so_far as' l₀ i) (report_at (0 + i) t w ∷ [])) (omega (arith, s.counted));
          filled = rw next.1 (ap₂ (λ (m : Lists) (k : ℕ). set_record m k (report_at (0 + i) t w)) s.filled (s.counted ∙ sym (zero-add (length (put_so_far as' l₀ i)))) ∙ sym (put-more 0 (put_so_far as' l₀ i) (report_at (0 + i) t w) l₀));
        })

    pub standing-full : i < length as' → (none : Answer) (t : Time) (w : ℕ) → get_or as' i none ≡ Report t w → reports ≡ room_in l → block_in 0 (room_in l₀) as' ≡ stops_at 0 (room_in l₀) as' i NoRoom
    standing-full h none t w is full = reached-full 0 (room_in l₀) as' i s.reached h none t w is (omega (arith, s.counted, standing-long.0))

    pub standing-refused : i < length as' → (none : Answer) (x : Refusal) → get_or as' i none ≡ Answer.Refused x → block_in 0 (room_in l₀) as' ≡ stops_at 0 (room_in l₀) as' i UnknownSymbol
    standing-refused h none x is = reached-refused 0 (room_in l₀) as' i s.reached h none x is

    pub standing-end : i ≡ length as' → block_in 0 (room_in l₀) as' ≡ stops_at 0 (room_in l₀) as' i AllTaken
    standing-end e = reached-end 0 (room_in l₀) as' i s.reached e

-- ---- i symbols are fed to a reader

pub record FedTo (r : Reader) (ss : List ℕ) (l₀ : Lists) (i reports : ℕ) (l : Lists) (current : Reader) : Type 0 where
  pub standing : Standing (answers r ss) l₀ i reports l
  pub reader : current ≡ reader_after r (take i ss)

pub fed-start : (r : Reader) (ss : List ℕ) {l₀ : Lists} → FedTo r ss l₀ 0 0 l₀ r
fed-start r ss = record { standing = standing-start; reader = reader-start r ss }

module _ {r : Reader} {ss : List ℕ} {l₀ : Lists} {i reports : ℕ} {l : Lists} {current : Reader} (g : FedTo r ss l₀ i reports l current) where
  pub fed-within : i ≤ length ss
  fed-within = omega (arith, g.standing.reached.0, length-feed-answers r ss)

  -- m symbols more
  module _ (m : ℕ) (within : i + m ≤ length ss) where
    mid : i + m - i ≡ m
    mid = omega arith

    -- their answers, of the reader so far
    pub answers-slice : (none : Answer) (k : ℕ) → k < m → get_or (answers r ss) (i + k) none ≡ get_or (answers current (slice ss i (i + m))) k none
    answers-slice none k b =
        let long : length (slice ss i (i + m)) ≡ m = rw mid (length-take-le m (drop i ss) (omega (arith, length-drop i ss))) in
        let at : get_or (slice ss i (i + m)) k 0 ≡ get_or ss (i + k) 0 = rw mid (get_or-take m (drop i ss) k 0 b ∙ get_or-drop i ss k 0) in
        let front : take k (slice ss i (i + m)) ≡ take k (drop i ss) = rw mid (take-take k m (drop i ss) (omega arith)) in
        let reader : reader_after r (take (i + k) ss) ≡ reader_after current (take k (slice ss i (i + m))) =
        ap (reader_after r) (take-add i k ss) ∙ reader-append r (take i ss) (take k (drop i ss)) ∙ rw (front, g.reader) in
        answers_at r ss none (i + k) (omega arith)
        ∙ ap₂ (λ (q : Reader) (x : ℕ). answer_of q x) reader (sym at)
        ∙ sym (answers_at current (slice ss i (i + m)) none k (omega (arith, long)))

    pub reader-slice : (next : Reader) → next ≡ reader_after current (slice ss i (i + m)) → next ≡ reader_after r (take (i + m) ss)
    reader-slice next e = e ∙ sym (ap (reader_after r) (take-add i m ss) ∙ reader-append r (take i ss) (take m (drop i ss)) ∙ rw (mid, g.reader))

  -- none of which brings anything
  pub quiets : (m : ℕ) → i + m ≤ length ss → ((k : ℕ) → k < m → get_or (answers r ss) (i + k) Quiet ≡ Quiet) → Standing (answers r ss) l₀ (i + m) reports l
  quiets zero b q = rw (add-zero i) g.standing
  quiets (suc m) b q =
      let before = quiets m (omega arith) (λ k h. q k (omega arith)) in
      let on : i + m + 1 ≡ i + suc m = omega arith in
      rw on at (standing-quiet before (rw (length-feed-answers r ss) (omega arith)) Quiet (q m (omega arith)))
