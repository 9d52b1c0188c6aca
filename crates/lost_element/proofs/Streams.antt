-- Lists with one element left out or one symbol put in, by their index; then the sentences of LostElement, of the plain machine and of any answers that are its.
use Rattle.std.specs.Prelude.{◌≡◌, refl, true, List, [], ◌∷◌, ◌++◌, ◌⊎◌, ℕ, zero, suc, ◌+◌, ◌*◌, ◌-◌, ◌<◌, ◌≤◌, take, drop}
use Rattle.std.proofs.Common.{sym, subst, ◌∙◌, inl, inr, arith, length-append, length-drop, get_or-take, length-take-le, drop-drop, take_all}
use Rattle.std.proofs.Math.Path.{ap}
use Rattle.std.proofs.Math.ListN.{length, get_or, get_or-append}
use Rattle.std.proofs.Math.Seq.{get_or-drop, get_or-append-add}
use Rattle.timecode.specs.Demand3.{Demand3}
use Rattle.timecode.proofs.Demand3.{demand-3}
use Rattle.timecode.specs.Formats.{size}
use Rattle.timecode.specs.Frames.{Sent, Generator, elements}
use Rattle.timecode.proofs.Laws.Machine.{answer-long, report-long, length_last, first-elements}
use Rattle.timecode.proofs.Laws.Marks.{size-large}
use Rattle.timecode.proofs.Laws.Table.{size-range}
use Rattle.timecode.proofs.Laws.Tests.{clash}
use Rattle.timecode.specs.Laws.Windows.{long, Confirmed}
use Rattle.timecode.proofs.Laws.Windows.{window-long, window-confirmed}
use Rattle.timecode.specs.Stream.{is_setting, lead, window_length, frame_in, window_answer, last_of, plain_answer, plain_answers, elements_of, elements_up_to}
use Rattle.timecode.specs.declared.Answer.{Answer}
use Rattle.timecode.specs.declared.Answer.TheVariants.{Report}
use Rattle.timecode.specs.declared.Format.{Format}
use Rattle.timecode.specs.declared.Time.{Time}
use Rattle.lost_element.proofs.FrameEnds.{alike-range}
use Rattle.lost_element.specs.LostElement.{left_out, put_in, alike_at_end, FillsLast, PlaceOfLoss, AfterLoss, PlaceOfSymbol, AfterPutIn, OneLostOrPutIn}
use Rattle.lost_element.specs.Windows.{LostFrom, PutInFrom, LastIs, LostAt, PutInAt}
use Rattle.lost_element.proofs.Windows.{lost-at, put-in-at}

-- ---- lists with one left out or put in

module _ (d : ℕ) (xs : List ℕ) (h : d ≤ length xs) where
  first_long : length (take d xs) ≡ d
  first_long = length-take-le d xs h

  length-left-out : d < length xs → length (left_out d xs) + 1 ≡ length xs
  length-left-out b = omega (arith, length-append (take d xs) (drop (d + 1) xs), first_long, length-drop (d + 1) xs)

  left-before : (j : ℕ) → j < d → get_or (left_out d xs) j 0 ≡ get_or xs j 0
  left-before j b = get_or-append (take d xs) (drop (d + 1) xs) 0 j (omega (arith, first_long)) ∙ get_or-take d xs j 0 b

  left_after : (j : ℕ) → d ≤ j → get_or (left_out d xs) j 0 ≡ get_or xs (j + 1) 0
  left_after j b =
      let u : j ≡ length (take d xs) + (j - d) = omega (arith, first_long) in
      let v : d + 1 + (j - d) ≡ j + 1 = omega arith in
      ap (λ (i : ℕ). get_or (left_out d xs) i 0) u ∙ get_or-append-add (take d xs) (drop (d + 1) xs) (j - d) 0 ∙ get_or-drop (d + 1) xs (j - d) 0 ∙ ap (λ (i : ℕ). get_or xs i 0) v

  module _ (s : ℕ) where
    length-put-in : length (put_in d s xs) ≡ length xs + 1
    length-put-in = length-append (take d xs) (s ∷ drop d xs) ∙ omega (arith, first_long, length-drop d xs)

    put-before : (j : ℕ) → j < d → get_or (put_in d s xs) j 0 ≡ get_or xs j 0
    put-before j b = get_or-append (take d xs) (s ∷ drop d xs) 0 j (omega (arith, first_long)) ∙ get_or-take d xs j 0 b

    put-after : (j : ℕ) → d ≤ j → get_or (put_in d s xs) (j + 1) 0 ≡ get_or xs j 0
    put-after j b =
        let u : j + 1 ≡ length (take d xs) + suc (j - d) = omega (arith, first_long) in
        let v : d + (j - d) ≡ j = omega arith in
        ap (λ (i : ℕ). get_or (put_in d s xs) i 0) u ∙ get_or-append-add (take d xs) (s ∷ drop d xs) (suc (j - d)) 0 ∙ get_or-drop d xs (j - d) 0 ∙ ap (λ (i : ℕ). get_or xs i 0) v

-- ---- consecutive elements of a generator, the first e of such a list

module _ (f : Format) (sent : List Sent) (start n d e : ℕ) (h : start + n ≤ length (elements f sent)) where
  abbrev consecutive : List ℕ
  consecutive = take n (drop start (elements f sent))

  consecutive-long : length (take n (drop start (elements f sent))) ≡ n
  consecutive-long = length-take-le n (drop start (elements f sent)) (omega (arith, length-drop start (elements f sent)))

  element-of : (j : ℕ) → j < n → get_or consecutive j 0 ≡ get_or (elements f sent) (start + j) 0
  element-of j b = get_or-take n (drop start (elements f sent)) j 0 b ∙ get_or-drop start (elements f sent) j 0

  lost-from : d < n → e + 1 ≤ n → LostFrom f sent start d (take e (left_out d consecutive))
  lost-from b c =
      let l = consecutive-long in
      let g : length (left_out d (take n (drop start (elements f sent)))) + 1 ≡ length (take n (drop start (elements f sent))) = length-left-out d consecutive (omega arith) (omega arith) in
      let x : length (take e (left_out d (take n (drop start (elements f sent))))) ≡ e = length-take-le e (left_out d consecutive) (omega arith) in
      record {
        inside = omega arith;
        before = λ j a y. get_or-take e (left_out d consecutive) j 0 (omega arith) ∙ left-before d consecutive (omega arith) j a ∙ element-of j (omega arith);
        after = λ j a y.
            let u : start + (j + 1) ≡ start + j + 1 = omega arith in
            get_or-take e (left_out d consecutive) j 0 (omega arith) ∙ left_after d consecutive (omega arith) j a ∙ element-of (j + 1) (omega arith) ∙ ap (λ (i : ℕ). get_or (elements f sent) i 0) u;
      }

  put-in-from : (s : ℕ) → d ≤ n → e ≤ n + 1 → PutInFrom f sent start d (take e (put_in d s consecutive))
  put-in-from s b c =
      let l = consecutive-long in
      let g : length (put_in d s (take n (drop start (elements f sent)))) ≡ length (take n (drop start (elements f sent))) + 1 = length-put-in d consecutive (omega arith) s in
      let x : length (take e (put_in d s (take n (drop start (elements f sent))))) ≡ e = length-take-le e (put_in d s consecutive) (omega arith) in
      record {
        inside = omega arith;
        before = λ j a y. get_or-take e (put_in d s consecutive) j 0 (omega arith) ∙ put-before d consecutive (omega arith) s j a ∙ element-of j (omega arith);
        after = λ j a y. get_or-take e (put_in d s consecutive) (j + 1) 0 (omega arith) ∙ put-after d consecutive (omega arith) s j a ∙ element-of j (omega arith);
      }

-- ---- symbols of any number, whatever was received before: the report with the last of them

-- the window's last frame is the last n received
last_frame : (f : Format) (m : ℕ) (received : List ℕ) → long f m ≤ length received → frame_in f (last_of (long f m) received) m ≡ last_of (size f) received
unfolding frame_in last_of
last_frame f m received b =
    let u : length received - long f m + (lead f + size f * m) ≡ length received - size f = omega arith in
    ap (take (size f)) (drop-drop (lead f + size f * m) (length received - long f m) received ∙ ap (λ (i : ℕ). drop i received) u)
    ∙ take_all (size f) (drop (length received - size f) received) (omega (arith, length-drop (length received - size f) received))

module _ (f : Format) (m : ℕ) (sent : List Sent) (gen : Generator f sent) (start d : ℕ) (before symbols : List ℕ) (enough : window_length f (suc (suc m)) ≤ length symbols) (t : Time) (w : ℕ) (r : plain_answer f (suc (suc m)) (before ++ symbols) ≡ Report t w) where
  abbrev received : List ℕ
  received = before ++ symbols

  abbrev offset : ℕ
  offset = length symbols - long f (suc m)

  abbrev window : List ℕ
  window = last_of (long f (suc m)) received

  received-long : length received ≡ length before + length symbols
  received-long = length-append before symbols

  window-is : length window ≡ long f (suc m)
  window-is = length_last (long f (suc m)) received (omega (arith, received-long, window-long f (suc m)))

  in_window : (j : ℕ) → get_or window j 0 ≡ get_or symbols (offset + j) 0
  unfolding last_of
  in_window j =
      let i : length (before ++ symbols) - long f (suc m) + j ≡ length before + (offset + j) = omega (arith, received-long, window-long f (suc m)) in
      get_or-drop (length (before ++ symbols) - long f (suc m)) (before ++ symbols) j 0 ∙ ap (λ (x : ℕ). get_or (before ++ symbols) x 0) i ∙ get_or-append-add before symbols (offset + j) 0

  fills : (frame : ℕ) → LastIs f (suc m) sent window t w frame → FillsLast f sent received frame t w
  fills frame is =
      record {
        inside = is.inside;
        whole = sym (last_frame f (suc m) received (omega (arith, received-long, window-long f (suc m)))) ∙ is.whole;
        time = is.time;
        control = is.control;
      }

  abbrev confirmed : Confirmed f (suc m) window t w
  confirmed = window-confirmed f (suc m) window t w (ap (λ (n : ℕ). window_answer f (suc (suc m)) (last_of n received)) (sym (window-long f (suc m))) ∙ sym (answer-long f (suc (suc m)) received (omega (arith, received-long))) ∙ r)

  after-loss : LostFrom f sent start d symbols → AfterLoss f (suc (suc m)) sent start d (length symbols) received t w
  after-loss from = record { frame = at.frame; fills = fills at.frame at.is; place = place at.place }
    where
      lost : LostFrom f sent (start + offset) (d - offset) window
      lost =
          let n = window-is in
          let l = window-long f (suc m) in
          record {
            inside = omega (arith, from.inside);
            before = λ j a c.
                let u : start + (offset + j) ≡ start + offset + j = omega arith in
                in_window j ∙ from.before (offset + j) (omega arith) (omega arith) ∙ ap (λ (x : ℕ). get_or (elements f sent) x 0) u;
            after = λ j a c.
                let u : start + (offset + j) + 1 ≡ start + offset + j + 1 = omega arith in
                in_window j ∙ from.after (offset + j) (omega arith) (omega arith) ∙ ap (λ (x : ℕ). get_or (elements f sent) x 0) u;
          }

      at : LostAt f (suc m) sent (start + offset) (d - offset) window t w
      at = lost-at f m sent gen (start + offset) (d - offset) window window-is lost t w confirmed

      place : ((long f (suc m) ≤ d - offset + lead f) × (start + offset + long f (suc m) ≡ size f * suc at.frame)) ⊎ ((d - offset ≡ 0) × (start + offset + long f (suc m) + 1 ≡ size f * suc at.frame))
          → PlaceOfLoss f (suc (suc m)) start d (length symbols) at.frame
      place (inl p) = let l = window-long f (suc m) in let n = size-large f in inl (omega (arith, p.0), omega (arith, p.1))
      place (inr p) = let l = window-long f (suc m) in inr (omega (arith, p.0), omega (arith, p.1))

  after-put-in : PutInFrom f sent start d symbols → AfterPutIn f (suc (suc m)) sent start d (length symbols) received t w
  after-put-in from = record { frame = at.frame; fills = fills at.frame at.is; place = place at.place }
    where
      put : PutInFrom f sent (start + offset) (d - offset) window
      put =
          let n = window-is in
          let l = window-long f (suc m) in
          record {
            inside = omega (arith, from.inside);
            before = λ j a c.
                let u : start + (offset + j) ≡ start + offset + j = omega arith in
                in_window j ∙ from.before (offset + j) (omega arith) (omega arith) ∙ ap (λ (x : ℕ). get_or (elements f sent) x 0) u;
            after = λ j a c.
                let i : offset + (j + 1) ≡ offset + j + 1 = omega arith in
                let u : start + (offset + j) ≡ start + offset + j = omega arith in
                in_window (j + 1) ∙ ap (λ (x : ℕ). get_or symbols x 0) i ∙ from.after (offset + j) (omega arith) (omega arith) ∙ ap (λ (x : ℕ). get_or (elements f sent) x 0) u;
          }

      at : PutInAt f (suc m) sent (start + offset) (d - offset) window t w
      at = put-in-at f m sent gen (start + offset) (d - offset) window window-is put t w confirmed

      place : ((long f (suc m) ≤ d - offset + alike_at_end f) × (start + offset + long f (suc m) ≡ size f * suc at.frame)) ⊎ ((d - offset ≤ lead f) × (start + offset + long f (suc m) ≡ size f * suc at.frame + 1))
          → PlaceOfSymbol f (suc (suc m)) start d (length symbols) at.frame
      place (inl p) = let l = window-long f (suc m) in let n = (size-range f).0 in let a = (alike-range f).1 in inl (omega (arith, p.0), omega (arith, p.1))
      place (inr p) = let l = window-long f (suc m) in inr (omega (arith, p.0), omega (arith, p.1))

-- ---- a window of them, and a whole stream

-- all of a list is its first so many
first-all : (e : ℕ) (xs : List ℕ) → length xs ≡ e → take e xs ≡ xs
first-all e xs h = take_all e xs (omega arith)

module _ (f : Format) (m : ℕ) (sent : List Sent) (gen : Generator f sent) (start d : ℕ) (t : Time) (w : ℕ) where
  abbrev n : ℕ
  n = window_length f (suc (suc m))

  lost-window : (before : List ℕ) → d ≤ n → start + (n + 1) ≤ length (elements f sent)
      → plain_answer f (suc (suc m)) (before ++ left_out d (take (n + 1) (drop start (elements f sent)))) ≡ Report t w
      → AfterLoss f (suc (suc m)) sent start d n (before ++ left_out d (take (n + 1) (drop start (elements f sent)))) t w
  lost-window before b h r =
      let symbols = left_out d (take (n + 1) (drop start (elements f sent))) in
      let l = consecutive-long f sent start (n + 1) d n h in
      let c : length (left_out d (take (n + 1) (drop start (elements f sent)))) ≡ n = omega (arith, length-left-out d (take (n + 1) (drop start (elements f sent))) (omega arith) (omega arith)) in
      let from : LostFrom f sent start d (left_out d (take (n + 1) (drop start (elements f sent)))) = subst (LostFrom f sent start d) (first-all n symbols c) (lost-from f sent start (n + 1) d n h (omega arith) (omega arith)) in
      subst (λ (e : ℕ). AfterLoss f (suc (suc m)) sent start d e (before ++ symbols) t w) c (after-loss f m sent gen start d before symbols (omega arith) t w r from)

  put-in-window : (before : List ℕ) (s : ℕ) → d < n → start + (n - 1) ≤ length (elements f sent)
      → plain_answer f (suc (suc m)) (before ++ put_in d s (take (n - 1) (drop start (elements f sent)))) ≡ Report t w
      → AfterPutIn f (suc (suc m)) sent start d n (before ++ put_in d s (take (n - 1) (drop start (elements f sent)))) t w
  put-in-window before s b h r =
      let symbols = put_in d s (take (n - 1) (drop start (elements f sent))) in
      let l = consecutive-long f sent start (n - 1) d n h in
      let c : length (put_in d s (take (n - 1) (drop start (elements f sent)))) ≡ n = omega (arith, length-put-in d (take (n - 1) (drop start (elements f sent))) (omega arith) s) in
      let from : PutInFrom f sent start d (put_in d s (take (n - 1) (drop start (elements f sent)))) = subst (PutInFrom f sent start d) (first-all n symbols c) (put-in-from f sent start (n - 1) d n h s (omega arith) (omega arith)) in
      subst (λ (e : ℕ). AfterPutIn f (suc (suc m)) sent start d e (before ++ symbols) t w) c (after-put-in f m sent gen start d before symbols (omega arith) t w r from)

  -- the first e of a whole stream
  abbrev rest : List ℕ
  rest = drop start (elements f sent)

  lost-stream : d < length rest → (e : ℕ) → e ≤ length (left_out d rest) → plain_answer f (suc (suc m)) (take e (left_out d rest)) ≡ Report t w
      → AfterLoss f (suc (suc m)) sent start d e (take e (left_out d rest)) t w
  lost-stream b e h r =
      let g = length-drop start (elements f sent) in
      let all = first-all (length rest) rest refl in
      let c = length-left-out d rest (omega arith) b in
      let x : length (take e (left_out d rest)) ≡ e = length-take-le e (left_out d rest) h in
      let from : LostFrom f sent start d (take e (left_out d rest)) = subst (λ (xs : List ℕ). LostFrom f sent start d (take e (left_out d xs))) all (lost-from f sent start (length rest) d e (omega arith) b (omega arith)) in
      subst (λ (i : ℕ). AfterLoss f (suc (suc m)) sent start d i (take e (left_out d rest)) t w) x
      (after-loss f m sent gen start d [] (take e (left_out d rest)) (report-long f (suc (suc m)) (take e (left_out d rest)) t w r) t w r from)

  put-in-stream : (s : ℕ) → d ≤ length rest → (e : ℕ) → e ≤ length (put_in d s rest) → plain_answer f (suc (suc m)) (take e (put_in d s rest)) ≡ Report t w
      → AfterPutIn f (suc (suc m)) sent start d e (take e (put_in d s rest)) t w
  put-in-stream s b e h r =
      let g = length-drop start (elements f sent) in
      let all = first-all (length rest) rest refl in
      let c = length-put-in d rest b s in
      let x : length (take e (put_in d s rest)) ≡ e = length-take-le e (put_in d s rest) h in
      let y = report-long f (suc (suc m)) (take e (put_in d s rest)) t w r in
      let z = size-large f in
      let l = window-long f (suc m) in
      let from : PutInFrom f sent start d (take e (put_in d s rest)) = subst (λ (xs : List ℕ). PutInFrom f sent start d (take e (put_in d s xs))) all (put-in-from f sent start (length rest) d e (omega arith) s b (omega arith)) in
      subst (λ (i : ℕ). AfterPutIn f (suc (suc m)) sent start d i (take e (put_in d s rest)) t w) x (after-put-in f m sent gen start d [] (take e (put_in d s rest)) y t w r from)

-- ---- the sentences

of-demand-3 : (f : Format) (m : ℕ) (ss : List ℕ) (answers : List Answer) (none : Answer) → Demand3 f (suc (suc m)) ss answers none → OneLostOrPutIn f (suc (suc m)) ss answers none
of-demand-3 f m ss answers none holds =
    record {
      one_lost = λ sent gen i e before start d b h is t w r.
          subst (λ (xs : List ℕ). AfterLoss f (suc (suc m)) sent start d (window_length f (suc (suc m))) xs t w) (sym is)
          (lost-window f m sent gen start d t w before b h (sym (ap (plain_answer f (suc (suc m))) is) ∙ sym (holds.elements_decide i e) ∙ r));
      one_put_in = λ sent gen i e before start d s b h is t w r.
          subst (λ (xs : List ℕ). AfterPutIn f (suc (suc m)) sent start d (window_length f (suc (suc m))) xs t w) (sym is)
          (put-in-window f m sent gen start d t w before s b h (sym (ap (plain_answer f (suc (suc m))) is) ∙ sym (holds.elements_decide i e) ∙ r));
      one_lost_in_stream = λ sent gen start d b is i e t w r.
          let first = first-up-to i in
          let all = ap (take (length (elements_up_to ss i))) is in
          subst (λ (xs : List ℕ). AfterLoss f (suc (suc m)) sent start d (length (elements_up_to ss i)) xs t w) (sym (first.1 ∙ all))
          (lost-stream f m sent gen start d t w b (length (elements_up_to ss i)) (omega (arith, first.0, ap length is)) (sym (ap (plain_answer f (suc (suc m))) (first.1 ∙ all)) ∙ sym (holds.elements_decide i e) ∙ r));
      one_put_in_stream = λ sent gen start d s b is i e t w r.
          let first = first-up-to i in
          let all = ap (take (length (elements_up_to ss i))) is in
          subst (λ (xs : List ℕ). AfterPutIn f (suc (suc m)) sent start d (length (elements_up_to ss i)) xs t w) (sym (first.1 ∙ all))
          (put-in-stream f m sent gen start d t w s b (length (elements_up_to ss i)) (omega (arith, first.0, ap length is)) (sym (ap (plain_answer f (suc (suc m))) (first.1 ∙ all)) ∙ sym (holds.elements_decide i e) ∙ r));
    }
  where
    first-up-to : (i : ℕ) → (length (elements_up_to ss i) ≤ length (elements_of ss)) × (elements_up_to ss i ≡ take (length (elements_up_to ss i)) (elements_of ss))
    first-up-to i = first-elements ss i

-- They hold for every k of 2 to 5 of any answers that are the plain machine's.
pub one-lost-or-put-in : (f : Format) (k : ℕ) → is_setting k ≡ true → (ss : List ℕ) (answers : List Answer) → answers ≡ plain_answers f k [] ss → (none : Answer) → OneLostOrPutIn f k ss answers none
unfolding is_setting
one-lost-or-put-in f zero h ss answers plain none = clash h refl
one-lost-or-put-in f (suc zero) h ss answers plain none = clash h refl
one-lost-or-put-in f (suc (suc m)) h ss answers plain none = of-demand-3 f m ss answers none (demand-3 f (suc (suc m)) h ss answers plain none)
