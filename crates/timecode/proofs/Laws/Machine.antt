-- The plain machine with the setting k: exactly when it reports, that its answers depend on the last kn + 1 symbols (in X kn) alone, and that a higher setting reports a part of what a lower one reports.
use Rattle.std.specs.Prelude.{◌≡◌, refl, true, false, cond, List, [], ◌∷◌, ◌++◌, ◌↔◌, ℕ, zero, suc, ◌+◌, ◌*◌, ◌-◌, ◌<◌, ◌≤◌, get_or, length, take, drop, replicate}
use Rattle.std.proofs.Common.{sym, ap, ap₂, ◌∙◌, subst, append_assoc, append-nil, not-suc-le-zero, mul-zero, mul-le-mul_left, arith, leb-true, leb-false, le-leb, length-append, length-drop, drop_of_length-le, take-append-drop, drop-cons, drop-drop, drop_at, take_all, take-add, get_or-drop}
use Rattle.std.proofs.Math.Decide.{ℕ_discrete, dec_le, dec_lt}
use Rattle.std.proofs.lemmas.Bool.{lt-leb}
use Rattle.std.proofs.lemmas.List.{length-replicate, take-append-le, drop-append-le}
use Rattle.std.proofs.Math.Seq.{drop-append-add, take-append_seam}
use Rattle.timecode.specs.Formats.{is_symbol, is_x, size}
use Rattle.timecode.proofs.Laws.Checks.{quiet-no-report, refused-no-report}
use Rattle.timecode.proofs.Laws.Marks.{accepted-length}
use Rattle.timecode.proofs.Laws.Stepping.{next-follows, follows_next}
use Rattle.timecode.proofs.Laws.Tests.{by-test}
use Rattle.timecode.specs.Frames.{read_of}
use Rattle.timecode.specs.Laws.Windows.{Confirmed}
use Rattle.timecode.proofs.Laws.Windows.{lead-one, opens-marked, opens-so, window-confirmed, confirmed-window, window-quiet, before_of}
use Rattle.timecode.specs.Stream.{lead, opens, window_length, frame_in, window_answer, last_of, plain_answer, Plain, plain_feed, plain_answers, plain_received, elements_of, IsElement, IsNewest, elements_up_to, joined, EndsInFrames, SameWindow}
use Rattle.timecode.specs.declared.Answer.{Answer}
use Rattle.timecode.specs.declared.Answer.TheVariants.{Quiet, Report}
use Rattle.timecode.specs.declared.Format.{Format}
use Rattle.timecode.specs.declared.Refusal.TheVariants.{UnknownSymbol}
use Rattle.timecode.specs.declared.Refusal.{Refusal}
use Rattle.timecode.specs.declared.Time.{Time}

-- ---- one Feed

pub feed-accepts : (f : Format) (k : ℕ) (received : List ℕ) (s : ℕ) → s ≤ 3 → plain_feed f k received s ≡ record { received = received ++ (s ∷ []); answer = plain_answer f k (received ++ (s ∷ [])) }
unfolding plain_feed
feed-accepts f k received s h = rw (le-leb s 3 h)

pub feed-refuses : (f : Format) (k : ℕ) (received : List ℕ) (s : ℕ) → 3 < s → plain_feed f k received s ≡ record { received = received; answer = Answer.Refused UnknownSymbol }
unfolding plain_feed
feed-refuses f k received s h = rw (lt-leb s 3 h)

received-step : (f : Format) (k : ℕ) (received ss : List ℕ) (s : ℕ) → (plain_feed f k received s).received ++ elements_of ss ≡ received ++ elements_of (s ∷ ss)
unfolding plain_feed
received-step f k received ss s = by-test (is_symbol s) (λ y. rw y (append_assoc received (s ∷ []) (elements_of ss))) (λ m. rw m)

pub received-elements : (f : Format) (k : ℕ) (received ss : List ℕ) → plain_received f k received ss ≡ received ++ elements_of ss
unfolding plain_received
received-elements f k received [] = sym (append-nil received)
received-elements f k received (s ∷ ss) = received-elements f k (plain_feed f k received s).received ss ∙ received-step f k received ss s

-- ---- long and short lists

pub answer-long : (f : Format) (k : ℕ) (received : List ℕ) → window_length f k ≤ length received → plain_answer f k received ≡ window_answer f k (last_of (window_length f k) received)
unfolding plain_answer
answer-long f k received h = rw (le-leb (window_length f k) (length received) h)

pub answer-short : (f : Format) (k : ℕ) (received : List ℕ) → length received < window_length f k → plain_answer f k received ≡ Quiet
unfolding plain_answer
answer-short f k received h = rw (lt-leb (window_length f k) (length received) h)

pub answer-quiet : (f : Format) (k : ℕ) (received : List ℕ) → ((t : Time) (w : ℕ) → plain_answer f k received ≡ Report t w → ⊥) → plain_answer f k received ≡ Quiet
answer-quiet f k received n = go (dec_le (window_length f k) (length received))
  where
    go : Dec (window_length f k ≤ length received) → plain_answer f k received ≡ Quiet
    go (no h) = answer-short f k received (omega arith)
    go (yes h) = answer-long f k received h ∙ window-quiet f k (last_of (window_length f k) received) (λ t w r. n t w (answer-long f k received h ∙ r))

-- an answer from a list of symbols is no refusal
pub answer-no-refusal : (f : Format) (k : ℕ) (received : List ℕ) (r : Refusal) → plain_answer f k received ≡ Answer.Refused r → ⊥
answer-no-refusal f k received r h =
    let quiet = answer-quiet f k received (λ t w p. refused-no-report r t w (sym h ∙ p)) in
    let z : Quiet ≡ Answer.Refused r = sym quiet ∙ h in
    let n : ◌≡◌ {A = ℕ} 0 1 = cc in
    omega arith

pub report-long : (f : Format) (k : ℕ) (received : List ℕ) (t : Time) (w : ℕ) → plain_answer f k received ≡ Report t w → window_length f k ≤ length received
report-long f k received t w h = go (dec_le (window_length f k) (length received))
  where
    go : Dec (window_length f k ≤ length received) → window_length f k ≤ length received
    go (yes l) = l
    go (no l) = quiet-no-report t w (sym (answer-short f k received (omega arith)) ∙ h)

pub length_last : (k : ℕ) (xs : List ℕ) → k ≤ length xs → length (last_of k xs) ≡ k
unfolding last_of
length_last k xs h = length-drop (length xs - k) xs ∙ omega arith

-- ---- exactly when a report comes

-- a window is its lead and its frames
window-parts : (f : Format) (window : List ℕ) (k : ℕ) → take (lead f + size f * k) window ≡ take (lead f) window ++ joined (frame_in f window) k
unfolding frame_in
window-parts f window zero = let u : lead f + size f * 0 ≡ lead f = omega arith in ap (λ (n : ℕ). take n window) u ∙ sym (append-nil (take (lead f) window))
window-parts f window (suc k) =
    let u : lead f + size f * suc k ≡ lead f + size f * k + size f = omega arith in
    ap (λ (n : ℕ). take n window) u
    ∙ take-add (lead f + size f * k) (size f) window
    ∙ ap (λ (xs : List ℕ). xs ++ frame_in f window k) (window-parts f window k)
    ∙ append_assoc (take (lead f) window) (joined (frame_in f window) k) (frame_in f window k)

lead-marks : (f : Format) (window : List ℕ) → (is_x f ≡ false → 0 < length window) → opens f window ≡ true → take (lead f) window ≡ replicate (lead f) 2
unfolding lead
lead-marks f window l b =
    by-test (is_x f)
    (λ x. rw x refl)
    (λ n. rw n (ap (take 1) (drop-cons window 0 0 (l n)) ∙ ap (λ (s : ℕ). s ∷ []) (opens-marked f window n b)))

-- a list that begins with its lead
lead-opens : (f : Format) (xs : List ℕ) → opens f (replicate (lead f) 2 ++ xs) ≡ true
unfolding lead
lead-opens f xs = opens-so f (replicate (lead f) 2 ++ xs) (λ n. rw n refl)

window-is : (f : Format) (k : ℕ) (window : List ℕ) → length window ≡ window_length f k → opens f window ≡ true → window ≡ replicate (lead f) 2 ++ joined (frame_in f window) k
unfolding window_length
window-is f k window l b =
    sym (take_all (lead f + size f * k) window (omega arith))
    ∙ window-parts f window k
    ∙ ap (λ (xs : List ℕ). xs ++ joined (frame_in f window) k) (lead-marks f window (λ n. omega (arith, lead-one f n)) b)

module _ (f : Format) (frames : ℕ → List ℕ) where
  length-joined : (k : ℕ) → ((j : ℕ) → j < k → length (frames j) ≡ size f) → length (joined frames k) ≡ size f * k
  length-joined zero l = sym (mul-zero (size f))
  length-joined (suc k) l = length-append (joined frames k) (frames k) ∙ omega (arith, length-joined k (λ j b. l j (omega arith)), l k (omega arith))

  -- frame j of the frames joined
  part_of : (k : ℕ) → ((j : ℕ) → j < k → length (frames j) ≡ size f) → (j : ℕ) → j < k → take (size f) (drop (size f * j) (joined frames k)) ≡ frames j
  part_of zero l j b = absurd (not-suc-le-zero b)
  part_of (suc k) l j b = go (part_of k (λ i c. l i (omega arith))) (ℕ_discrete j k)
    where
      n : length (joined frames k) ≡ size f * k
      n = length-joined k (λ i c. l i (omega arith))

      go : ((i : ℕ) → i < k → take (size f) (drop (size f * i) (joined frames k)) ≡ frames i) → Dec (j ≡ k) → take (size f) (drop (size f * j) (joined frames k ++ frames k)) ≡ frames j
      go before (yes p) = rw p (ap (take (size f)) (drop_at (joined frames k) (frames k) (size f * k) n) ∙ take_all (size f) (frames k) (omega (arith, l k (omega arith))))
      go before (no p) =
          let whole : size f * suc j ≤ size f * k = mul-le-mul_left (size f) (omega arith) in
          ap (take (size f)) (drop-append-le (size f * j) (joined frames k) (frames k) (omega (arith, n)))
          ∙ take-append-le (size f) (drop (size f * j) (joined frames k)) (frames k) (omega (arith, n, length-drop (size f * j) (joined frames k)))
          ∙ before j (omega arith)

split-at-last : (n : ℕ) (xs : List ℕ) → xs ≡ take (length xs - n) xs ++ last_of n xs
unfolding last_of
split-at-last n xs = sym (take-append-drop (length xs - n) xs)

confirmed-ends : (f : Format) (m : ℕ) (before window : List ℕ) (t : Time) (w : ℕ) → length window ≡ window_length f (suc m) → Confirmed f m window t w → EndsInFrames f (suc m) (before ++ window) t w
confirmed-ends f m before window t w l c =
    record {
      before = before;
      frames = frame_in f window;
      times = c.times;
      controls = c.controls;
      received_is = ap (λ (xs : List ℕ). before ++ xs) (window-is f (suc m) window l c.begins);
      accepted = λ j b. c.reads j (omega arith);
      next = λ j b. follows_next f (c.times j) (c.times (suc j)) (c.follows j (omega arith));
      last_time = λ j b. let p : j ≡ m = omega arith in rw p c.last_time;
      last_control = λ j b. let p : j ≡ m = omega arith in rw p c.last_control;
    }

pub report-ends : (f : Format) (m : ℕ) (received : List ℕ) (t : Time) (w : ℕ) → plain_answer f (suc m) received ≡ Report t w → EndsInFrames f (suc m) received t w
report-ends f m received t w h =
    let l = report-long f (suc m) received t w h in
    let window = last_of (window_length f (suc m)) received in
    subst (λ (xs : List ℕ). EndsInFrames f (suc m) xs t w) (sym (split-at-last (window_length f (suc m)) received))
    (confirmed-ends f m (take (length received - window_length f (suc m)) received) window t w (length_last (window_length f (suc m)) received l)
    (window-confirmed f m window t w (sym (answer-long f (suc m) received l) ∙ h)))

pub ends-report : (f : Format) (m : ℕ) (received : List ℕ) (t : Time) (w : ℕ) → EndsInFrames f (suc m) received t w → plain_answer f (suc m) received ≡ Report t w
unfolding window_length last_of frame_in
ends-report f m received t w e = answer-long f (suc m) received (omega (arith, n)) ∙ ap (window_answer f (suc m)) last ∙ confirmed-window f m window t w confirmed
  where
    window : List ℕ
    window = replicate (lead f) 2 ++ joined e.frames (suc m)

    whole : (j : ℕ) → j < suc m → length (e.frames j) ≡ size f
    whole j b = accepted-length f (e.frames j) (e.times j) (e.controls j) (e.accepted j b)

    window-size : length window ≡ lead f + size f * suc m
    window-size =
        length-append (replicate (lead f) 2) (joined e.frames (suc m))
        ∙ ap₂ (λ (x y : ℕ). x + y) (length-replicate {A = ℕ} (lead f) 2) (length-joined f e.frames (suc m) whole)

    n : length received ≡ length e.before + (lead f + size f * suc m)
    n = ap length e.received_is ∙ length-append e.before window ∙ ap (λ (x : ℕ). length e.before + x) window-size

    last : drop (length received - (suc m * size f + lead f)) received ≡ window
    last = ap (drop (length received - (suc m * size f + lead f))) e.received_is ∙ drop_at e.before window (length received - (suc m * size f + lead f)) (omega (arith, n))

    frame_is : (j : ℕ) → j < suc m → take (size f) (drop (lead f + size f * j) window) ≡ e.frames j
    frame_is j b =
        let u : lead f + size f * j ≡ length (replicate {A = ℕ} (lead f) 2) + size f * j = ap (λ (n : ℕ). n + size f * j) (sym (length-replicate (lead f) 2)) in
        ap (λ (n : ℕ). take (size f) (drop n window)) u ∙ ap (take (size f)) (drop-append-add (replicate (lead f) 2) (joined e.frames (suc m)) (size f * j)) ∙ part_of f e.frames (suc m) whole j b

    confirmed : Confirmed f m window t w
    confirmed =
        record {
          times = e.times;
          controls = e.controls;
          begins = lead-opens f (joined e.frames (suc m));
          reads = λ j b. ap (read_of f) (frame_is j (omega arith)) ∙ e.accepted j (omega arith);
          follows = λ j b. next-follows f (e.times j) (e.times (suc j)) (e.next j (omega arith));
          last_time = e.last_time m refl;
          last_control = e.last_control m refl;
        }

-- with one Feed: the symbol is accepted, and the list then ends so
pub feed-reports : (f : Format) (m : ℕ) (received : List ℕ) (s : ℕ) (t : Time) (w : ℕ) → ((plain_feed f (suc m) received s).answer ≡ Report t w) ↔ ((s ≤ 3) × EndsInFrames f (suc m) (received ++ (s ∷ [])) t w)
feed-reports f m received s t w = (λ h. go h (dec_le s 3), λ e. ap (λ (p : Plain). p.answer) (feed-accepts f (suc m) received s e.0) ∙ ends-report f m (received ++ (s ∷ [])) t w e.1)
  where
    go : (plain_feed f (suc m) received s).answer ≡ Report t w → Dec (s ≤ 3) → (s ≤ 3) × EndsInFrames f (suc m) (received ++ (s ∷ [])) t w
    go h (yes l) = (l, report-ends f m (received ++ (s ∷ [])) t w (sym (ap (λ (p : Plain). p.answer) (feed-accepts f (suc m) received s l)) ∙ h))
    go h (no l) = refused-no-report UnknownSymbol t w (sym (ap (λ (p : Plain). p.answer) (feed-refuses f (suc m) received s (omega arith))) ∙ h)

-- ---- the answers depend on the window alone

last-append : (k : ℕ) (xs : List ℕ) (s : ℕ) → 1 ≤ k → k ≤ length xs → last_of k (xs ++ (s ∷ [])) ≡ drop 1 (last_of k xs) ++ (s ∷ [])
unfolding last_of
last-append k xs s a h =
    ap (λ (i : ℕ). drop i (xs ++ (s ∷ []))) index
    ∙ drop-append-le (length xs - k + 1) xs (s ∷ []) (omega arith)
    ∙ ap (λ (ys : List ℕ). ys ++ (s ∷ [])) (sym (drop-drop 1 (length xs - k) xs))
  where
    index : length (xs ++ (s ∷ [])) - k ≡ length xs - k + 1
    index = omega (arith, length-append xs (s ∷ []))

-- a window of one symbol more
last-same : (k : ℕ) (xs ys : List ℕ) (s : ℕ) → k ≤ length xs → k ≤ length ys → last_of k xs ≡ last_of k ys → last_of k (xs ++ (s ∷ [])) ≡ last_of k (ys ++ (s ∷ []))
unfolding last_of
last-same zero xs ys s a b h =
    drop_of_length-le (xs ++ (s ∷ [])) {i = length (xs ++ (s ∷ [])) - 0} (omega arith) ∙ sym (drop_of_length-le (ys ++ (s ∷ [])) {i = length (ys ++ (s ∷ [])) - 0} (omega arith))
last-same (suc k) xs ys s a b h = last-append (suc k) xs s (omega arith) a ∙ ap (λ (zs : List ℕ). drop 1 zs ++ (s ∷ [])) h ∙ sym (last-append (suc k) ys s (omega arith) b)

pub same_answer : (f : Format) (k : ℕ) (xs ys : List ℕ) → SameWindow f k xs ys → plain_answer f k xs ≡ plain_answer f k ys
same_answer f k xs ys w = answer-long f k xs w.first_long ∙ ap (window_answer f k) w.same ∙ sym (answer-long f k ys w.second_long)

same-longer : (f : Format) (k : ℕ) (xs ys : List ℕ) (s : ℕ) → SameWindow f k xs ys → SameWindow f k (xs ++ (s ∷ [])) (ys ++ (s ∷ []))
same-longer f k xs ys s w =
    record {
      first_long = omega (arith, w.first_long, length-append xs (s ∷ []));
      second_long = omega (arith, w.second_long, length-append ys (s ∷ []));
      same = last-same (window_length f k) xs ys s w.first_long w.second_long w.same;
    }

pub same-answers : (f : Format) (k : ℕ) (ss xs ys : List ℕ) → SameWindow f k xs ys → plain_answers f k xs ss ≡ plain_answers f k ys ss
unfolding plain_answers
same-answers f k [] xs ys w = refl
same-answers f k (s ∷ ss) xs ys w = go (same-answers f k ss) (dec_le s 3)
  where
    go : ((xs ys : List ℕ) → SameWindow f k xs ys → plain_answers f k xs ss ≡ plain_answers f k ys ss) → Dec (s ≤ 3)
        → (plain_feed f k xs s).answer ∷ plain_answers f k (plain_feed f k xs s).received ss ≡ (plain_feed f k ys s).answer ∷ plain_answers f k (plain_feed f k ys s).received ss
    go later (yes h) =
        let longer = same-longer f k xs ys s w in
        rw (feed-accepts f k xs s h, feed-accepts f k ys s h)
        (ap₂ (λ (a : Answer) (as' : List Answer). a ∷ as') (same_answer f k (xs ++ (s ∷ [])) (ys ++ (s ∷ [])) longer) (later (xs ++ (s ∷ [])) (ys ++ (s ∷ [])) longer))
    go later (no h) = rw (feed-refuses f k xs s (omega arith), feed-refuses f k ys s (omega arith)) (ap (λ (zs : List Answer). Answer.Refused UnknownSymbol ∷ zs) (later xs ys w))

-- ---- the answers by their index

pub length-answers : (f : Format) (k : ℕ) (received ss : List ℕ) → length (plain_answers f k received ss) ≡ length ss
unfolding plain_answers
length-answers f k received [] = refl
length-answers f k received (s ∷ ss) = ap suc (length-answers f k (plain_feed f k received s).received ss)

pub answers-append : (f : Format) (k : ℕ) (received ss rs : List ℕ) → plain_answers f k received (ss ++ rs) ≡ plain_answers f k received ss ++ plain_answers f k (plain_received f k received ss) rs
unfolding plain_answers plain_received
answers-append f k received [] rs = refl
answers-append f k received (s ∷ ss) rs = ap (λ (zs : List Answer). (plain_feed f k received s).answer ∷ zs) (answers-append f k (plain_feed f k received s).received ss rs)

-- the answers behind a list of Feeds
pub answers-after : (f : Format) (k : ℕ) (received ss rs : List ℕ) → drop (length ss) (plain_answers f k received (ss ++ rs)) ≡ plain_answers f k (plain_received f k received ss) rs
answers-after f k received ss rs = ap (drop (length ss)) (answers-append f k received ss rs) ∙ drop_at (plain_answers f k received ss) (plain_answers f k (plain_received f k received ss) rs) (length ss) (length-answers f k received ss)

pub answer_at : (f : Format) (k : ℕ) (received ss : List ℕ) (none : Answer) → ((j : ℕ) → j < length ss → get_or ss j 0 ≤ 3) → (i : ℕ) → i < length ss → get_or (plain_answers f k received ss) i none ≡ plain_answer f k (received ++ take (suc i) ss)
unfolding plain_answers
answer_at f k received [] none a i b = absurd (not-suc-le-zero b)
answer_at f k received (s ∷ ss) none a zero b = rw (feed-accepts f k received s (a 0 (omega arith)))
answer_at f k received (s ∷ ss) none a (suc i) b =
    rw (feed-accepts f k received s (a 0 (omega arith)))
    (answer_at f k (received ++ (s ∷ [])) ss none (λ k c. a (suc k) (omega arith)) i (omega arith) ∙ ap (plain_answer f k) (append_assoc received (s ∷ []) (take (suc i) ss)))

-- the same where Feeds are refused: each is answered by the elements before it and its own symbol
pub feed-at : (f : Format) (k : ℕ) (received ss : List ℕ) (none : Answer) (i : ℕ) → i < length ss → get_or (plain_answers f k received ss) i none ≡ (plain_feed f k (received ++ elements_of (take i ss)) (get_or ss i 0)).answer
unfolding plain_answers
feed-at f k received [] none i b = absurd (not-suc-le-zero b)
feed-at f k received (s ∷ ss) none zero b = ap (λ (xs : List ℕ). (plain_feed f k xs s).answer) (sym (append-nil received))
feed-at f k received (s ∷ ss) none (suc i) b =
    feed-at f k (plain_feed f k received s).received ss none i (omega arith) ∙ ap (λ (xs : List ℕ). (plain_feed f k xs (get_or ss i 0)).answer) (received-step f k received (take i ss) s)

-- ---- a higher setting

frame-later : (f : Format) (window : List ℕ) (d j : ℕ) → frame_in f (drop (size f * d) window) j ≡ frame_in f window (d + j)
unfolding frame_in
frame-later f window d j =
    let u : size f * d + (lead f + size f * j) ≡ lead f + size f * (d + j) = omega arith in
    ap (take (size f)) (drop-drop (lead f + size f * j) (size f * d) window ∙ ap (λ (i : ℕ). drop i window) u)

-- the last m + 1 of d + m + 1 frames are confirmed too
fewer-confirmed : (f : Format) (m d : ℕ) (window : List ℕ) (t : Time) (w : ℕ) → Confirmed f (d + m) window t w → Confirmed f m (drop (size f * d) window) t w
fewer-confirmed f m d window t w c =
    let u : size f * d + 0 ≡ size f * d = omega arith in
    record {
      times = λ j. c.times (d + j);
      controls = λ j. c.controls (d + j);
      begins = opens-so f (drop (size f * d) window) (λ n. get_or-drop (size f * d) window 0 0 ∙ ap (λ (i : ℕ). get_or window i 0) u ∙ before_of f (d + m) window t w c n d (omega arith));
      reads = λ j b. rw (frame-later f window d j) (c.reads (d + j) (omega arith));
      follows = λ j b. let v : d + suc j ≡ suc (d + j) = omega arith in rw v (c.follows (d + j) (omega arith));
      last_time = c.last_time;
      last_control = c.last_control;
    }

-- what d frames more report, is reported without these
fewer-report : (f : Format) (m d : ℕ) (received : List ℕ) (t : Time) (w : ℕ) → plain_answer f (suc (d + m)) received ≡ Report t w → plain_answer f (suc m) received ≡ Report t w
unfolding window_length last_of
fewer-report f m d received t w h =
    let l = report-long f (suc (d + m)) received t w h in
    let long-window = last_of (window_length f (suc (d + m))) received in
    let c = window-confirmed f (d + m) long-window t w (sym (answer-long f (suc (d + m)) received l) ∙ h) in
    let r = confirmed-window f m (drop (size f * d) long-window) t w (fewer-confirmed f m d long-window t w c) in
    let u : length received - (suc (d + m) * size f + lead f) + size f * d ≡ length received - (suc m * size f + lead f) = omega arith in
    let z : drop (size f * d) (drop (length received - (suc (d + m) * size f + lead f)) received) ≡ drop (length received - (suc m * size f + lead f)) received =
    drop-drop (size f * d) (length received - (suc (d + m) * size f + lead f)) received ∙ ap (λ (i : ℕ). drop i received) u in
    answer-long f (suc m) received (omega arith) ∙ ap (window_answer f (suc m)) (sym z) ∙ r

pub higher-report : (f : Format) (k m : ℕ) → 1 ≤ k → k ≤ m → (received : List ℕ) (t : Time) (w : ℕ) → plain_answer f m received ≡ Report t w → plain_answer f k received ≡ Report t w
higher-report f zero m a b received t w h = absurd (not-suc-le-zero a)
higher-report f (suc k) m a b received t w h =
    let u : m ≡ suc (m - suc k + k) = omega arith in
    fewer-report f k (m - suc k) received t w (subst (λ (x : ℕ). plain_answer f x received ≡ Report t w) u h)

-- ---- the elements by the index of their Feeds

pub elements-next : (ss : List ℕ) (i : ℕ) → IsElement ss i → elements_up_to ss i ≡ elements_of (take i ss) ++ (get_or ss i 0 ∷ [])
elements-next [] i e = absurd (not-suc-le-zero e.0)
elements-next (s ∷ ss) zero e = rw (le-leb s 3 e.1)
elements-next (s ∷ ss) (suc i) e =
    let later : elements_up_to ss i ≡ elements_of (take i ss) ++ (get_or ss i 0 ∷ []) = elements-next ss i (omega (arith, e.0), e.1) in
    by-test (is_symbol s) (λ y. rw y (ap (λ (xs : List ℕ). s ∷ xs) later)) (λ m. rw m later)

elements-append : (ss rs : List ℕ) → elements_of (ss ++ rs) ≡ elements_of ss ++ elements_of rs
elements-append [] rs = refl
elements-append (s ∷ ss) rs = by-test (is_symbol s) (λ y. rw y (ap (λ (xs : List ℕ). s ∷ xs) (elements-append ss rs))) (λ m. rw m (elements-append ss rs))

elements-split : (ss : List ℕ) (i : ℕ) → elements_of ss ≡ elements_up_to ss i ++ elements_of (drop (suc i) ss)
elements-split ss i = sym (ap elements_of (take-append-drop (suc i) ss)) ∙ elements-append (take (suc i) ss) (drop (suc i) ss)

-- the elements up to a Feed are the first of all
pub first-elements : (ss : List ℕ) (i : ℕ) → (length (elements_up_to ss i) ≤ length (elements_of ss)) × (elements_up_to ss i ≡ take (length (elements_up_to ss i)) (elements_of ss))
first-elements ss i = (
  omega (arith, ap length (elements-split ss i), length-append (elements_up_to ss i) (elements_of (drop (suc i) ss))),
  sym (ap (take (length (elements_up_to ss i))) (elements-split ss i) ∙ take-append_seam (elements_up_to ss i) (elements_of (drop (suc i) ss))),
)

-- where no Feed is refused
pub all-elements : (ss : List ℕ) → ((j : ℕ) → j < length ss → get_or ss j 0 ≤ 3) → elements_of ss ≡ ss
all-elements [] h = refl
all-elements (s ∷ ss) h = rw (le-leb s 3 (h 0 (omega arith))) (ap (λ (xs : List ℕ). s ∷ xs) (all-elements ss (λ j b. h (suc j) (omega arith))))

none-accepted : (ss : List ℕ) → ((k : ℕ) → k < length ss → 3 < get_or ss k 0) → elements_of ss ≡ []
none-accepted [] h = refl
none-accepted (s ∷ ss) h = rw (lt-leb s 3 (h 0 (omega arith))) (none-accepted ss (λ k b. h (suc k) (omega arith)))

pub elements-to-newest : (ss : List ℕ) (i : ℕ) → IsNewest ss i → elements_up_to ss i ≡ elements_of ss
elements-to-newest [] i n = absurd (not-suc-le-zero n.0.0)
elements-to-newest (s ∷ ss) zero n = ap (λ (xs : List ℕ). cond (is_symbol s) (s ∷ xs) xs) (sym (none-accepted ss (λ k b. n.1 (suc k) (omega arith) (omega arith))))
elements-to-newest (s ∷ ss) (suc i) n =
    ap (λ (xs : List ℕ). cond (is_symbol s) (s ∷ xs) xs)
    (elements-to-newest ss i ((omega (arith, n.0.0), n.0.1), λ k a b. n.1 (suc k) (omega arith) (omega arith)))

none-elements : (ss : List ℕ) → length (elements_of ss) ≤ 0 → (k : ℕ) → k < length ss → 3 < get_or ss k 0
none-elements [] h k b = absurd (not-suc-le-zero b)
none-elements (s ∷ ss) h zero b =
    by-test (is_symbol s)
    (λ y. let more : suc (length (elements_of ss)) ≤ 0 = rw y at h in absurd (not-suc-le-zero more))
    (λ m. leb-false s 3 m)
none-elements (s ∷ ss) h (suc k) b =
    by-test (is_symbol s)
    (λ y. let more : suc (length (elements_of ss)) ≤ 0 = rw y at h in absurd (not-suc-le-zero more))
    (λ m. none-elements ss (rw m at h) k (omega arith))

newest-later : (s : ℕ) (ss : List ℕ) (i : ℕ) → IsNewest ss i → IsNewest (s ∷ ss) (suc i)
newest-later s ss i n = ((omega (arith, n.0.0), n.0.1), later)
  where
    later : (k : ℕ) → suc i < k → k < suc (length ss) → 3 < get_or (s ∷ ss) k 0
    later zero a b = absurd (not-suc-le-zero a)
    later (suc k) a b = n.1 k (omega arith) (omega arith)

newest-first : (s : ℕ) (ss : List ℕ) → 0 < length (elements_of (s ∷ ss)) → length (elements_of ss) ≤ 0 → IsNewest (s ∷ ss) 0
newest-first s ss h none = ((omega arith, small), later)
  where
    small : s ≤ 3
    small = by-test (is_symbol s) (λ y. leb-true s 3 y) (λ m. let some : 0 < length (elements_of ss) = rw m at h in let no : ⊥ = omega arith in absurd no)

    later : (k : ℕ) → 0 < k → k < suc (length ss) → 3 < get_or (s ∷ ss) k 0
    later zero a b = absurd (not-suc-le-zero a)
    later (suc k) a b = none-elements ss none k (omega arith)

-- where there is an element, there is a newest
pub newest-exists : (ss : List ℕ) → 0 < length (elements_of ss) → (i : ℕ) × IsNewest ss i
newest-exists [] h = absurd (not-suc-le-zero h)
newest-exists (s ∷ ss) h = go (newest-exists ss) (dec_lt 0 (length (elements_of ss)))
  where
    go : (0 < length (elements_of ss) → (i : ℕ) × IsNewest ss i) → Dec (0 < length (elements_of ss)) → (i : ℕ) × IsNewest (s ∷ ss) i
    go later (yes l) = let n = later l in (suc n.0, newest-later s ss n.0 n.1)
    go later (no l) = (0, newest-first s ss h (omega arith))
