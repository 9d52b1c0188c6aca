-- What the register shows of the symbols that it received, whatever it held before them: the frame under way, if it began among them.
use Rattle.std.specs.Prelude.{◌≡◌, List, [], ◌∷◌, ◌++◌, ℕ, suc, ◌+◌, ◌-◌, ◌%◌, ◌<◌, ◌≤◌, leb, eqb, get_or, length, take, drop}
use Rattle.std.proofs.Common.{sym, ap, subst, ◌∙◌, append_assoc, append-nil, add-one, arith, eqb-true, leb-false, length-append, drop_of_length-le, take-add, take-suc, length-take-le, get_or-take}
use Rattle.std.proofs.lemmas.Bool.{eqb-false}
use Rattle.std.proofs.Math.Seq.{drop-append_seam}
use Rattle.std.proofs.lemmas.List.{drop-append-le}
use Rattle.timecode.specs.Formats.{size}
use Rattle.timecode.specs.Frames.{read_of}
use Rattle.timecode.proofs.Laws.Checks.{by-reading}
use Rattle.timecode.proofs.Laws.Tests.{by-test}
use Rattle.timecode.specs.declared.Format.{Format}
use Rattle.following.specs.Rows.{opens_frame}
use Rattle.register.specs.Receiving.{push_of, receive_of, frame_of}
use Rattle.register.specs.Contents.{Shows, whole-frame, shows-opened, shows-idle, shows-lost, shows-grown}
use Rattle.register.specs.declared.Register.{Register}
use Rattle.receive_many.specs.ManySymbols.{slice, receive_all, AllSymbols, SymbolsBelow, receive-joins, joined-count}
use Rattle.stream.specs.Feeding.{with_row, with_register, reader_with_reading, when_whole, with_symbol_of, next_of, feed_of}
use Rattle.stream.specs.Refinement.{reader_after}
use Rattle.stream.specs.declared.Reader.{Reader}
use Rattle.stride.specs.ReadyReaders.{Ready, next-with-symbol, ready-next}

-- if the frame under way began among the symbols received, it is the last of them
abbrev pub ShowsLast : Register → List ℕ → Type 0
ShowsLast h received = h.count ≤ length received → Shows h (drop (length received - h.count) received)

by-frame : (h : Register) (received frame : List ℕ) → Shows h frame → drop (length received - length frame) received ≡ frame → ShowsLast h received
by-frame h received frame sh e b = subst (λ (k : ℕ). Shows h (drop (length received - k) received)) (sym sh.count_is) (subst (Shows h) (sym e) sh)

-- before any symbol
none-shown : (h : Register) → h.count ≡ 0 → Shows h []
none-shown h e =
    record {
      count_is = e;
      newest_is = λ j l m. let z : ⊥ = omega arith in absurd z;
      words_are = λ k i u l m. let z : ⊥ = omega arith in absurd z;
    }

pub last_none : (h : Register) → ShowsLast h []
last_none h b = subst (Shows h) (sym (drop_of_length-le {A = ℕ} [] {i = length {A = ℕ} [] - h.count} (omega arith))) (none-shown h (omega arith))

-- one symbol more
pub last_more : (f : Format) (n : ℕ) (h : Register) (received : List ℕ) (s : ℕ) → s ≤ 3 → ShowsLast h received → ShowsLast (receive_of f n h s) (received ++ (s ∷ []))
last_more f n h received s b sh =
    let all = received ++ (s ∷ []) in
    let long : length all ≡ length received + 1 = length-append received (s ∷ []) in
    let none : drop (length all - 0) all ≡ [] = drop_of_length-le all {i = length all - 0} (omega arith) in
    by-test (opens_frame f (h.newest % 4) s)
    (λ y.
    let at : length all - 1 ≡ length received = omega (arith, long) in
    by-frame (receive_of f n h s) all (s ∷ []) (shows-opened f n h s b y) (ap (λ (k : ℕ). drop k all) at ∙ drop-append_seam received (s ∷ [])))
    (λ y.
    by-test (eqb h.count 0)
    (λ e. by-frame (receive_of f n h s) all [] (shows-idle f n h s y (eqb-true h.count 0 e)) none)
    (λ e.
    by-test (leb n h.count)
    (λ l. by-frame (receive_of f n h s) all [] (shows-lost f n h s y e l) none)
    (λ l m.
    let some = eqb-false h.count 0 e in
    let below = leb-false n h.count l in
    let count : (receive_of f n h s).count ≡ h.count + 1 =
    ap (λ (k : Register). k.count) (receive-joins f n h s y (omega (arith, some)) below) ∙ joined-count h (push_of h.newest s) (h.count + 1) in
    let frame = drop (length received - h.count) received in
    let grown = shows-grown f n h frame s b y e l (sh (omega (arith, count, long))) in
    let at : length all - (receive_of f n h s).count ≡ length received - h.count = omega (arith, count, long) in
    rw at (rw (drop-append-le (length received - h.count) received (s ∷ []) (omega arith)) grown))))

pub last-all : (f : Format) (n : ℕ) (h : Register) (received xs : List ℕ) → AllSymbols xs → ShowsLast h received → ShowsLast (receive_all f n h xs) (received ++ xs)
unfolding receive_all
last-all f n h received [] a sh = rw (append-nil received) sh
last-all f n h received (x ∷ xs) a sh =
    rw (append_assoc received (x ∷ []) xs) at (last-all f n (receive_of f n h x) (received ++ (x ∷ [])) xs (λ j b. a (suc j) (omega arith)) (last_more f n h received x (a 0 (omega arith)) sh))

-- a frame that is read stands in the register as before
last_row : (h : Register) (received : List ℕ) (c : ℕ) → ShowsLast h received → ShowsLast (with_row h c) received
last_row h received c sh b = let s = sh b in record { count_is = s.count_is; newest_is = s.newest_is; words_are = s.words_are }

last-whole : (r : Reader) (received : List ℕ) → ShowsLast r.received received → ShowsLast (when_whole r).received received
unfolding when_whole reader_with_reading
last-whole r received sh =
    by-test (eqb r.received.count (size r.format))
    (λ y.
    by-reading (read_of r.format (frame_of r.received (size r.format)))
    (λ x z. rw (y, z) (last_row r.received received 0 sh))
    (λ t w z. rw (y, z) (last_row r.received received _ sh)))
    (λ n. rw n sh)

-- Feeds
pub last-after : (r : Reader) (received xs : List ℕ) → Ready r → AllSymbols xs → ShowsLast r.received received → ShowsLast (reader_after r xs).received (received ++ xs)
unfolding reader_after feed_of with_symbol_of
last-after r received [] v a sh = rw (append-nil received) sh
last-after r received (x ∷ xs) v a sh =
    let n = size r.format in
    let symbol : x ≤ 3 = a 0 (omega arith) in
    let next : ShowsLast (next_of r x).received (received ++ (x ∷ [])) =
    rw (next-with-symbol r x v symbol) (last-whole (with_register r ((r.place + 1) % n) (receive_of r.format n r.received x)) (received ++ (x ∷ [])) (last_more r.format n r.received received x symbol sh)) in
    rw (append_assoc received (x ∷ []) xs) at (last-after (next_of r x) (received ++ (x ∷ [])) xs (ready-next r x v) (λ j b. a (suc j) (omega arith)) next)

-- a frame that is whole among the symbols received is the last n of them
pub last_frame : (h : Register) (received : List ℕ) (n : ℕ) → n ≤ 100 → h.count ≡ n → n ≤ length received → ShowsLast h received → frame_of h n ≡ drop (length received - n) received
last_frame h received n most e b sh =
    let shown : Shows h (drop (length received - n) received) = subst (λ (k : ℕ). Shows h (drop (length received - k) received)) e (sh (omega arith)) in
    whole-frame h (drop (length received - n) received) n most (sym shown.count_is ∙ e) shown

drop-take : (ss : List ℕ) (m k : ℕ) → m ≤ k → k ≤ length ss → drop m (take k ss) ≡ slice ss m k
drop-take ss m k a b =
    let sum : m + (k - m) ≡ k = omega arith in
    let long : length (take m ss) ≡ m = length-take-le m ss (omega arith) in
    let cut : take k ss ≡ take m ss ++ take (k - m) (drop m ss) = ap (λ (j : ℕ). take j ss) (sym sum) ∙ take-add m (k - m) ss in
    ap (drop m) cut ∙ ap (λ (j : ℕ). drop j (take m ss ++ take (k - m) (drop m ss))) (sym long) ∙ drop-append_seam (take m ss) (take (k - m) (drop m ss))

-- The frame that symbol i of a block makes whole stands in the block, if the block has all of it.
pub frame-in-block : (r : Reader) (ss : List ℕ) (i : ℕ) (f : Format) (n : ℕ) → Ready r → n ≤ 100 → i < length ss → SymbolsBelow ss (i + 1) → n ≤ i + 1
    → (h : Register) → h ≡ receive_of f n (reader_after r (take i ss)).received (get_or ss i 0) → h.count ≡ n → frame_of h n ≡ slice ss (i + 1 - n) (i + 1)
frame-in-block r ss i f n v most l below b h is e =
    let front : length (take i ss) ≡ i = length-take-le i ss (omega arith) in
    let symbols : AllSymbols (take i ss) = λ j u. rw (get_or-take i ss j 0 (omega (arith, front))) (below j (omega (arith, front))) in
    let before : ShowsLast (reader_after r (take i ss)).received (take i ss) = last-after r [] (take i ss) v symbols (last_none r.received) in
    let on : take i ss ++ (get_or ss i 0 ∷ []) ≡ take (i + 1) ss = sym (ap (λ (k : ℕ). take k ss) (add-one i) ∙ take-suc ss i 0 l) in
    let after : ShowsLast h (take (i + 1) ss) = rw (is, ← on) (last_more f n (reader_after r (take i ss)).received (take i ss) (get_or ss i 0) (below i (omega arith)) before) in
    let long : length (take (i + 1) ss) ≡ i + 1 = length-take-le (i + 1) ss (omega arith) in
    last_frame h (take (i + 1) ss) n most e (omega (arith, long)) after
    ∙ ap (λ (k : ℕ). drop (k - n) (take (i + 1) ss)) long
    ∙ drop-take ss (i + 1 - n) (i + 1) (omega arith) (omega arith)
