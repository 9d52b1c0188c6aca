-- What document 02 asks of encoding and decoding, for every M: each undoes the other, and a symbol below 3 stands exactly where its cycles are.
use Rattle.timecode.specs.Answers.{done, accepted}
use Rattle.std.specs.Prelude.{◌≡◌, refl, true, false, not, ◌||◌, List, [], ◌∷◌, ◌↔◌, ℕ, zero, suc, ◌+◌, ◌*◌, ◌<◌, ◌≤◌, leb, length, take, drop, get_or, Err}
use Rattle.std.proofs.Common.{sym, ap, ◌∙◌, zero-mul, suc-mul, not-suc-le-zero, arith, leb-true, le-leb, length-drop, take-append-drop, drop-drop}
use Rattle.timecode.specs.Formats.{is_x, member, A, B, G, known, table, look_up, row_of, size}
use Rattle.timecode.specs.Frames.{written, write_of, write_leaves, read_of}
use Rattle.timecode.proofs.Laws.Marks.{at-written}
use Rattle.timecode.specs.Laws.Table.{every_format}
use Rattle.timecode.proofs.Laws.Table.{of-every}
use Rattle.timecode.specs.Laws.Tests.{every_below}
use Rattle.timecode.proofs.Laws.Tests.{by-test, and_left, or-other, below-every}
use Rattle.timecode.proofs.Laws.Writing.{length-written, written-is-accepted, taken, leaves}
use Rattle.timecode.specs.Layout.{Run, runs, in_run, is_mark, filler, symbol_at}
use Rattle.timecode.specs.declared.Format.{Format}
use Rattle.timecode.specs.declared.Refusal.{Refusal}
use Rattle.timecode.specs.declared.Time.{Time}
use Rattle.cycles.specs.Checks.{Checked}
use Rattle.cycles.proofs.Checks.{checks-pass, encoded, decoded}
use Rattle.cycles.specs.Cycles.{is_modulated, is_cycle_count, is_proper, element, cycles_of, unspoiled, encode_of, encode_leaves, same, symbol_in, cycles_at, symbols_in, first_improper, decode_of, decode_leaves}
use Rattle.cycles.proofs.Elements.{same_true}
use Rattle.cycles.proofs.Frames.{element-decoded, length-cycles, symbol-at, length_symbols, symbols-of-cycles, first-cycles, unspoiled-at}

-- ---- a refused call leaves the lent memory

pub refused-encode-leaves : (f : Format) (M : ℕ) (frame lent : List ℕ) (r : Refusal) → encode_of f M frame lent ≡ Err r → encode_leaves f M frame lent ≡ lent
unfolding encode_leaves
refused-encode-leaves f M frame lent r h = rw h

pub refused-decode-leaves : (f : Format) (M : ℕ) (cycles lent : List ℕ) (r : Refusal) → decode_of f M cycles lent ≡ Err r → decode_leaves f M cycles lent ≡ lent
unfolding decode_leaves
refused-decode-leaves f M cycles lent r h = rw h

-- ---- decoding an encoded frame returns it: for every format and every M, whatever the lent memory held

pub encode-then-decode : (f : Format) (M : ℕ) (frame cycles symbols : List ℕ) → encode_of f M frame cycles ≡ done → length symbols ≡ size f
    → (decode_of f M (encode_leaves f M frame cycles) symbols ≡ done) × (decode_leaves f M (encode_leaves f M frame cycles) symbols ≡ frame)
unfolding encode_leaves decode_leaves decode_of
encode-then-decode f M frame cycles symbols h l =
    let e = encoded f M frame cycles h in
    let n : length (cycles_of M frame) ≡ size f * M = length-cycles M frame ∙ ap (λ (k : ℕ). k * M) e.0.elements in
    let c : Checked f M (length symbols) (length (cycles_of M frame)) = record { format = e.0.format; count = e.0.count; elements = l; all = n } in
    let proper : leb (length (cycles_of M frame)) (first_improper (cycles_of M frame)) ≡ true = le-leb (length (cycles_of M frame)) (first_improper (cycles_of M frame)) (let w = first-cycles M frame in omega arith) in
    let q : decode_of f M (cycles_of M frame) symbols ≡ done = checks-pass f M (length symbols) (length (cycles_of M frame)) _ c ∙ rw proper in
    rw h (q, rw (q, ← e.0.elements) (symbols-of-cycles M frame e.0.count e.1))

-- ---- what a decoded symbol says

cycles-of-symbol : (M : ℕ) (cs : List ℕ) (s : ℕ) → s ≤ 2 → symbol_in M cs ≡ s → cs ≡ element M s
unfolding symbol_in
cycles-of-symbol M cs s h e =
    by-test (same cs (element M 0))
    (λ y. let z : s ≡ 0 = sym (rw y at e) in rw z (same_true cs (element M 0) y))
    (λ n.
    by-test (same cs (element M 1))
    (λ y. let z : s ≡ 1 = sym (rw (n, y) at e) in rw z (same_true cs (element M 1) y))
    (λ m.
    by-test (same cs (element M 2))
    (λ y. let z : s ≡ 2 = sym (rw (n, m, y) at e) in rw z (same_true cs (element M 2) y))
    (λ o. let z : s ≡ 3 = sym (rw (n, m, o) at e) in let no : ⊥ = omega arith in absurd no)))

-- Symbol i is s, a zero, a one or a mark, exactly where the cycles of element i are those of s.
pub symbol-exactly-where-its-cycles : (M n : ℕ) (cs : List ℕ) (i s : ℕ) → is_cycle_count M ≡ true → i < n → s ≤ 2 → (get_or (symbols_in M n cs) i 0 ≡ s) ↔ (cycles_at M cs i ≡ element M s)
symbol-exactly-where-its-cycles M n cs i s c h k = (
  (λ e. cycles-of-symbol M (cycles_at M cs i) s k (sym (symbol-at M n cs i h) ∙ e)),
  (λ e. symbol-at M n cs i h ∙ ap (symbol_in M) e ∙ element-decoded M s c k),
)

-- every symbol is at most 3
pub symbols-up-to-3 : (M : ℕ) (cs : List ℕ) → symbol_in M cs ≤ 3
unfolding symbol_in
symbols-up-to-3 M cs =
    by-test (same cs (element M 0)) (λ y. rw y (omega arith))
    (λ n. rw n (by-test (same cs (element M 1)) (λ y. rw y (omega arith))
    (λ m. rw m (by-test (same cs (element M 2)) (λ y. rw y (omega arith)) (λ o. rw o (omega arith))))))

-- ---- encoding what was decoded with no symbol 3 returns the cycles

nothing : (cs : List ℕ) → length cs ≡ 0 → cs ≡ []
nothing [] h = refl
nothing (c ∷ cs) h = let no : ⊥ = omega arith in absurd no

rejoined : (M : ℕ) (ss cs : List ℕ) → length cs ≡ length ss * M → ((i : ℕ) → i < length ss → cycles_at M cs i ≡ element M (get_or ss i 0)) → cycles_of M ss ≡ cs
unfolding cycles_of
rejoined M [] cs l h = sym (nothing cs (l ∙ zero-mul M))
rejoined M (s ∷ ss) cs l h =
    let whole = suc-mul (length ss) M in
    let first : take M cs ≡ element M s = let z : cycles_at M cs 0 ≡ take M cs = rw (zero-mul M) in sym z ∙ h 0 (omega arith) in
    let rest : cycles_of M ss ≡ drop M cs =
    rejoined M ss (drop M cs) (length-drop M cs ∙ omega arith)
    (λ i k.
    let there : M + i * M ≡ suc i * M = let m = suc-mul i M in omega arith in
    ap (take M) (drop-drop (i * M) M cs ∙ ap (λ (j : ℕ). drop j cs) there) ∙ h (suc i) (omega arith)) in
    rw (← first, rest) (take-append-drop M cs)

pub cycles-of-symbols : (M n : ℕ) (cs : List ℕ) → length cs ≡ n * M → unspoiled (symbols_in M n cs) ≡ true → cycles_of M (symbols_in M n cs) ≡ cs
cycles-of-symbols M n cs l u =
    let m = length_symbols M n cs in
    rejoined M (symbols_in M n cs) cs (l ∙ ap (λ (k : ℕ). k * M) (sym m))
    (λ i h.
    let k : i < n = rw m at h in
    cycles-of-symbol M (cycles_at M cs i) (get_or (symbols_in M n cs) i 0) (unspoiled-at (symbols_in M n cs) i u h) (sym (symbol-at M n cs i k)))

pub decode-then-encode : (f : Format) (M : ℕ) (cycles symbols lent : List ℕ) → decode_of f M cycles symbols ≡ done → unspoiled (decode_leaves f M cycles symbols) ≡ true → length lent ≡ size f * M
    → (encode_of f M (decode_leaves f M cycles symbols) lent ≡ done) × (encode_leaves f M (decode_leaves f M cycles symbols) lent ≡ cycles)
unfolding encode_leaves decode_leaves encode_of
decode-then-encode f M cycles symbols lent h u l =
    let d = decoded f M cycles symbols h in
    let ss = symbols_in M (size f) cycles in
    let v : unspoiled ss ≡ true = rw h at u in
    let c : Checked f M (length ss) (length lent) = record { format = d.0.format; count = d.0.count; elements = length_symbols M (size f) cycles; all = l } in
    let q : encode_of f M ss lent ≡ done = checks-pass f M (length ss) (length lent) _ c ∙ rw v in
    rw h (q, rw q (cycles-of-symbols M (size f) cycles d.0.all v))

-- ---- number 25's index: the first cycle that is neither high nor low

pub proper-before-the-first : (cs : List ℕ) (i : ℕ) → i < first_improper cs → is_proper (get_or cs i 0) ≡ true
unfolding first_improper
proper-before-the-first [] i h = absurd (not-suc-le-zero h)
proper-before-the-first (c ∷ cs) zero h = by-test (is_proper c) (λ y. y) (λ n. let k : 0 < 0 = rw n at h in absurd (not-suc-le-zero k))
proper-before-the-first (c ∷ cs) (suc i) h =
    by-test (is_proper c)
    (λ y. let k : suc i < suc (first_improper cs) = rw y at h in proper-before-the-first cs i (omega arith))
    (λ n. let k : suc i < 0 = rw n at h in absurd (not-suc-le-zero k))

pub improper-at-the-first : (cs : List ℕ) → first_improper cs < length cs → is_proper (get_or cs (first_improper cs) 0) ≡ false
unfolding first_improper
improper-at-the-first [] h = absurd (not-suc-le-zero h)
improper-at-the-first (c ∷ cs) h =
    by-test (is_proper c)
    (λ y. let k : suc (first_improper cs) < suc (length cs) = rw y at h in rw y (improper-at-the-first cs (omega arith)))
    (λ n. rw n n)

-- ---- Write, encode, decode, Read: the time and the control word come back

filled : every_format (λ f. not (is_modulated f) || every_below (size f) (λ i. leb (filler f i) 2)) ≡ true
unfolding every_format is_modulated is_x known table size row_of look_up filler is_mark
filled = refl

filler-unspoiled : (f : Format) (i : ℕ) → is_modulated f ≡ true → i < size f → filler f i ≤ 2
unfolding is_modulated
filler-unspoiled f i m h =
    let k = and_left (known f) (member f.letter (A ∷ B ∷ G ∷ [])) m in
    leb-true (filler f i) 2 (below-every (size f) (λ i. leb (filler f i) 2) (or-other (not (is_modulated f)) _ (rw m) (of-every (λ f. not (is_modulated f) || every_below (size f) (λ i. leb (filler f i) 2)) filled f k)) i h)

symbol-unspoiled : (f : Format) (rs : List Run) (xs : List ℕ) (i : ℕ) → is_modulated f ≡ true → i < size f → symbol_at (filler f) rs xs i ≤ 2
unfolding symbol_at
symbol-unspoiled f [] xs i m h = filler-unspoiled f i m h
symbol-unspoiled f (r ∷ rs) [] i m h = filler-unspoiled f i m h
symbol-unspoiled f (r ∷ rs) (x ∷ xs) i m h = by-test (in_run r i) (λ y. rw y (omega arith)) (λ n. rw n (symbol-unspoiled f rs xs i m h))

all-unspoiled : (ss : List ℕ) → ((i : ℕ) → i < length ss → get_or ss i 0 ≤ 2) → unspoiled ss ≡ true
unfolding unspoiled
all-unspoiled [] h = refl
all-unspoiled (s ∷ ss) h = rw (le-leb s 2 (h 0 (omega arith))) (all-unspoiled ss (λ i k. h (suc i) (omega arith)))

pub written-unspoiled : (f : Format) (t : Time) (w : ℕ) → is_modulated f ≡ true → unspoiled (written f t w) ≡ true
written-unspoiled f t w m =
    all-unspoiled (written f t w)
    (λ i k.
    let h : i < size f = rw (length-written f t w) at k in
    let e = at-written f t w i h in
    rw e (symbol-unspoiled f (runs f) _ i m h))

pub written-then-read : (f : Format) (M : ℕ) (t : Time) (w : ℕ) (lent cycles symbols : List ℕ) → is_modulated f ≡ true → is_cycle_count M ≡ true
    → write_of f t w lent ≡ done → length cycles ≡ size f * M → length symbols ≡ size f
    → (encode_of f M (write_leaves f t w lent) cycles ≡ done)
    × ((decode_of f M (encode_leaves f M (write_leaves f t w lent) cycles) symbols ≡ done)
    × (read_of f (decode_leaves f M (encode_leaves f M (write_leaves f t w lent) cycles) symbols) ≡ accepted t w))
unfolding encode_of
written-then-read f M t w lent cycles symbols m c h l n =
    let frame = leaves f t w lent h in
    let long : length (write_leaves f t w lent) ≡ size f = ap length frame ∙ length-written f t w in
    let checks : Checked f M (length (write_leaves f t w lent)) (length cycles) = record { format = m; count = c; elements = long; all = l } in
    let clean : unspoiled (write_leaves f t w lent) ≡ true = ap unspoiled frame ∙ written-unspoiled f t w m in
    let q : encode_of f M (write_leaves f t w lent) cycles ≡ done = checks-pass f M (length (write_leaves f t w lent)) (length cycles) _ checks ∙ rw clean in
    let back = encode-then-decode f M (write_leaves f t w lent) cycles symbols q n in
    (q, (back.0, ap (read_of f) (back.1 ∙ frame) ∙ written-is-accepted f t w (taken f t w lent h).0))
