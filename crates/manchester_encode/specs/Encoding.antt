-- The loops of encoding, turn by turn.
use Rattle.timecode.specs.Answers.{done}
use Rattle.std.specs.Prelude.{◌≡◌, refl, true, false, ◌&&◌, List, [], ◌∷◌, ◌++◌, ℕ, zero, suc, ◌+◌, ◌*◌, ◌-◌, ◌%◌, ◌<◌, ◌≤◌, leb, eqb, length, take, drop, get_or, set, replicate, Err, ltb, max}
use Rattle.std.proofs.Common.{sym, ap, ap₂, ◌∙◌, append_assoc, append-nil, add-zero, add-one, arith, leb-true, le-leb, drop_of_length-le, length-append, length-set, length-drop, take-suc, take-suc-set, take-take, take-add, length-take-le, drop-cons, drop-drop, drop_at, take_at, get_or-drop, ltb-true, ltb-false}
use Rattle.std.proofs.lemmas.List.{replicate-append-replicate, length-replicate}
use Rattle.std.proofs.Math.Seq.{take-length, take-append-add}
use Rattle.timecode.proofs.Laws.Marks.{size-positive}
use Rattle.timecode.proofs.Laws.Tests.{by-test}
use Rattle.timecode.specs.declared.Format.{Format}
use Rattle.timecode.specs.declared.Refusal.{Refusal}
use Rattle.timecode.specs.declared.Refusal.TheVariants.{UnknownSymbol}
use Rattle.cycles.proofs.Checks.{checked, checks-pass, checks-refuse}
use Rattle.cycles.specs.Cycles.{check_frame, highs, element, cycles_of, unspoiled, encode_of, encode_leaves}
use Rattle.cycles.proofs.Elements.{count-parts, highs-within}
use borrow.Rule.Slice.PartMut.{put_mid}

-- ---- a run of one level

pub run_put : (old part : List ℕ) (from to v : ℕ) → from ≤ to → to ≤ length old → part ≡ replicate (to - from) v → (length (put_mid from (to - from) old part) ≡ length old) × (take to (put_mid from (to - from) old part) ≡ take from old ++ replicate (to - from) v)
run_put old part from to v h k e =
    let front : length (take from old) ≡ from = length-take-le from old (omega arith) in
    let run : length part ≡ to - from = ap length e ∙ length-replicate (to - from) v in
    let rest = drop (to - from) (drop from old) in
    let place : to ≡ length (take from old) + (to - from) = omega arith in (
      simp (length-append, length-drop) (omega arith),
      ap (λ (m : ℕ). take m (take from old ++ (part ++ rest))) place
          ∙ take-append-add (take from old) (part ++ rest) (to - from)
          ∙ ap (λ (l : List ℕ). take from old ++ l) (take_at part rest (to - from) run ∙ e),
    )

-- ---- one more element

pub cycles-append : (M : ℕ) (xs ys : List ℕ) → cycles_of M (xs ++ ys) ≡ cycles_of M xs ++ cycles_of M ys
unfolding cycles_of
cycles-append M [] ys = refl
cycles-append M (x ∷ xs) ys = ap (λ (zs : List ℕ). element M x ++ zs) (cycles-append M xs ys) ∙ sym (append_assoc (element M x) (cycles_of M xs) (cycles_of M ys))

pub none-set : (M : ℕ) (frame : List ℕ) → [] ≡ cycles_of M (take 0 frame)
unfolding cycles_of
none-set M frame = refl

pub element-next : (M : ℕ) (frame xs zs : List ℕ) (e at : ℕ) → e < length frame
    → take at xs ≡ cycles_of M (take e frame)
    → take (at + M) zs ≡ take at xs ++ element M (get_or frame e 0)
    → take (at + M) zs ≡ cycles_of M (take (e + 1) frame)
unfolding cycles_of
element-next M frame xs zs e at h a b =
    b
    ∙ ap (λ (l : List ℕ). l ++ element M (get_or frame e 0)) a
    ∙ ap (λ (l : List ℕ). cycles_of M (take e frame) ++ l) (sym (append-nil (element M (get_or frame e 0))))
    ∙ sym (cycles-append M (take e frame) (get_or frame e 0 ∷ []))
    ∙ ap (cycles_of M) (sym (take-suc frame e 0 h) ∙ ap (λ (j : ℕ). take j frame) (sym (add-one e)))

-- ---- the levels of which every element is a part

-- high cycles, then low ones
abbrev pub runs : ℕ → ℕ → List ℕ
runs h l = replicate h 1 ++ replicate l 2

unfoldable pub levels : List ℕ
levels = runs 80 112

abbrev pub Levels : List ℕ → Type 0
Levels ls = ls ≡ levels

-- where the element of a zero, of a one and of a mark begins
abbrev pub Starts : ℕ → List ℕ → Type 0
Starts M ss = ss ≡ (80 - highs M 0) ∷ (80 - highs M 1) ∷ (80 - highs M 2) ∷ []

pub levels-put : (new : List ℕ) → length new ≡ 192 → take 192 new ≡ take 80 (replicate 192 1) ++ replicate (192 - 80) 2 → Levels new
unfolding levels
levels-put new l e = sym (take-length new) ∙ ap (λ (n : ℕ). take n new) l ∙ e

pub levels-length : (ls : List ℕ) → Levels ls → length ls ≡ 192
unfolding levels
levels-length ls e = ap length e

pub highs-most : (M s : ℕ) → M ≤ 100 → highs M s ≤ 80
unfolding highs
highs-most M s h = by-test (eqb s 0) (λ y. rw y (omega arith)) (λ n. rw n (by-test (eqb s 1) (λ y. rw y (omega arith)) (λ m. rw m (omega arith))))

pub start-at : (M s : ℕ) (ss : List ℕ) → s ≤ 2 → Starts M ss → get_or ss s 0 ≡ 80 - highs M s
start-at M zero ss h e = ap (λ (l : List ℕ). get_or l 0 0) e
start-at M (suc zero) ss h e = ap (λ (l : List ℕ). get_or l 1 0) e
start-at M (suc (suc zero)) ss h e = ap (λ (l : List ℕ). get_or l 2 0) e
start-at M (suc (suc (suc s))) ss h e = let no : ⊥ = omega arith in absurd no

pub starts-length : (M : ℕ) (ss : List ℕ) → Starts M ss → length ss ≡ 3
starts-length M ss e = ap length e

-- no part reaches past the levels
pub part_room : (M s n : ℕ) (ss ls : List ℕ) → s ≤ 2 → Starts M ss → Levels ls → n ≤ 112 → get_or ss s 0 + n ≤ length ls
part_room M s n ss ls h st l k = omega (arith, start-at M s ss h st, levels-length ls l)

part-of-runs : (a h l r M : ℕ) → h + l ≡ M → take M (drop a (runs (a + h) (l + r))) ≡ runs h l
part-of-runs a h l r M e =
    let n : length (runs h l) ≡ M = length-append (replicate h 1) (replicate l 2) ∙ ap₂ ◌+◌ (length-replicate h 1) (length-replicate l 2) ∙ e in
    let front : runs (a + h) (l + r) ≡ replicate a 1 ++ runs h (l + r) = ap (λ (x : List ℕ). x ++ replicate (l + r) 2) (sym (replicate-append-replicate a h 1)) ∙ append_assoc (replicate a 1) (replicate h 1) (replicate (l + r) 2) in
    let back : runs h (l + r) ≡ runs h l ++ replicate r 2 = ap (λ (x : List ℕ). replicate h 1 ++ x) {y = replicate l 2 ++ replicate r 2} (sym (replicate-append-replicate l r 2)) ∙ sym (append_assoc (replicate h 1) (replicate l 2) (replicate r 2)) in
    ap (λ (x : List ℕ). take M (drop a x)) front
    ∙ ap (take M) (drop_at (replicate a 1) (runs h (l + r)) a (length-replicate a 1) ∙ back)
    ∙ take_at (runs h l) (replicate r 2) M n

element-of-runs : (M s k m : ℕ) → highs M s ≤ k → M ≤ m → take M (drop (k - highs M s) (runs k m)) ≡ element M s
unfolding element
element-of-runs M s k m h n =
    let w = highs-within M s in
    let ups : k ≡ k - highs M s + highs M s = omega arith in
    let downs : m ≡ M - highs M s + (m - (M - highs M s)) = omega arith in
    let all : highs M s + (M - highs M s) ≡ M = omega arith in
    ap (λ (x : List ℕ). take M (drop (k - highs M s) x)) (ap₂ runs ups downs)
    ∙ part-of-runs (k - highs M s) (highs M s) (M - highs M s) (m - (M - highs M s)) M all

pub element-of-levels : (M s : ℕ) (ls : List ℕ) → M ≤ 100 → Levels ls → take M (drop (80 - highs M s) ls) ≡ element M s
unfolding levels
element-of-levels M s ls h e =
    let most = highs-most M s h in
    ap (λ (x : List ℕ). take M (drop (80 - highs M s) x)) e ∙ element-of-runs M s 80 112 most (omega arith)

-- ---- the elements of 10 cycles, a block for each

unfoldable pub shorts : List ℕ
shorts = runs 2 14 ++ runs 5 11 ++ runs 8 8

abbrev pub Short : List ℕ → Type 0
Short es = es ≡ shorts

-- its two runs, as they are put
pub short-runs : (h at mid : ℕ) (xs ys zs : List ℕ) → mid ≡ at + h → h ≤ 16
    → take mid ys ≡ take at xs ++ replicate (mid - at) 1
    → take (at + 16) zs ≡ take mid ys ++ replicate (at + 16 - mid) 2
    → take (at + 16) zs ≡ take at xs ++ runs h (16 - h)
short-runs h at mid xs ys zs m small b c =
    let ups : mid - at ≡ h = omega arith in
    let downs : at + 16 - mid ≡ 16 - h = omega arith in
    c
    ∙ ap (λ (l : List ℕ). l ++ replicate (at + 16 - mid) 2) b
    ∙ append_assoc (take at xs) (replicate (mid - at) 1) (replicate (at + 16 - mid) 2)
    ∙ rw (ups, downs)

pub shorts-put : (e₁ e₂ e₃ : List ℕ) → length e₃ ≡ 48
    → take (0 + 16) e₁ ≡ runs (highs 10 0) (16 - highs 10 0)
    → take (16 + 16) e₂ ≡ take 16 e₁ ++ runs (highs 10 1) (16 - highs 10 1)
    → take (32 + 16) e₃ ≡ take 32 e₂ ++ runs (highs 10 2) (16 - highs 10 2)
    → Short e₃
unfolding shorts highs
shorts-put e₁ e₂ e₃ l a b c =
    sym (take-length e₃)
    ∙ ap (λ (n : ℕ). take n e₃) l
    ∙ c
    ∙ ap (λ (x : List ℕ). x ++ runs 8 8) (b ∙ ap (λ (x : List ℕ). x ++ runs 5 11) a)

pub shorts-length : (es : List ℕ) → Short es → length es ≡ 48
unfolding shorts
shorts-length es e = ap length e

short-element : (s : ℕ) → s ≤ 2 → take 10 (drop (16 * s) shorts) ≡ element 10 s
unfolding shorts element highs
short-element zero h = refl
short-element (suc zero) h = refl
short-element (suc (suc zero)) h = refl
short-element (suc (suc (suc s))) h = let no : ⊥ = omega arith in absurd no

-- ---- copies of their cycles

-- so many cycles from a place of the elements stand at a place of the cycles, with those before it as they were
abbrev pub Copied : List ℕ → ℕ → List ℕ → List ℕ → ℕ → ℕ → Type 0
Copied es from old new at n = (length new ≡ length old) × (take (at + n) new ≡ take at old ++ take n (drop from es))

pub none-copied : (es : List ℕ) (from : ℕ) (old : List ℕ) (at : ℕ) → Copied es from old old at 0
none-copied es from old at = (refl, ap (λ (k : ℕ). take k old) (add-zero at) ∙ sym (append-nil (take at old)))

pub one-copied : (es : List ℕ) (from : ℕ) (old new : List ℕ) (at i : ℕ) → from + i < length es → at + i < length new → Copied es from old new at i → Copied es from old (set new (at + i) (get_or es (from + i) 0)) at (i + 1)
one-copied es from old new at i h k c =
    let room : i < length (drop from es) = omega (arith, length-drop from es) in
    let place : at + (i + 1) ≡ suc (at + i) = omega arith in (
      length-set new (at + i) (get_or es (from + i) 0) ∙ c.0,
      ap (λ (j : ℕ). take j (set new (at + i) (get_or es (from + i) 0))) place
          ∙ take-suc-set new (at + i) (get_or es (from + i) 0) k
          ∙ ap (λ (l : List ℕ). l ++ (get_or es (from + i) 0 ∷ [])) c.1
          ∙ append_assoc (take at old) (take i (drop from es)) (get_or es (from + i) 0 ∷ [])
          ∙ ap (λ (l : List ℕ). take at old ++ l) (ap (λ (v : ℕ). take i (drop from es) ++ (v ∷ [])) (sym (get_or-drop from es i 0)) ∙ sym (take-suc (drop from es) i 0 room) ∙ ap (λ (j : ℕ). take j (drop from es)) (sym (add-one i))),
    )

pub block-copied : (es : List ℕ) (from : ℕ) (old xs ys : List ℕ) (at i n : ℕ) → Copied es from old xs at i → Copied es (from + i) xs ys (at + i) n → Copied es from old ys at (i + n)
block-copied es from old xs ys at i n a b =
    let place : at + (i + n) ≡ at + i + n = omega arith in (
      b.0 ∙ a.0,
      ap (λ (j : ℕ). take j ys) place
          ∙ b.1
          ∙ ap (λ (l : List ℕ). l ++ take n (drop (from + i) es)) a.1
          ∙ append_assoc (take at old) (take i (drop from es)) (take n (drop (from + i) es))
          ∙ ap (λ (l : List ℕ). take at old ++ l) (ap (λ (l : List ℕ). take i (drop from es) ++ take n l) (sym (drop-drop i from es)) ∙ sym (take-add i n (drop from es))),
    )

-- what stands behind counts for nothing
pub fewer-copied : (es : List ℕ) (from : ℕ) (old new : List ℕ) (at n i : ℕ) → n ≤ i → at ≤ length old → Copied es from old new at i → Copied es from old new at n
fewer-copied es from old new at n i h k c =
    let front : length (take at old) ≡ at = length-take-le at old k in (
      c.0,
      sym (take-take (at + n) (at + i) new (omega arith))
          ∙ ap (take (at + n)) c.1
          ∙ ap (λ (m : ℕ). take (m + n) (take at old ++ take i (drop from es))) (sym front)
          ∙ take-append-add (take at old) (take i (drop from es)) n
          ∙ ap (λ (l : List ℕ). take at old ++ l) (take-take n i (drop from es) h),
    )

pub element-copied : (M s : ℕ) (ss ls old new : List ℕ) (at : ℕ) → M ≤ 100 → s ≤ 2 → Starts M ss → Levels ls → Copied ls (get_or ss s 0) old new at M → take (at + M) new ≡ take at old ++ element M s
element-copied M s ss ls old new at h k st l c = c.1 ∙ ap (λ (x : List ℕ). take at old ++ x) (ap (λ (from : ℕ). take M (drop from ls)) (start-at M s ss k st) ∙ element-of-levels M s ls h l)

pub short-copied : (s : ℕ) (es old new : List ℕ) (at : ℕ) → s ≤ 2 → Short es → Copied es (16 * s) old new at 10 → take (at + 10) new ≡ take at old ++ element 10 s
short-copied s es old new at h e c = c.1 ∙ ap (λ (x : List ℕ). take at old ++ x) (ap (λ (x : List ℕ). take 10 (drop (16 * s) x)) e ∙ short-element s h)

pub all_set : (M : ℕ) (frame cycles : List ℕ) (i at : ℕ) → i ≡ length frame → at ≡ i * M → length cycles ≡ length frame * M → take at cycles ≡ cycles_of M (take i frame) → cycles ≡ cycles_of M frame
all_set M frame cycles i at h a l e =
    let whole : length cycles ≡ at = l ∙ ap (λ (k : ℕ). k * M) (sym h) ∙ sym a in
    sym (take-length cycles) ∙ ap (λ (k : ℕ). take k cycles) whole ∙ e ∙ ap (cycles_of M) (ap (λ (k : ℕ). take k frame) h ∙ take-length frame)

-- ---- no symbol above 2

pub larger-second : (a b : ℕ) → a < b → leb b 2 ≡ (leb a 2 && leb b 2)
larger-second a b h = by-test (leb b 2) (λ y. let le = leb-true b 2 y in rw (y, le-leb a 2 (omega arith))) (λ n. by-test (leb a 2) (λ y. rw (n, y)) (λ m. rw (n, m)))

pub larger-first : (a b : ℕ) → b ≤ a → leb a 2 ≡ (leb a 2 && leb b 2)
larger-first a b h = by-test (leb a 2) (λ y. let le = leb-true a 2 y in rw (y, le-leb b 2 (omega arith))) (λ n. rw n)

pub larger-of : (a b m : ℕ) → m ≡ max a b → leb m 2 ≡ (leb a 2 && leb b 2)
larger-of a b m e = by-test (ltb a b) (λ y. let lt = ltb-true a b y in let is : m ≡ b = omega arith in rw is (larger-second a b lt)) (λ n. let le = ltb-false a b n in let is : m ≡ a = omega arith in rw is (larger-first a b le))

-- the largest so far, and the symbols that are left
pub unspoiled-start : (xs : List ℕ) → unspoiled xs ≡ (leb 0 2 && unspoiled (drop 0 xs))
unspoiled-start xs = refl

pub unspoiled-on : (xs : List ℕ) (i a b : ℕ) → i < length xs → leb b 2 ≡ (leb a 2 && leb (get_or xs i 0) 2) → unspoiled xs ≡ (leb a 2 && unspoiled (drop i xs)) → unspoiled xs ≡ (leb b 2 && unspoiled (drop (i + 1) xs))
unfolding unspoiled
unspoiled-on xs i a b h e u = u ∙ rw (drop-cons xs i 0 h, add-one i, e) (by-test (leb a 2) (λ y. rw y) (λ n. rw n))

pub unspoiled-end : (xs : List ℕ) (i a : ℕ) → length xs ≤ i → unspoiled xs ≡ (leb a 2 && unspoiled (drop i xs)) → leb a 2 ≡ unspoiled xs
unfolding unspoiled
unspoiled-end xs i a h u = sym (u ∙ rw (drop_of_length-le xs {i = i} h) (by-test (leb a 2) (λ y. rw y) (λ n. rw n)))

-- ---- the call, by its checks

module _ (f : Format) (M : ℕ) (frame lent : List ℕ) where
  pub encode-room : check_frame f M (length frame) (length lent) done ≡ done → (10 ≤ M) × (M ≤ 100) × (M % 10 ≡ 0) × (0 < length frame) × (length lent ≡ length frame * M)
  encode-room h =
      let c = (checked f M (length frame) (length lent) done h).0 in
      let some = size-positive f in
      let p = count-parts M c.count in
      (p.0, p.1, p.2, omega (arith, c.elements), c.all ∙ ap (λ (n : ℕ). n * M) (sym c.elements))

  pub encode-done : (new : List ℕ) → check_frame f M (length frame) (length lent) done ≡ done → unspoiled frame ≡ true → new ≡ cycles_of M frame → (done ≡ encode_of f M frame lent) × (new ≡ encode_leaves f M frame lent)
  unfolding encode_of encode_leaves
  encode-done new h u k =
      let e : encode_of f M frame lent ≡ done = checks-pass f M (length frame) (length lent) _ (checked f M (length frame) (length lent) done h).0 ∙ rw u in
      (sym e, k ∙ rw e)

  encode-leaves : (r : Refusal) → encode_of f M frame lent ≡ Err r → (Err r ≡ encode_of f M frame lent) × (lent ≡ encode_leaves f M frame lent)
  unfolding encode_leaves
  encode-leaves r e = (sym e, rw e)

  pub encode-spoiled : check_frame f M (length frame) (length lent) done ≡ done → unspoiled frame ≡ false → (Err UnknownSymbol ≡ encode_of f M frame lent) × (lent ≡ encode_leaves f M frame lent)
  unfolding encode_of
  encode-spoiled h u = encode-leaves UnknownSymbol (checks-pass f M (length frame) (length lent) _ (checked f M (length frame) (length lent) done h).0 ∙ rw u)

  pub encode-refused : (r : Refusal) → check_frame f M (length frame) (length lent) done ≡ Err r → (Err r ≡ encode_of f M frame lent) × (lent ≡ encode_leaves f M frame lent)
  unfolding encode_of
  encode-refused r h = encode-leaves r (checks-refuse f M (length frame) (length lent) _ r h)
