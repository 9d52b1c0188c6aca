-- Several symbols into the register: those of a frame under way, those outside a frame, and openings before a frame is whole.
use Rattle.std.specs.Prelude.{◌≡◌, refl, true, false, cond, List, [], ◌∷◌, ◌++◌, ℕ, suc, ◌+◌, ◌*◌, ◌-◌, ◌/◌, ◌%◌, ◌^◌, ◌<◌, ◌≤◌, leb, eqb, get_or, length, take, drop}
use Rattle.std.proofs.Common.{sym, ap, ap₂, ◌∙◌, add-zero, add-one, arith, leb-true, leb-false, eq-eqb, ne_eqb, length-drop, pow-add, pow_pos, drop-cons, length-take-le, take-add, drop-drop, get_or-take, get_or-drop}
use Rattle.std.proofs.Math.Nat.{mod-one}
use Rattle.std.proofs.lemmas.Bool.{lt-leb}
use Rattle.std.proofs.Math.Arith.{digits_div, digits_mod, mod-mul}
use Rattle.std.proofs.Math.Pow.{mod-mod-pow}
use Rattle.timecode.proofs.Laws.Tests.{by-test}
use Rattle.timecode.specs.declared.Format.{Format}
use Rattle.following.specs.Rows.{opens_frame}
use Rattle.register.specs.Receiving.{push_of, continued_of, with_word_of, begun_of, receive_of}
use Rattle.register.specs.Contents.{pushed-low, receive-newest}
use Rattle.register.specs.declared.Register.{Register}

-- the symbols of a list from index i up to index k
abbrev pub slice : List ℕ → ℕ → ℕ → List ℕ
slice ss i k = take (k - i) (drop i ss)

unfoldable pub push_all : ℕ → List ℕ → ℕ
push_all w [] = w
push_all w (x ∷ xs) = push_all (push_of w x) xs

unfoldable pub receive_all : Format → ℕ → Register → List ℕ → Register
receive_all f n h [] = h
receive_all f n h (x ∷ xs) = receive_all f n (receive_of f n h x) xs

-- the frame has `count` symbols, and a word that is full then is copied
unfoldable pub joined_of : Register → ℕ → ℕ → Register
joined_of h newest count = cond (eqb (count % 32) 0) (with_word_of h newest count) (continued_of h newest count)

unfoldable pub join_all : Register → List ℕ → Register
join_all h [] = h
join_all h (x ∷ xs) = join_all (joined_of h (push_of h.newest x) (h.count + 1)) xs

-- each symbol is 0 to 3
abbrev pub AllSymbols : List ℕ → Type 0
AllSymbols xs = (j : ℕ) → j < length xs → get_or xs j 0 ≤ 3

-- none begins a frame, the first of them directly after `last`
abbrev pub NoneOpens : Format → ℕ → List ℕ → Type 0
NoneOpens f last xs = (j : ℕ) → j < length xs → opens_frame f (get_or (last ∷ xs) j 0) (get_or xs j 0) ≡ false

symbols-tail : (x : ℕ) (xs : List ℕ) → AllSymbols (x ∷ xs) → AllSymbols xs
symbols-tail x xs s j b = s (suc j) (omega arith)

none-opens-tail : (f : Format) (last x : ℕ) (xs : List ℕ) → NoneOpens f last (x ∷ xs) → NoneOpens f x xs
none-opens-tail f last x xs c j b = c (suc j) (omega arith)

-- ---- the newest word

pub push-all-append : (w : ℕ) (xs ys : List ℕ) → push_all w (xs ++ ys) ≡ push_all (push_all w xs) ys
unfolding push_all
push-all-append w [] ys = refl
push-all-append w (x ∷ xs) ys = push-all-append (push_of w x) xs ys

-- ---- joined to a frame

pub joined-newest : (h : Register) (w c : ℕ) → (joined_of h w c).newest ≡ w
unfolding joined_of
joined-newest h w c = by-test (eqb (c % 32) 0) (λ y. rw y) (λ n. rw n)

pub joined-count : (h : Register) (w c : ℕ) → (joined_of h w c).count ≡ c
unfolding joined_of
joined-count h w c = by-test (eqb (c % 32) 0) (λ y. rw y) (λ n. rw n)

pub join-append : (h : Register) (xs ys : List ℕ) → join_all h (xs ++ ys) ≡ join_all (join_all h xs) ys
unfolding join_all
join-append h [] ys = refl
join-append h (x ∷ xs) ys = join-append (joined_of h (push_of h.newest x) (h.count + 1)) xs ys

-- Up to the next multiple of 32 only the newest word changes, and it is copied there.
pub join-word : (h : Register) (x : ℕ) (xs : List ℕ) → h.count % 32 + length (x ∷ xs) ≤ 32 → join_all h (x ∷ xs) ≡ joined_of h (push_all h.newest (x ∷ xs)) (h.count + length (x ∷ xs))
unfolding join_all push_all joined_of
join-word h x [] b = refl
join-word h x (y ∷ ys) b =
    let other : (h.count + 1) % 32 ≡ 0 → ⊥ = λ e. omega arith in
    let next = continued_of h (push_of h.newest x) (h.count + 1) in
    let on : h.count + 1 + suc (length ys) ≡ h.count + suc (suc (length ys)) = omega arith in
    rw (ne_eqb ((h.count + 1) % 32) 0 other) (
    join-word next y ys (omega arith) ∙ rw on)

pub join-all-count : (h : Register) (xs : List ℕ) → (join_all h xs).count ≡ h.count + length xs
unfolding join_all
join-all-count h [] = sym (add-zero h.count)
join-all-count h (x ∷ xs) = join-all-count (joined_of h (push_of h.newest x) (h.count + 1)) xs ∙ rw (joined-count h (push_of h.newest x) (h.count + 1)) (omega arith)

-- ---- a list of which no symbol begins a frame

pub receive-joins : (f : Format) (n : ℕ) (h : Register) (s : ℕ) → opens_frame f (h.newest % 4) s ≡ false → 1 ≤ h.count → h.count < n → receive_of f n h s ≡ joined_of h (push_of h.newest s) (h.count + 1)
unfolding receive_of joined_of
receive-joins f n h s y some b =
    let no : h.count ≡ 0 → ⊥ = λ e. omega arith in
    rw (y, ne_eqb h.count 0 no, lt-leb n h.count b)

pub receive-outside-frame : (f : Format) (n : ℕ) (h : Register) (s : ℕ) → opens_frame f (h.newest % 4) s ≡ false → h.count ≡ 0 → receive_of f n h s ≡ continued_of h (push_of h.newest s) 0
unfolding receive_of
receive-outside-frame f n h s y e = rw (y, eq-eqb h.count 0 e)

-- inside a frame
pub inside_is : (f : Format) (n : ℕ) (h : Register) (xs : List ℕ) → AllSymbols xs → NoneOpens f (h.newest % 4) xs → 1 ≤ h.count → h.count + length xs ≤ n → receive_all f n h xs ≡ join_all h xs
unfolding receive_all join_all
inside_is f n h [] s c some b = refl
inside_is f n h (x ∷ xs) s c some b =
    let next = joined_of h (push_of h.newest x) (h.count + 1) in
    let count : next.count ≡ h.count + 1 = joined-count h (push_of h.newest x) (h.count + 1) in
    let low : next.newest % 4 ≡ x = ap (λ (w : ℕ). w % 4) (joined-newest h (push_of h.newest x) (h.count + 1)) ∙ pushed-low h.newest x (s 0 (omega arith)) in
    ap (λ (k : Register). receive_all f n k xs) (receive-joins f n h x (c 0 (omega arith)) some (omega arith))
    ∙ inside_is f n next xs (symbols-tail x xs s) (rw low (none-opens-tail f (h.newest % 4) x xs c)) (omega arith) (omega arith)

-- outside a frame
pub outside-is : (f : Format) (n : ℕ) (h : Register) (xs : List ℕ) → AllSymbols xs → NoneOpens f (h.newest % 4) xs → h.count ≡ 0 → receive_all f n h xs ≡ continued_of h (push_all h.newest xs) 0
unfolding receive_all push_all
outside-is f n h [] s c e =
    let same : record { count = h.count; newest = h.newest; word0 = h.word0; word1 = h.word1; word2 = h.word2; row = h.row } ≡ continued_of h h.newest 0 = rw e in
    same
outside-is f n h (x ∷ xs) s c e =
    let next = continued_of h (push_of h.newest x) 0 in
    let low : next.newest % 4 ≡ x = pushed-low h.newest x (s 0 (omega arith)) in
    ap (λ (k : Register). receive_all f n k xs) (receive-outside-frame f n h x (c 0 (omega arith)) e)
    ∙ outside-is f n next xs (symbols-tail x xs s) (rw low (none-opens-tail f (h.newest % 4) x xs c)) refl

-- no frame is whole before the last symbol
abbrev pub NotWholeBefore : Format → ℕ → Register → List ℕ → Type 0
NotWholeBefore f n h [] = Unit {0}
NotWholeBefore f n h (x ∷ []) = Unit {0}
NotWholeBefore f n h (x ∷ (y ∷ ys)) = ((receive_of f n h x).count ≡ n → ⊥) × NotWholeBefore f n (receive_of f n h x) (y ∷ ys)

pub inside-not-whole : (f : Format) (n : ℕ) (h : Register) (xs : List ℕ) → AllSymbols xs → NoneOpens f (h.newest % 4) xs → 1 ≤ h.count → h.count + length xs ≤ n → NotWholeBefore f n h xs
inside-not-whole f n h [] s c some b = tt
inside-not-whole f n h (x ∷ []) s c some b = tt
inside-not-whole f n h (x ∷ (y ∷ ys)) s c some b =
    let next = joined_of h (push_of h.newest x) (h.count + 1) in
    let count : next.count ≡ h.count + 1 = joined-count h (push_of h.newest x) (h.count + 1) in
    let low : next.newest % 4 ≡ x = ap (λ (w : ℕ). w % 4) (joined-newest h (push_of h.newest x) (h.count + 1)) ∙ pushed-low h.newest x (s 0 (omega arith)) in
    rw (receive-joins f n h x (c 0 (omega arith)) some (omega arith))
    ((λ e. omega arith), inside-not-whole f n next (y ∷ ys) (symbols-tail x (y ∷ ys) s) (rw low (none-opens-tail f (h.newest % 4) x (y ∷ ys) c)) (omega arith) (omega arith))

pub outside-not-whole : (f : Format) (n : ℕ) (h : Register) (xs : List ℕ) → 1 ≤ n → AllSymbols xs → NoneOpens f (h.newest % 4) xs → h.count ≡ 0 → NotWholeBefore f n h xs
outside-not-whole f n h [] some s c e = tt
outside-not-whole f n h (x ∷ []) some s c e = tt
outside-not-whole f n h (x ∷ (y ∷ ys)) some s c e =
    let next = continued_of h (push_of h.newest x) 0 in
    let low : next.newest % 4 ≡ x = pushed-low h.newest x (s 0 (omega arith)) in
    rw (receive-outside-frame f n h x (c 0 (omega arith)) e)
    ((λ z. omega arith), outside-not-whole f n next (y ∷ ys) some (symbols-tail x (y ∷ ys) s) (rw low (none-opens-tail f (h.newest % 4) x (y ∷ ys) c)) refl)

-- ---- by index in a list

-- those before an index are 0 to 3
abbrev pub SymbolsBelow : List ℕ → ℕ → Type 0
SymbolsBelow ss to = (j : ℕ) → j < to → get_or ss j 0 ≤ 3

pub length-slice : (ss : List ℕ) (i k : ℕ) → i ≤ k → k ≤ length ss → length (slice ss i k) ≡ k - i
length-slice ss i k a b = length-take-le (k - i) (drop i ss) (omega (arith, length-drop i ss))

pub slice_at : (ss : List ℕ) (i k j : ℕ) → j < k - i → get_or (slice ss i k) j 0 ≡ get_or ss (i + j) 0
slice_at ss i k j h = get_or-take (k - i) (drop i ss) j 0 h ∙ get_or-drop i ss j 0

pub slice-none : (ss : List ℕ) (i : ℕ) → slice ss i i ≡ []
slice-none ss i = let none : i - i ≡ 0 = omega arith in rw none

pub slice-cons : (ss : List ℕ) (i k : ℕ) → i < k → k ≤ length ss → slice ss i k ≡ get_or ss i 0 ∷ slice ss (i + 1) k
slice-cons ss i k a b =
    let one : k - i ≡ suc (k - (i + 1)) = omega arith in
    rw (one, drop-cons ss i 0 (omega arith), add-one i)

pub slice-join : (ss : List ℕ) (i m k : ℕ) → i ≤ m → m ≤ k → slice ss i k ≡ slice ss i m ++ slice ss m k
slice-join ss i m k a b =
    let sum : k - i ≡ (m - i) + (k - m) = omega arith in
    let there : i + (m - i) ≡ m = omega arith in
    rw sum (take-add (m - i) (k - m) (drop i ss) ∙ ap (λ (xs : List ℕ). slice ss i m ++ take (k - m) xs) (drop-drop (m - i) i ss ∙ ap (λ (d : ℕ). drop d ss) there))

-- ---- four symbols at a time

-- Four symbols far apart in a product: the byte from bit 24 on has each of them once.
pub four-product : (a b c d : ℕ) → a < 4 → b < 4 → c < 4 → d < 4 → (a + b * 256 + c * 65536 + d * 16777216) * 1074791425 / 16777216 % 256 ≡ a * 64 + b * 16 + c * 4 + d
four-product a b c d ha hb hc hd =
    let high = b * 64 + c * 16400 + d * 4198404 in
    let byte = a * 64 + b * 16 + c * 4 + d in
    let low = a * 1049601 + b * 262400 + c * 65536 in
    let parts : (a + b * 256 + c * 65536 + d * 16777216) * 1074791425 ≡ (high * 256 + byte) * 16777216 + low = omega arith in
    ap (λ (x : ℕ). x / 16777216 % 256) parts ∙ ap (λ (x : ℕ). x % 256) (digits_div (high * 256 + byte) (omega arith)) ∙ digits_mod high (omega arith)

push-under : (w a : ℕ) → a ≤ 3 → push_of w a % 4611686018427387904 ≡ w % 1152921504606846976 * 4 + a
unfolding push_of
push-under w a h = omega arith

push-plain : (v s : ℕ) → s ≤ 3 → push_of v s ≡ v % 4611686018427387904 * 4 + s
unfolding push_of
push-plain v s h = omega arith

push-two : (w a b : ℕ) → a ≤ 3 → b ≤ 3 → push_of (push_of w a) b ≡ w % 1152921504606846976 * 16 + (a * 4 + b)
push-two w a b ha hb = push-plain (push_of w a) b hb ∙ ap (λ (x : ℕ). x * 4 + b) (push-under w a ha) ∙ omega arith

pub push-four : (w a b c d low : ℕ) → a ≤ 3 → b ≤ 3 → c ≤ 3 → d ≤ 3 → low ≡ a * 64 + b * 16 + c * 4 + d → w % 72057594037927936 * 256 + low ≡ push_of (push_of (push_of (push_of w a) b) c) d
push-four w a b c d low ha hb hc hd e =
    let two = push-two w a b ha hb in
    let under : push_of (push_of w a) b % 1152921504606846976 ≡ w % 72057594037927936 * 16 + (a * 4 + b) = rw two (omega arith) in
    sym (push-two (push_of (push_of w a) b) c d hc hd ∙ ap (λ (x : ℕ). x * 16 + (c * 4 + d)) under ∙ omega arith)

pub push-all-turn : (w : ℕ) (ss : List ℕ) (i to : ℕ) → i < to → to ≤ length ss → push_all w (slice ss i to) ≡ push_all (push_of w (get_or ss i 0)) (slice ss (i + 1) to)
unfolding push_all
push-all-turn w ss i to a b = rw (slice-cons ss i to a b)

pub push-all-four : (w : ℕ) (ss : List ℕ) (i to : ℕ) → i + 4 ≤ to → to ≤ length ss → push_all w (slice ss i to) ≡ push_all (push_of (push_of (push_of (push_of w (get_or ss i 0)) (get_or ss (i + 1) 0)) (get_or ss (i + 2) 0)) (get_or ss (i + 3) 0)) (slice ss (i + 4) to)
push-all-four w ss i to a b =
    let two : i + 1 + 1 ≡ i + 2 = omega arith in
    let three : i + 2 + 1 ≡ i + 3 = omega arith in
    let four : i + 3 + 1 ≡ i + 4 = omega arith in
    let v = push_of (push_of w (get_or ss i 0)) (get_or ss (i + 1) 0) in
    let first = rw two at (push-all-turn (push_of w (get_or ss i 0)) ss (i + 1) to (omega arith) b) in
    let second = rw three at (push-all-turn v ss (i + 2) to (omega arith) b) in
    let third = rw four at (push-all-turn (push_of v (get_or ss (i + 2) 0)) ss (i + 3) to (omega arith) b) in
    push-all-turn w ss i to (omega arith) b ∙ first ∙ second ∙ third

pub push-all-none : (w : ℕ) (ss : List ℕ) (i : ℕ) → push_all w (slice ss i i) ≡ w
unfolding push_all
push-all-none w ss i = rw (slice-none ss i)

-- ---- a word has its last 32 symbols alone

push-low : (m w s : ℕ) → m ≤ 31 → push_of w s % 2 ^ ((m + 1) * 2) ≡ w % 2 ^ (m * 2) * 4 + s % 4
unfolding push_of
push-low m w s b =
    let twice : (m + 1) * 2 ≡ m * 2 + 2 = omega arith in
    let above : 62 - m * 2 + m * 2 ≡ 62 = omega arith in
    let one : s % 4 < 4 = omega arith in
    ap (λ (k : ℕ). (w % 4611686018427387904 * 4 + s % 4) % k) (ap (λ (k : ℕ). 2 ^ k) twice ∙ pow-add 2 (m * 2) 2)
    ∙ mod-mul (w % 4611686018427387904 * 4 + s % 4) {m = 2 ^ (m * 2)} {c = 4} (pow_pos (m * 2)) (omega arith)
    ∙ ap₂ (λ (q c : ℕ). q % 2 ^ (m * 2) * 4 + c) (digits_div (w % 4611686018427387904) one) (digits_mod (w % 4611686018427387904) one)
    ∙ ap (λ (k : ℕ). w % 2 ^ k % 2 ^ (m * 2) * 4 + s % 4) (sym above)
    ∙ ap (λ (q : ℕ). q * 4 + s % 4) (mod-mod-pow w (62 - m * 2) (m * 2))

push-same : (m w v s : ℕ) → m ≡ 31 → w % 2 ^ (m * 2) ≡ v % 2 ^ (m * 2) → push_of w s ≡ push_of v s
unfolding push_of
push-same m w v s is e = let same : w % 4611686018427387904 ≡ v % 4611686018427387904 = rw is at e in ap (λ (q : ℕ). q * 4 + s % 4) same

last-same : (m w v x : ℕ) (xs : List ℕ) → m ≤ 31 → 31 ≤ m + length xs → w % 2 ^ (m * 2) ≡ v % 2 ^ (m * 2) → push_all w (x ∷ xs) ≡ push_all v (x ∷ xs)
unfolding push_all
last-same m w v x [] b l e = push-same m w v x (omega arith) e
last-same m w v x (y ∷ ys) b l e =
    by-test (leb 31 m)
    (λ t. let u = leb-true 31 m t in ap (λ (q : ℕ). push_all q (y ∷ ys)) (push-same m w v x (omega arith) e))
    (λ t. let u = leb-false 31 m t in last-same (m + 1) (push_of w x) (push_of v x) y ys (omega arith) (omega arith) (push-low m w x b ∙ ap (λ (q : ℕ). q * 4 + x % 4) e ∙ sym (push-low m v x b)))

-- what the word was before 32 symbols is of no account
pub push-last : (w v : ℕ) (xs : List ℕ) → 32 ≤ length xs → push_all w xs ≡ push_all v xs
push-last w v [] l = let z : ⊥ = omega arith in absurd z
push-last w v (x ∷ xs) l = last-same 0 w v x xs (omega arith) (omega arith) (mod-one w ∙ sym (mod-one v))

pub push-late : (w : ℕ) (ss : List ℕ) (from start to : ℕ) → from ≤ start → start + 32 ≤ to → to ≤ length ss → push_all w (slice ss from to) ≡ push_all w (slice ss start to)
push-late w ss from start to a b l =
    ap (push_all w) (slice-join ss from start to a (omega arith))
    ∙ push-all-append w (slice ss from start) (slice ss start to)
    ∙ push-last (push_all w (slice ss from start)) w (slice ss start to) (rw (length-slice ss start to (omega arith) l) (omega arith))

-- up to 32 symbols of a frame
pub join-turn : (h : Register) (ss : List ℕ) (i m to newest : ℕ) → i < m → m ≤ to → to ≤ length ss → h.count % 32 + (m - i) ≤ 32 → newest ≡ push_all h.newest (slice ss i m)
    → join_all h (slice ss i to) ≡ join_all (joined_of h newest (h.count + (m - i))) (slice ss m to)
join-turn h ss i m to newest a b c room e =
    let first = slice-cons ss i m a (omega arith) in
    let long : length (get_or ss i 0 ∷ slice ss (i + 1) m) ≡ m - i = ap length (sym first) ∙ length-slice ss i m (omega arith) (omega arith) in
    let chunked = join-word h (get_or ss i 0) (slice ss (i + 1) m) (omega arith) in
    ap (join_all h) (slice-join ss i m to (omega arith) b)
    ∙ join-append h (slice ss i m) (slice ss m to)
    ∙ ap (λ (k : Register). join_all k (slice ss m to)) (ap (join_all h) first ∙ chunked ∙ rw (long, ← first, ← e))

pub join-none : (h : Register) (ss : List ℕ) (i : ℕ) → join_all h (slice ss i i) ≡ h
unfolding join_all
join-none h ss i = rw (slice-none ss i)

pub push-all-end : (w : ℕ) (ss : List ℕ) (i to : ℕ) → i ≡ to → push_all w (slice ss i to) ≡ w
push-all-end w ss i to e = rw e (push-all-none w ss to)

pub join-end : (h : Register) (ss : List ℕ) (i to : ℕ) → i ≡ to → join_all h (slice ss i to) ≡ h
join-end h ss i to e = rw e (join-none h ss to)

pub join_step : (h : Register) (ss : List ℕ) (i more to newest : ℕ) → 1 ≤ more → i + more ≤ to → to ≤ length ss → h.count % 32 + more ≤ 32 → newest ≡ push_all h.newest (slice ss i (i + more))
    → join_all h (slice ss i to) ≡ join_all (joined_of h newest (h.count + more)) (slice ss (i + more) to)
join_step h ss i more to newest a b c room e =
    let one : i + more - i ≡ more = omega arith in
    rw one at (join-turn h ss i (i + more) to newest (omega arith) b c (omega arith) e)

-- ---- openings: a frame begins with the last of them

pub receive-append : (f : Format) (n : ℕ) (h : Register) (xs ys : List ℕ) → receive_all f n h (xs ++ ys) ≡ receive_all f n (receive_all f n h xs) ys
unfolding receive_all
receive-append f n h [] ys = refl
receive-append f n h (x ∷ xs) ys = receive-append f n (receive_of f n h x) xs ys

pub received-newest : (f : Format) (n : ℕ) (h : Register) (xs : List ℕ) → (receive_all f n h xs).newest ≡ push_all h.newest xs
unfolding receive_all push_all
received-newest f n h [] = refl
received-newest f n h (x ∷ xs) = received-newest f n (receive_of f n h x) xs ∙ ap (λ (w : ℕ). push_all w xs) (receive-newest f n h x)

pub receive-opens : (f : Format) (n : ℕ) (h : Register) (s : ℕ) → opens_frame f (h.newest % 4) s ≡ true → (h.count ≡ n → ⊥) → receive_of f n h s ≡ begun_of (push_of h.newest s) 1 0
unfolding receive_of
receive-opens f n h s y other = rw (y, ne_eqb h.count n other)

-- a frame has one symbol more at most
receive-count : (f : Format) (n : ℕ) (h : Register) (s : ℕ) → (receive_of f n h s).count ≤ h.count + 1
unfolding receive_of
receive-count f n h s =
    by-test (opens_frame f (h.newest % 4) s)
    (λ y. rw y (omega arith))
    (λ y.
    by-test (eqb h.count 0)
    (λ e. rw (y, e) (omega arith))
    (λ e.
    by-test (leb n h.count)
    (λ l. rw (y, e, l) (omega arith))
    (λ l. by-test (eqb ((h.count + 1) % 32) 0) (λ z. rw (y, e, l, z) (omega arith)) (λ z. rw (y, e, l, z) (omega arith)))))

-- no frame is whole after any of the symbols
abbrev pub NeverWhole : Format → ℕ → Register → List ℕ → Type 0
NeverWhole f n h [] = Unit {0}
NeverWhole f n h (x ∷ xs) = ((receive_of f n h x).count ≡ n → ⊥) × NeverWhole f n (receive_of f n h x) xs

pub never-before : (f : Format) (n : ℕ) (h : Register) (xs : List ℕ) → NeverWhole f n h xs → NotWholeBefore f n h xs
never-before f n h [] a = tt
never-before f n h (x ∷ []) a = tt
never-before f n h (x ∷ (y ∷ ys)) a = (a.0, never-before f n (receive_of f n h x) (y ∷ ys) a.1)

pub never-append : (f : Format) (n : ℕ) (h : Register) (xs ys : List ℕ) → NeverWhole f n h xs → NeverWhole f n (receive_all f n h xs) ys → NeverWhole f n h (xs ++ ys)
unfolding receive_all
never-append f n h [] ys a b = b
never-append f n h (x ∷ xs) ys a b = (a.0, never-append f n (receive_of f n h x) xs ys a.1 b)

-- fewer symbols than the frame has left
pub short-never : (f : Format) (n : ℕ) (h : Register) (xs : List ℕ) → h.count + length xs < n → NeverWhole f n h xs
short-never f n h [] b = tt
short-never f n h (x ∷ xs) b = let one = receive-count f n h x in ((λ e. omega (arith, one)), short-never f n (receive_of f n h x) xs (omega (arith, one)))

pub short-count : (f : Format) (n : ℕ) (h : Register) (xs : List ℕ) → h.count + length xs < n → (receive_all f n h xs).count < n
unfolding receive_all
short-count f n h [] b = omega arith
short-count f n h (x ∷ xs) b = let one = receive-count f n h x in short-count f n (receive_of f n h x) xs (omega (arith, one))

pub slice-last : (ss : List ℕ) (i k : ℕ) → i ≤ k → k < length ss → slice ss i (k + 1) ≡ slice ss i k ++ (get_or ss k 0 ∷ [])
slice-last ss i k a b =
    let one : slice ss k (k + 1) ≡ get_or ss k 0 ∷ [] = slice-cons ss k (k + 1) (omega arith) (omega arith) ∙ ap (λ (xs : List ℕ). get_or ss k 0 ∷ xs) (slice-none ss (k + 1)) in
    slice-join ss i k (k + 1) a (omega arith) ∙ ap (λ (xs : List ℕ). slice ss i k ++ xs) one

pub push-all-last : (w : ℕ) (ss : List ℕ) (i k : ℕ) → i ≤ k → k < length ss → push_all w (slice ss i (k + 1)) ≡ push_of (push_all w (slice ss i k)) (get_or ss k 0)
unfolding push_all
push-all-last w ss i k a b = ap (push_all w) (slice-last ss i k a b) ∙ push-all-append w (slice ss i k) (get_or ss k 0 ∷ [])

-- the symbol pushed last is the lowest of the word
pub push-all-low : (w : ℕ) (ss : List ℕ) (i k : ℕ) → i < k → k ≤ length ss → get_or ss (k - 1) 0 ≤ 3 → push_all w (slice ss i k) % 4 ≡ get_or ss (k - 1) 0
push-all-low w ss i k a b s =
    let there : k - 1 + 1 ≡ k = omega arith in
    let last : push_all w (slice ss i k) ≡ push_of (push_all w (slice ss i (k - 1))) (get_or ss (k - 1) 0) = ap (λ (m : ℕ). push_all w (slice ss i m)) (sym there) ∙ push-all-last w ss i (k - 1) (omega arith) (omega arith) in
    ap (λ (v : ℕ). v % 4) last ∙ pushed-low (push_all w (slice ss i (k - 1))) (get_or ss (k - 1) 0) s
