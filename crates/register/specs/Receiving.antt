-- What one symbol more makes of the register, and the frame in its words.
use Rattle.std.specs.Prelude.{◌≡◌, refl, cond, List, [], ◌∷◌, ℕ, zero, suc, ◌+◌, ◌*◌, ◌-◌, ◌/◌, ◌%◌, ◌^◌, ◌<◌, ◌≤◌, leb, eqb, take, drop, set}
use Rattle.std.proofs.Math.Path.{sym, ap}
use Rattle.std.proofs.Common.{◌∙◌, zero-add, length-set, get_or-set_same, get_or-set_other}
use native.Mathlib.Omega.{arith}
use Rattle.std.proofs.Math.Decide.{dec_lt}
use borrow.Author.Tests.{leb-true, leb-false}
use Rattle.std.proofs.Math.ListN.{get_or, length, length-drop}
use Rattle.std.proofs.Math.Seq.{ext_get_or, get_or-take, get_or-drop, length-take-le}
use Rattle.timecode.proofs.Laws.Runs.{length-tabulate, get_d_tabulate}
use Rattle.timecode.proofs.Laws.Tests.{by-test}
use Rattle.timecode.specs.Layout.{tabulate}
use Rattle.timecode.specs.declared.Format.{Format}
use Rattle.following.specs.Rows.{opens_frame}
use Rattle.register.specs.declared.Register.{Register}

unfoldable pub push_of : ℕ → ℕ → ℕ
push_of w s = w % 4611686018427387904 * 4 + s % 4

abbrev pub begun_of : ℕ → ℕ → ℕ → Register
begun_of newest count row = record { count = count; newest = newest; word0 = 0; word1 = 0; word2 = 0; row = row }

abbrev pub continued_of : Register → ℕ → ℕ → Register
continued_of h newest count = record { count = count; newest = newest; word0 = h.word0; word1 = h.word1; word2 = h.word2; row = h.row }

abbrev pub with_word_of : Register → ℕ → ℕ → Register
with_word_of h newest count =
    record {
      count = count;
      newest = newest;
      word0 = cond (eqb count 32) newest h.word0;
      word1 = cond (eqb count 64) newest h.word1;
      word2 = cond (eqb count 96) newest h.word2;
      row = h.row;
    }

unfoldable pub receive_of : Format → ℕ → Register → ℕ → Register
receive_of f n h s =
    cond (opens_frame f (h.newest % 4) s)
    (begun_of (push_of h.newest s) 1 (cond (eqb h.count n) h.row 0))
    (cond (eqb h.count 0)
    (continued_of h (push_of h.newest s) 0)
    (cond (leb n h.count)
    (begun_of (push_of h.newest s) 0 0)
    (cond (eqb ((h.count + 1) % 32) 0)
    (with_word_of h (push_of h.newest s) (h.count + 1))
    (continued_of h (push_of h.newest s) (h.count + 1)))))

-- symbol i of a word, from its oldest
abbrev pub symbol_in : ℕ → ℕ → ℕ
symbol_in w i = w / 2 ^ (62 - i * 2) % 4

abbrev pub word_at : Register → ℕ → ℕ
word_at h k = get_or (h.word0 ∷ h.word1 ∷ h.word2 ∷ []) k 0

-- element i of a frame of n: the last 32 stand in the newest word
unfoldable pub element_of : Register → ℕ → ℕ → ℕ
element_of h n i = cond (leb n (i + 32)) (symbol_in h.newest (i + 32 - n)) (symbol_in (word_at h (i / 32)) (i % 32))

unfoldable pub frame_of : Register → ℕ → List ℕ
frame_of h n = tabulate n 0 (element_of h n)

-- ---- 32 symbols put into lent memory

pub record SymbolsPut (word at : ℕ) (entry : List ℕ) (j : ℕ) (bytes : List ℕ) : Type 0 where
  pub long : length bytes ≡ length entry
  pub before : (k : ℕ) → k < at → get_or bytes k 0 ≡ get_or entry k 0
  pub stand : (i : ℕ) → i < j → get_or bytes (at + i) 0 ≡ symbol_in word i

pub symbols-start : (word at : ℕ) (entry : List ℕ) → SymbolsPut word at entry 0 entry
symbols-start word at entry = record { long = refl; before = λ k h. refl; stand = λ i h. let n : ⊥ = omega arith in absurd n }

pub symbols-turn : (word at : ℕ) (entry : List ℕ) (j : ℕ) (bytes : List ℕ) → at + j < length entry → SymbolsPut word at entry j bytes → SymbolsPut word at entry (j + 1) (set bytes (at + j) (symbol_in word j))
symbols-turn word at entry j bytes room s =
    record {
      long = length-set bytes (at + j) (symbol_in word j) ∙ s.long;
      before = λ k h. get_or-set_other bytes (at + j) k (symbol_in word j) 0 (λ e. omega arith) ∙ s.before k h;
      stand = λ i h. go i h (dec_lt i j);
    }
  where
    go : (i : ℕ) → i < j + 1 → Dec (i < j) → get_or (set bytes (at + j) (symbol_in word j)) (at + i) 0 ≡ symbol_in word i
    go i h (yes y) = get_or-set_other bytes (at + j) (at + i) (symbol_in word j) 0 (λ e. omega arith) ∙ s.stand i y
    go i h (no n) =
        let same : i ≡ j = omega arith in
        rw same (get_or-set_same bytes (at + j) (symbol_in word j) 0 (omega (arith, s.long)))

-- three words and the newest, one after another
module _ (h : Register) (n : ℕ) (most : n ≤ 100) (a b c d e : List ℕ) (long : length a ≡ 160)
    (first : SymbolsPut h.word0 32 a 32 b) (second : SymbolsPut h.word1 64 b 32 c) (third : SymbolsPut h.word2 96 c 32 d) (last : SymbolsPut h.newest n d 32 e) where
  in_words : (k i : ℕ) → k < 3 → i < 32 → 32 + (32 * k + i) < n → get_or e (32 + (32 * k + i)) 0 ≡ symbol_in (word_at h k) i
  in_words zero i u l m =
      let at : 32 + (32 * 0 + i) ≡ 32 + i = omega arith in
      rw at (last.before (32 + i) (omega arith) ∙ third.before (32 + i) (omega arith) ∙ second.before (32 + i) (omega arith) ∙ first.stand i l)
  in_words (suc zero) i u l m =
      let at : 32 + (32 * 1 + i) ≡ 64 + i = omega arith in
      rw at (last.before (64 + i) (omega arith) ∙ third.before (64 + i) (omega arith) ∙ second.stand i l)
  in_words (suc (suc zero)) i u l m =
      let at : 32 + (32 * 2 + i) ≡ 96 + i = omega arith in
      rw at (last.before (96 + i) (omega arith) ∙ third.stand i l)
  in_words (suc (suc (suc k))) i u l m = let z : ⊥ = omega arith in absurd z

  element-there : (i : ℕ) → i < n → get_or e (32 + i) 0 ≡ element_of h n i
  unfolding element_of
  element-there i l =
      by-test (leb n (i + 32))
      (λ y.
      let u = leb-true n (i + 32) y in
      let at : n + (i + 32 - n) ≡ 32 + i = omega arith in
      rw y (ap (λ (k : ℕ). get_or e k 0) (sym at) ∙ last.stand (i + 32 - n) (omega arith)))
      (λ m.
      let u = leb-false n (i + 32) m in
      let at : 32 + (32 * (i / 32) + i % 32) ≡ 32 + i = omega arith in
      rw m (ap (λ (k : ℕ). get_or e k 0) (sym at) ∙ in_words (i / 32) (i % 32) (omega arith) (omega arith) (omega arith)))

  pub frame-symbols-are : take n (drop 32 e) ≡ frame_of h n
  unfolding frame_of
  frame-symbols-are =
      let all : length (drop 32 e) ≡ 128 = length-drop 32 e ∙ omega (arith, first.long, second.long, third.long, last.long) in
      let front : length (take n (drop 32 e)) ≡ n = length-take-le n (drop 32 e) (omega arith) in
      ext_get_or 0 (take n (drop 32 e)) (tabulate n 0 (element_of h n)) (front ∙ sym (length-tabulate n 0 (element_of h n)))
      (λ i m.
      let l : i < n = rw front at m in
      get_or-take n (drop 32 e) i 0 l ∙ get_or-drop 32 e i 0 ∙ element-there i l ∙ sym (get_d_tabulate n 0 (element_of h n) 0 i l ∙ ap (element_of h n) (zero-add i)))
