-- A calendar's words after adding: the words of the calendar that adding gives.
use Rattle.std.specs.Prelude.{◌≡◌, List, [], ◌∷◌, ◌++◌, ℕ, zero, suc, ◌+◌, ◌<◌, get_or, length, take, drop, set, Err}
use Rattle.std.proofs.Math.Path.{refl, sym, ap}
use Rattle.std.proofs.Common.{◌∙◌, arith, length-drop, length-set, take-append-drop, take_all, length-take-le}
use Rattle.timecode.specs.Answers.{refusal_number}
use Rattle.timecode.specs.declared.Refusal.{Refusal}
use Rattle.calendar.proofs.Adding.{refused-stays}
use Rattle.calendar.specs.Windows.{window_of, add_answer, add_of, keyed_by, keys}
use Rattle.calendar.specs.declared.Added.{Added}
use Rattle.calendar.specs.declared.DateTime.{DateTime}
use Rattle.ffi.specs.Structs.{write_result_of}
use Rattle.ffi.specs.declared.WriteResult.{WriteResult}
use Rattle.windows.specs.Ways.{booked, add-taken, add-refused}
use Rattle.calendar_words.specs.CalendarStructs.{calendar_in, words_of}

set_first : (xs ys : List ℕ) (i a : ℕ) → i < length xs → set (xs ++ ys) i a ≡ set xs i a ++ ys
set_first [] ys i a h = absurd (omega arith)
set_first (x ∷ xs) ys zero a h = refl
set_first (x ∷ xs) ys (suc i) a h = ap (λ (zs : List ℕ). x ∷ zs) (set_first xs ys i a (omega arith))

set-second : (xs ys : List ℕ) (i k a : ℕ) → k ≡ length xs + i → set (xs ++ ys) k a ≡ xs ++ set ys i a
set-second [] ys i k a h = let e : k ≡ i = omega arith in rw e
set-second (x ∷ xs) ys i zero a h = absurd (omega arith)
set-second (x ∷ xs) ys i (suc k) a h = ap (λ (zs : List ℕ). x ∷ zs) (set-second xs ys i k a (omega arith))

-- a place in the words after one was set
pub in_one : (words : List ℕ) (i a k : ℕ) → length words ≡ 65 → k < 65 → k < length (set words i a)
in_one words i a k h small = rw (length-set words i a) (omega arith)

-- the words behind the first are the starts and the ends
halves : (rest : List ℕ) → length rest ≡ 64 → take 32 rest ++ take 32 (drop 32 rest) ≡ rest
halves rest h =
    let all : take 32 (drop 32 rest) ≡ drop 32 rest = take_all 32 (drop 32 rest) (omega (arith, length-drop 32 rest)) in
    rw all (take-append-drop 32 rest)

pub words_back : (words : List ℕ) → length words ≡ 65 → words_of (calendar_in words) ≡ words
unfolding words_of calendar_in
words_back [] h = absurd (omega arith)
words_back (w ∷ rest) h = ap (λ (zs : List ℕ). w ∷ zs) (halves rest (omega arith))

behind : (rest : List ℕ) (n start end : ℕ) → length rest ≡ 64 → n < 32 → set (set rest n start) (32 + n) end ≡ set (take 32 rest) n start ++ set (take 32 (drop 32 rest)) n end
behind rest n start end h room =
    let first = take 32 rest in
    let second = take 32 (drop 32 rest) in
    let long : length first ≡ 32 = length-take-le 32 rest (omega arith) in
    let one : set rest n start ≡ set first n start ++ second = ap (λ (zs : List ℕ). set zs n start) (sym (halves rest h)) ∙ set_first first second n start (omega arith) in
    ap (λ (zs : List ℕ). set zs (32 + n) end) one ∙ set-second (set first n start) second n (32 + n) end (omega (arith, length-set first n start))

words-added : (words : List ℕ) (n start end : ℕ) → length words ≡ 65 → n < 32 → set (set (set words (1 + n) start) (33 + n) end) 0 (n + 1) ≡ (n + 1) ∷ (set (take 32 (drop 1 words)) n start ++ set (take 32 (drop 33 words)) n end)
words-added [] n start end h room = absurd (omega arith)
words-added (w ∷ rest) n start end h room =
    let first : 1 + n ≡ suc n = omega arith in
    let second : 33 + n ≡ suc (32 + n) = omega arith in
    rw (first, second) (ap (λ (zs : List ℕ). (n + 1) ∷ zs) (behind rest n start end (omega arith) room))

-- ---- the two ways out of adding

module _ (words : List ℕ) (s e : DateTime) (long : length words ≡ 65) where
  pub taken : (start end : ℕ) → keys start end ≡ keyed_by (add_answer (get_or words 0 0) s e) (window_of s e) → (◌≡◌ {A = WriteResult} (record { number = 0 }) (write_result_of (add_of (calendar_in words) s e).answer)) × (set (set (set words (1 + get_or words 0 0) start) (33 + get_or words 0 0) end) 0 (get_or words 0 0 + 1) ≡ words_of (add_of (calendar_in words) s e).calendar)
  unfolding calendar_in words_of
  taken start end h =
      let added = add-taken (calendar_in words) _ s e start end h refl in
      (ap (λ (a : Added). write_result_of a.answer) added, words-added words (get_or words 0 0) start end long (booked (get_or words 0 0) s e start end h).room ∙ ap (λ (a : Added). words_of a.calendar) added)

  pub refused : (x : Refusal) → Err x ≡ keyed_by (add_answer (get_or words 0 0) s e) (window_of s e) → (◌≡◌ {A = WriteResult} (record { number = refusal_number x }) (write_result_of (add_of (calendar_in words) s e).answer)) × (words ≡ words_of (add_of (calendar_in words) s e).calendar)
  unfolding calendar_in
  refused x h =
      let added = add-refused (calendar_in words) s e x h in
      (ap (λ (a : Added). write_result_of a.answer) added, sym (words_back words long) ∙ ap (λ (a : Added). words_of a.calendar) added)

-- A refused add leaves the caller's words.
pub refused-add-leaves : (words : List ℕ) (s e : DateTime) (x : Refusal) → length words ≡ 65 → (add_of (calendar_in words) s e).answer ≡ Err x → words_of (add_of (calendar_in words) s e).calendar ≡ words
refused-add-leaves words s e x long h = ap words_of (refused-stays (calendar_in words) s e x h) ∙ words_back words long
