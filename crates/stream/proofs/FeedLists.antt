-- Lists of Feeds: one list after the other, the answer to one of them by its index, and what a valid reader refuses.
use Rattle.std.specs.Prelude.{◌≡◌, refl, true, ◌&&◌, List, [], ◌∷◌, ◌++◌, ℕ, zero, suc, ◌+◌, ◌%◌, ◌<◌, leb, ltb, eqb, get_or, length, take}
use Rattle.std.proofs.Common.{sym, ap, ◌∙◌, not-suc-le-zero, mod-lt, arith, lt-ltb, leb-false}
use Rattle.std.proofs.lemmas.Bool.{lt-leb}
use Rattle.timecode.specs.Formats.{is_symbol, known, size}
use Rattle.timecode.proofs.Laws.Checks.{refused-no-report}
use Rattle.timecode.proofs.Laws.Marks.{size-positive}
use Rattle.timecode.proofs.Laws.Tests.{by-test, and_left}
use Rattle.timecode.specs.Stream.{is_setting}
use Rattle.timecode.specs.declared.Answer.{Answer}
use Rattle.timecode.specs.declared.Answer.TheVariants.{Quiet}
use Rattle.timecode.specs.declared.Refusal.TheVariants.{UnknownSymbol}
use Rattle.timecode.specs.declared.Refusal.{Refusal}
use Rattle.stream.specs.Feeding.{is_valid, next_of, answer_after, answer_of, feed_of}
use Rattle.stream.specs.Refinement.{answers, reader_after}
use Rattle.stream.proofs.Refinement.{symbol-leaves}
use Rattle.stream.specs.declared.Reader.{Reader}

-- ---- lists of Feeds one after the other

pub feed-answers-append : (r : Reader) (ss rs : List ℕ) → answers r (ss ++ rs) ≡ answers r ss ++ answers (reader_after r ss) rs
unfolding answers reader_after
feed-answers-append r [] rs = refl
feed-answers-append r (s ∷ ss) rs = ap (λ (as' : List Answer). (feed_of r s).answer ∷ as') (feed-answers-append (feed_of r s).reader ss rs)

pub reader-append : (r : Reader) (ss rs : List ℕ) → reader_after r (ss ++ rs) ≡ reader_after (reader_after r ss) rs
unfolding reader_after
reader-append r [] rs = refl
reader-append r (s ∷ ss) rs = reader-append (feed_of r s).reader ss rs

pub length-feed-answers : (r : Reader) (ss : List ℕ) → length (answers r ss) ≡ length ss
unfolding answers
length-feed-answers r [] = refl
length-feed-answers r (s ∷ ss) = ap suc (length-feed-answers (feed_of r s).reader ss)

pub answers-take : (r : Reader) (ss : List ℕ) (k : ℕ) → answers r (take k ss) ≡ take k (answers r ss)
unfolding answers
answers-take r [] zero = refl
answers-take r [] (suc k) = refl
answers-take r (s ∷ ss) zero = refl
answers-take r (s ∷ ss) (suc k) = ap (λ (as' : List Answer). (feed_of r s).answer ∷ as') (answers-take (feed_of r s).reader ss k)

pub answers_at : (r : Reader) (ss : List ℕ) (none : Answer) (k : ℕ) → k < length ss → get_or (answers r ss) k none ≡ answer_of (reader_after r (take k ss)) (get_or ss k 0)
unfolding answers reader_after feed_of
answers_at r [] none k h = absurd (not-suc-le-zero h)
answers_at r (s ∷ ss) none zero h = refl
answers_at r (s ∷ ss) none (suc k) h = answers_at (feed_of r s).reader ss none k (omega arith)

-- ---- readers that pass 13 and 26, made by feeding or not

pub setting-next : (r : Reader) (s : ℕ) → (next_of r s).setting ≡ r.setting
unfolding next_of
setting-next r s = by-test (is_valid r && (is_setting r.setting && is_symbol s)) (λ y. rw y (symbol-leaves r s).1.0) (λ n. rw n)

pub setting-after : (r : Reader) (ss : List ℕ) → (reader_after r ss).setting ≡ r.setting
unfolding reader_after feed_of
setting-after r [] = refl
setting-after r (s ∷ ss) = setting-after (next_of r s) ss ∙ setting-next r s

pub has-setting-after : (r : Reader) (ss : List ℕ) → is_setting r.setting ≡ true → is_setting (reader_after r ss).setting ≡ true
has-setting-after r ss k = ap is_setting (setting-after r ss) ∙ k

pub valid-next : (r : Reader) (s : ℕ) → is_valid r ≡ true → is_valid (next_of r s) ≡ true
unfolding next_of is_valid
valid-next r s v =
    by-test (is_setting r.setting && is_symbol s)
    (λ y.
    let left = symbol-leaves r s in
    rw (v, y) (rw (left.0, left.1.1, and_left (known r.format) (ltb r.place (size r.format)) v) (lt-ltb ((r.place + 1) % size r.format) (size r.format) (mod-lt (r.place + 1) (size-positive r.format)))))
    (λ n. rw (v, n) v)

pub valid-after : (r : Reader) (ss : List ℕ) → is_valid r ≡ true → is_valid (reader_after r ss) ≡ true
unfolding reader_after feed_of
valid-after r [] v = v
valid-after r (s ∷ ss) v = valid-after (next_of r s) ss (valid-next r s v)

-- Feed refuses a symbol above 3
pub refused-above : (r : Reader) (s : ℕ) → is_valid r ≡ true → is_setting r.setting ≡ true → 3 < s → answer_of r s ≡ Answer.Refused UnknownSymbol
unfolding answer_of
refused-above r s v k h = rw (v, k, lt-leb s 3 h)

pub quiet-no-refusal : (x : Refusal) → Quiet ≡ Answer.Refused x → ⊥
quiet-no-refusal x h = let n : ◌≡◌ {A = ℕ} 0 1 = cc in omega arith

after-no-refusal : (r : Reader) (x : Refusal) → answer_after r ≡ Answer.Refused x → ⊥
unfolding answer_after
after-no-refusal r x h =
    by-test (eqb r.received.count (size r.format) && leb r.setting r.received.row)
    (λ y. refused-no-report x r.time r.control (sym (rw y at h)))
    (λ n. quiet-no-refusal x (rw n at h))

-- and no other.
pub above-refused : (r : Reader) (s : ℕ) (x : Refusal) → is_valid r ≡ true → is_setting r.setting ≡ true → answer_of r s ≡ Answer.Refused x → 3 < s
unfolding answer_of
above-refused r s x v k h = by-test (is_symbol s) (λ y. absurd (after-no-refusal (next_of r s) x (rw (v, k, y) at h))) (λ n. leb-false s 3 n)

-- ---- demand 1: a refused Feed hands back the same reader, whatever it refuses with

pub refused-feed-same-reader : (r : Reader) (s : ℕ) (x : Refusal) → (feed_of r s).answer ≡ Answer.Refused x → (feed_of r s).reader ≡ r
unfolding feed_of next_of
refused-feed-same-reader r s x h =
    by-test (is_valid r)
    (λ v. by-test (is_setting r.setting) (λ k. rw (v, k, lt-leb s 3 (above-refused r s x v k h))) (λ n. rw (v, n)))
    (λ n. rw n)
