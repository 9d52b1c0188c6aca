-- How many symbols stand before the first above 3.
use Rattle.std.specs.Prelude.{◌≡◌, refl, cond, List, [], ◌∷◌, ℕ, zero, suc, ◌+◌, ◌<◌, ◌≤◌, get_or, length, drop}
use Rattle.std.proofs.Common.{sym, ap, ◌∙◌, add-zero, not-suc-le-zero, add-one, arith, le-leb, leb-true, leb-false, drop_of_length-le, drop-cons}
use Rattle.std.proofs.lemmas.Bool.{lt-leb}
use Rattle.timecode.specs.Formats.{is_symbol}
use Rattle.timecode.proofs.Laws.Tests.{by-test}

unfoldable pub accepted_in : List ℕ → ℕ
accepted_in [] = 0
accepted_in (s ∷ ss) = cond (is_symbol s) (suc (accepted_in ss)) 0

pub accepted-within : (ss : List ℕ) → accepted_in ss ≤ length ss
unfolding accepted_in
accepted-within [] = omega arith
accepted-within (s ∷ ss) = by-test (is_symbol s) (λ y. rw y (omega (arith, accepted-within ss))) (λ n. rw n (omega arith))

pub accepted-at : (ss : List ℕ) (k : ℕ) → k < accepted_in ss → get_or ss k 0 ≤ 3
unfolding accepted_in
accepted-at [] k h = absurd (not-suc-le-zero h)
accepted-at (s ∷ ss) zero h = by-test (is_symbol s) (λ y. leb-true s 3 y) (λ n. let m : 0 < 0 = rw n at h in absurd (not-suc-le-zero m))
accepted-at (s ∷ ss) (suc k) h = by-test (is_symbol s) (λ y. let m : suc k < suc (accepted_in ss) = rw y at h in accepted-at ss k (omega arith)) (λ n. let m : suc k < 0 = rw n at h in absurd (not-suc-le-zero m))

-- the next is above 3
pub unaccepted-at : (ss : List ℕ) → accepted_in ss < length ss → 3 < get_or ss (accepted_in ss) 0
unfolding accepted_in
unaccepted-at [] h = absurd (not-suc-le-zero h)
unaccepted-at (s ∷ ss) h =
    by-test (is_symbol s)
    (λ y. rw y (unaccepted-at ss (let m : suc (accepted_in ss) < suc (length ss) = rw y at h in omega arith)))
    (λ n. rw n (leb-false s 3 n))

pub all-accepted : (ss : List ℕ) → ((k : ℕ) → k < length ss → get_or ss k 0 ≤ 3) → accepted_in ss ≡ length ss
unfolding accepted_in
all-accepted [] a = refl
all-accepted (s ∷ ss) a = rw (le-leb s 3 (a 0 (omega arith))) (ap suc (all-accepted ss (λ k h. a (suc k) (omega arith))))

-- the first i are accepted
pub accepted-turn : (ss : List ℕ) (i : ℕ) → i < length ss → get_or ss i 0 ≤ 3 → accepted_in ss ≡ i + accepted_in (drop i ss) → accepted_in ss ≡ i + 1 + accepted_in (drop (i + 1) ss)
unfolding accepted_in
accepted-turn ss i h b e = e ∙ rw (drop-cons ss i 0 h, add-one i, le-leb (get_or ss i 0) 3 b) (omega arith)

pub accepted-here : (ss : List ℕ) (i : ℕ) → i < length ss → 3 < get_or ss i 0 → accepted_in ss ≡ i + accepted_in (drop i ss) → i ≡ accepted_in ss
unfolding accepted_in
accepted-here ss i h b e = sym (e ∙ rw (drop-cons ss i 0 h, lt-leb (get_or ss i 0) 3 b) (add-zero i))

pub accepted-end : (ss : List ℕ) (i : ℕ) → length ss ≤ i → accepted_in ss ≡ i + accepted_in (drop i ss) → i ≡ accepted_in ss
unfolding accepted_in
accepted-end ss i h e = sym (e ∙ rw (drop_of_length-le ss {i = i} h) (add-zero i))
