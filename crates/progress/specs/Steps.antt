-- Laws of the counts and of Feeds one after the other.
use Rattle.std.specs.Prelude.{◌≡◌, refl, Bool, true, false, cond, List, [], ◌∷◌, ◌++◌, ℕ, zero, suc, ◌+◌, ◌<◌, ◌≤◌, min, ltb}
use Rattle.std.proofs.Common.{sym, ap, ◌∙◌, append_assoc, add-zero, arith, lt-ltb, ltb-true, ltb-false}
use Rattle.timecode.proofs.Laws.Tests.{by-test}
use Rattle.timecode.specs.declared.Answer.{Answer}
use Rattle.stream.specs.Feeding.{next_of, answer_of}
use Rattle.stream.specs.declared.Reader.{Reader}
use Rattle.progress.specs.Progress.{running_at, one_more, more_by, answered, answer_line, after_feed, feed_line, after_feeds, text_feeds}
use Rattle.progress.specs.declared.Progress.{Progress}

-- ---- counts

-- a count of 64 bits, with so many more
pub more_within : (k e : ℕ) → e + k < 18446744073709551616 → more_by k e ≡ e + k
unfolding more_by one_more
more_within zero e h = sym (add-zero e)
more_within (suc k) e h = rw (lt-ltb e 18446744073709551615 (omega arith)) (more_within k (suc e) (omega arith) ∙ omega arith)

pub more-beyond : (k e : ℕ) → e < 18446744073709551616 → 18446744073709551615 ≤ e + k → more_by k e ≡ 18446744073709551615
unfolding more_by one_more
more-beyond zero e b h = omega arith
more-beyond (suc k) e b h =
    by-test (ltb e 18446744073709551615)
    (λ y. rw y (more-beyond k (suc e) (omega (arith, ltb-true e 18446744073709551615 y)) (omega arith)))
    (λ n. rw n (more-beyond k e b (omega (arith, ltb-false e 18446744073709551615 n))))

-- both in one: a saturating sum
pub more_is : (k e r : ℕ) → e < 18446744073709551616 → r ≡ min (e + k) 18446744073709551615 → r ≡ more_by k e
more_is k e r b h =
    by-test (ltb (e + k) 18446744073709551616)
    (λ y.
    let fits : e + k < 18446744073709551616 = ltb-true (e + k) 18446744073709551616 y in
    let sum : more_by k e ≡ e + k = more_within k e fits in
    omega arith)
    (λ n.
    let past : 18446744073709551615 ≤ e + k = omega (arith, ltb-false (e + k) 18446744073709551616 n) in
    let end : more_by k e ≡ 18446744073709551615 = more-beyond k e b past in
    omega arith)

pub one_more_is : (e r : ℕ) → e < 18446744073709551616 → r ≡ min (e + 1) 18446744073709551615 → r ≡ one_more e
unfolding more_by
one_more_is e r b h = more_is 1 e r b h

-- ---- lists of Feeds

pub after-append : (p : Progress) (ss rs : List ℕ) → after_feeds p (ss ++ rs) ≡ after_feeds (after_feeds p ss) rs
unfolding after_feeds
after-append p [] rs = refl
after-append p (s ∷ ss) rs = after-append (after_feed p s) ss rs

pub text-append : (p : Progress) (ss rs : List ℕ) → text_feeds p (ss ++ rs) ≡ text_feeds p ss ++ text_feeds (after_feeds p ss) rs
unfolding after_feeds text_feeds
text-append p [] rs = refl
text-append p (s ∷ ss) rs = ap (λ (t : List ℕ). feed_line p s ++ t) (text-append (after_feed p s) ss rs) ∙ sym (append_assoc (feed_line p s) (text_feeds (after_feed p s) ss) (text_feeds (after_feeds (after_feed p s) ss) rs))

-- ---- one Feed

step_by : (p : Progress) (s : ℕ) (t : Bool) → p.ended ≡ t → (after_feed p s ≡ cond t p (answered p (next_of p.reader s) (answer_of p.reader s))) × (feed_line p s ≡ cond t [] (answer_line (after_feed p s).elements (answer_of p.reader s)))
unfolding after_feed feed_line
step_by p s t e = (ap (λ (t : Bool). cond t p (answered p (next_of p.reader s) (answer_of p.reader s))) e, ap (λ (t : Bool). cond t [] (answer_line (after_feed p s).elements (answer_of p.reader s))) e)

pub step-fed : (p : Progress) (s : ℕ) → p.ended ≡ false → (after_feed p s ≡ answered p (next_of p.reader s) (answer_of p.reader s)) × (feed_line p s ≡ answer_line (after_feed p s).elements (answer_of p.reader s))
step-fed p s g = step_by p s false g

-- a Feed by its answer, the reader after it and the progress
pub one-fed : (p : Progress) (s : ℕ) (next : Reader) (a : Answer) (q : Progress) → p.ended ≡ false → a ≡ answer_of p.reader s → next ≡ next_of p.reader s → q ≡ answered p next a → (q ≡ after_feed p s) × (answer_line q.elements a ≡ feed_line p s)
one-fed p s next a q g answer-is fed moved =
    let step = step-fed p s g in
    let is : q ≡ after_feed p s = moved ∙ sym (step.0 ∙ rw (answer-is, fed)) in
    (is, sym (step.1 ∙ rw (is, answer-is)))

pub running-at : (p : Progress) → p.ended ≡ false → running_at p.reader p.elements p.reports ≡ p
running-at p g = ap (λ (e : Bool). record { reader = p.reader; elements = p.elements; reports = p.reports; ended = e }) (sym g)

-- ---- after the end

pub ended-stays : (p : Progress) (ss : List ℕ) → p.ended ≡ true → p ≡ after_feeds p ss
unfolding after_feeds
ended-stays p [] e = refl
ended-stays p (s ∷ ss) e = rw (step_by p s true e).0 (ended-stays p ss e)

pub ended-no-text : (p : Progress) (ss : List ℕ) → p.ended ≡ true → [] ≡ text_feeds p ss
unfolding text_feeds
ended-no-text p [] e = refl
ended-no-text p (s ∷ ss) e = rw ((step_by p s true e).1, (step_by p s true e).0) (ended-no-text p ss e)
