-- The order of moments, which windows hold a time, and that what is found next is the first start or end after it.
use Rattle.std.specs.Prelude.{◌≡◌, refl, Bool, true, false, List, [], ◌∷◌, ◌↔◌, ℕ, zero, suc, ◌+◌, ◌*◌, ◌/◌, ◌%◌, ◌^◌, ◌<◌, eqb, get_or, length, Option, None, Some}
use Rattle.std.proofs.Common.{sym, ap, ◌∙◌, subst, true≢false, inl, inr, arith, ltb-true, ltb-false, lt-ltb, le-ltb, eqb-true, eq-eqb, ne_eqb}
use Rattle.std.proofs.Math.Nat.{two-pow-succ}
use Rattle.std.proofs.lemmas.Bool.{eqb-false}
use Rattle.timecode.proofs.Laws.Tests.{by-test, clash}
use Rattle.timecode.specs.declared.Time.{Time}
use Rattle.calendar.specs.Moments.{earlier, holds, mask_of, first_of, nearer, next_of}
use Rattle.calendar.specs.declared.Window.{Window}
use Rattle.calendar.specs.Order.{Earlier, bit_at, bit, Every, Any, First, Answers, by-year, by-day, by-hundredth}

-- ---- by year, day, then hundredth

pub is-earlier : (t u : Time) → earlier t u ≡ true → Earlier t u
unfolding earlier
is-earlier t u h =
    by-test (eqb t.year u.year)
    (λ y.
    by-test (eqb t.day u.day)
    (λ d. by-hundredth (eqb-true t.year u.year y) (eqb-true t.day u.day d) (ltb-true t.hundredths u.hundredths (rw (y, d) at h)))
    (λ m. by-day (eqb-true t.year u.year y) (ltb-true t.day u.day (rw (y, m) at h))))
    (λ n. by-year (ltb-true t.year u.year (rw n at h)))

pub earlier-is : (t u : Time) → Earlier t u → earlier t u ≡ true
unfolding earlier
earlier-is t u (by-year h) = rw (ne_eqb t.year u.year (λ e. omega arith)) (lt-ltb t.year u.year h)
earlier-is t u (by-day y h) = rw (eq-eqb t.year u.year y, ne_eqb t.day u.day (λ e. omega arith)) (lt-ltb t.day u.day h)
earlier-is t u (by-hundredth y d h) = rw (eq-eqb t.year u.year y, eq-eqb t.day u.day d) (lt-ltb t.hundredths u.hundredths h)

then : (t u v : Time) → Earlier t u → Earlier u v → Earlier t v
then t u v (by-year h) (by-year k) = by-year (omega arith)
then t u v (by-year h) (by-day y k) = by-year (omega arith)
then t u v (by-year h) (by-hundredth y d k) = by-year (omega arith)
then t u v (by-day y h) (by-year k) = by-year (omega arith)
then t u v (by-day y h) (by-day z k) = by-day (y ∙ z) (omega arith)
then t u v (by-day y h) (by-hundredth z d k) = by-day (y ∙ z) (omega arith)
then t u v (by-hundredth y d h) (by-year k) = by-year (omega arith)
then t u v (by-hundredth y d h) (by-day z k) = by-day (y ∙ z) (omega arith)
then t u v (by-hundredth y d h) (by-hundredth z e k) = by-hundredth (y ∙ z) (d ∙ e) (omega arith)

pub earlier-then : (t u v : Time) → earlier t u ≡ true → earlier u v ≡ true → earlier t v ≡ true
earlier-then t u v h k = earlier-is t v (then t u v (is-earlier t u h) (is-earlier u v k))

pub not_itself : (t : Time) → earlier t t ≡ false
unfolding earlier
not_itself t = rw (eq-eqb t.year t.year refl, eq-eqb t.day t.day refl) (le-ltb t.hundredths t.hundredths (omega arith))

-- of two moments neither of which is earlier, both are the same
pub one-or-other : (t u : Time) → earlier t u ≡ false → earlier u t ≡ false → t ≡ u
unfolding earlier
one-or-other t u h k =
    by-test (eqb t.year u.year)
    (λ y.
    let year = eqb-true t.year u.year y in
    by-test (eqb t.day u.day)
    (λ d.
    let day = eqb-true t.day u.day d in
    let a = ltb-false t.hundredths u.hundredths (rw (y, d) at h) in
    let b = ltb-false u.hundredths t.hundredths (rw (eq-eqb u.year t.year (sym year), eq-eqb u.day t.day (sym day)) at k) in
    same t u year day (omega arith))
    (λ m.
    let a = ltb-false t.day u.day (rw (y, m) at h) in
    let b = ltb-false u.day t.day (rw (eq-eqb u.year t.year (sym year), ne_eqb u.day t.day (λ e. eqb-false t.day u.day m (sym e))) at k) in
    absurd (eqb-false t.day u.day m (omega arith))))
    (λ n.
    let a = ltb-false t.year u.year (rw n at h) in
    let b = ltb-false u.year t.year (rw (ne_eqb u.year t.year (λ e. eqb-false t.year u.year n (sym e))) at k) in
    absurd (eqb-false t.year u.year n (omega arith)))
  where
    same : (t u : Time) → t.year ≡ u.year → t.day ≡ u.day → t.hundredths ≡ u.hundredths → t ≡ u
    same t u a b c = let e : ◌≡◌ {A = Time} (record { year = t.year; day = t.day; hundredths = t.hundredths }) (record { year = u.year; day = u.day; hundredths = u.hundredths }) = rw (a, b, c) in e

-- ---- the mask: bit i stands exactly where window i holds the time

pub mask_below : (ws : List Window) (t : Time) → mask_of ws t < 2 ^ length ws
unfolding mask_of
mask_below [] t = omega arith
mask_below (w ∷ ws) t =
    let h = mask_below ws t in
    let p : 2 ^ suc (length ws) ≡ 2 ^ length ws + 2 ^ length ws = two-pow-succ (length ws) in
    by-test (holds w t) (λ y. rw y (omega arith)) (λ n. rw n (omega arith))

low_bit : (b : Bool) (m : ℕ) → (bit b + 2 * m) % 2 ≡ bit b
low_bit true m = omega arith
low_bit false m = omega arith

high_bits : (b : Bool) (m : ℕ) → (bit b + 2 * m) / 2 ≡ m
high_bits true m = omega arith
high_bits false m = omega arith

pub mask-bit : (ws : List Window) (t : Time) (i : ℕ) (other : Window) → i < length ws → bit_at i (mask_of ws t) ≡ bit (holds (get_or ws i other) t)
unfolding mask_of
mask-bit [] t i other h = absurd (omega arith)
mask-bit (w ∷ ws) t zero other h = low_bit (holds w t) (mask_of ws t)
mask-bit (w ∷ ws) t (suc i) other h = rw (high_bits (holds w t) (mask_of ws t)) (mask-bit ws t i other (omega arith))

-- ---- what follows a time

every_map : (P Q : Time → Type 0) → ((e : Time) → P e → Q e) → (es : List Time) → Every P es → Every Q es
every_map P Q f [] h = tt
every_map P Q f (e ∷ es) h = (f e h.0, every_map P Q f es h.1)

skipped : (t e : Time) (es : List Time) (f : Option Time) → earlier t e ≡ false → Answers t es f → Answers t (e ∷ es) f
skipped t e es (Some m) n a = record { member = inr a.member; after = a.after; least = (λ y. clash y n, a.least) }
skipped t e es None n a = (n, a)

nearest : (t e : Time) (es : List Time) (f : Option Time) → earlier t e ≡ true → Answers t es f → Answers t (e ∷ es) (first_of e f)
nearest t e es None y a = record { member = inl refl; after = y; least = (λ h. not_itself e, every_map (λ x. earlier t x ≡ false) (λ x. earlier t x ≡ true → earlier x e ≡ false) (λ x n h. clash h n) es a) }
nearest t e es (Some m) y a =
    by-test (earlier e m)
    (λ s. rw s (record {
      member = inl refl;
      after = y;
      least = (λ h. not_itself e, every_map (λ x. earlier t x ≡ true → earlier x m ≡ false) (λ x. earlier t x ≡ true → earlier x e ≡ false) (λ x g h. by-test (earlier x e) (λ b. clash (earlier-then x e m b s) (g h)) (λ b. b)) es a.least);
    }))
    (λ n. rw n (record { member = inr a.member; after = a.after; least = (λ h. n, a.least) }))

pub next-answers : (t : Time) (es : List Time) → Answers t es (next_of t es)
unfolding next_of nearer
next-answers t [] = tt
next-answers t (e ∷ es) =
    by-test (earlier t e)
    (λ y. rw y (nearest t e es (next_of t es) y (next-answers t es)))
    (λ n. rw n (skipped t e es (next_of t es) n (next-answers t es)))

-- the moment found is the first start or end after the time
pub first_found : (t : Time) (es : List Time) (m : Time) → next_of t es ≡ Some m → First t es m
first_found t es m e = subst (Answers t es) e (next-answers t es)

-- and there is no other first one
at-member : (P : Time → Type 0) (es : List Time) (m : Time) → Every P es → Any (λ e. e ≡ m) es → P m
at-member P [] m h s = absurd s
at-member P (e ∷ es) m h (inl is) = subst P is h.0
at-member P (e ∷ es) m h (inr s) = at-member P es m h.1 s

pub one-first : (t : Time) (es : List Time) (m n : Time) → First t es m → First t es n → m ≡ n
one-first t es m n a b =
    one-or-other
    m
    n
    (at-member (λ e. earlier t e ≡ true → earlier e n ≡ false) es m b.least a.member a.after)
    (at-member (λ e. earlier t e ≡ true → earlier e m ≡ false) es n a.least b.member b.after)

-- none exactly if none follows
some-later : (t : Time) (es : List Time) (m : Time) → Every (λ e. earlier t e ≡ false) es → First t es m → ⊥
some-later t es m none f = go es none f.member
  where
    go : (xs : List Time) → Every (λ e. earlier t e ≡ false) xs → Any (λ e. e ≡ m) xs → ⊥
    go [] n s = s
    go (x ∷ xs) n (inl e) = true≢false (sym f.after ∙ ap (earlier t) (sym e) ∙ n.0)
    go (x ∷ xs) n (inr s) = go xs n.1 s

pub none-exactly : (t : Time) (es : List Time) → (next_of t es ≡ None) ↔ Every (λ e. earlier t e ≡ false) es
none-exactly t es = (λ e. subst (Answers t es) e (next-answers t es), λ none. go (next_of t es) (next-answers t es) none)
  where
    go : (f : Option Time) → Answers t es f → Every (λ e. earlier t e ≡ false) es → f ≡ None
    go (Some m) a none = absurd (some-later t es m none a)
    go None a none = refl
