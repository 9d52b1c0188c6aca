-- Tests as equations: small laws of Bool.
use Rattle.std.specs.Prelude.{◌≡◌, refl, Bool, true, false, ◌&&◌, ◌||◌, ℕ, zero, suc, ◌<◌, ltb}
use Rattle.std.proofs.Common.{sym, ◌∙◌, true≢false, not-suc-le-zero, arith, ltb-true, ltb-false}
use Rattle.std.proofs.lemmas.Bool.{false≢true}
use Rattle.timecode.specs.Laws.Tests.{every_below}

pub by-test {ℓ} : {P : Type ℓ} (b : Bool) → (b ≡ true → P) → (b ≡ false → P) → P
by-test true f g = f refl
by-test false f g = g refl

pub clash : {P : Type 0} {b : Bool} → b ≡ true → b ≡ false → P
clash {P} {b} h k = absurd (true≢false (sym h ∙ k))

pub and_left : (a b : Bool) → (a && b) ≡ true → a ≡ true
and_left true b h = refl
and_left false b h = h

pub and_right : (a b : Bool) → (a && b) ≡ true → b ≡ true
and_right true b h = h
and_right false b h = absurd (false≢true h)

-- the other of two
pub or-other : (a b : Bool) → a ≡ false → (a || b) ≡ true → b ≡ true
or-other true b h k = absurd (true≢false h)
or-other false b h k = k

pub or-first : (a b : Bool) → a ≡ true → (a || b) ≡ true
or-first true b h = refl
or-first false b h = absurd (false≢true h)

pub or-second : (a b : Bool) → b ≡ true → (a || b) ≡ true
or-second true b h = refl
or-second false b h = h

-- neither of two
pub neither-first : (a b : Bool) → (a || b) ≡ false → a ≡ false
neither-first true b h = h
neither-first false b h = refl

pub neither-second : (a b : Bool) → (a || b) ≡ false → b ≡ false
neither-second true b h = absurd (true≢false h)
neither-second false b h = h

pub below-every : (n : ℕ) (p : ℕ → Bool) → every_below n p ≡ true → (i : ℕ) → i < n → p i ≡ true
below-every zero p h i b = absurd (not-suc-le-zero b)
below-every (suc n) p h i b =
    by-test (ltb i n)
    (λ y. below-every n p (and_right (p n) (every_below n p) h) i (ltb-true i n y))
    (λ m. let last : i ≡ n = omega (arith, ltb-false i n m) in rw last (and_left (p n) (every_below n p) h))
