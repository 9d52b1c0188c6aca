-- A difference of two numbers as an i64, and the difference of two times as document 01 prints it.
use Rattle.std.specs.Prelude.{◌≡◌, ℕ, zero, suc, ◌+◌, ◌*◌, ◌-◌, ◌^◌, ◌<◌, ◌≤◌, ltb, ℤ, pos, negsuc, neg_ℤ, ◌-ℤ◌, ◌+ℤ◌, ◌*ℤ◌}
use Rattle.std.proofs.Common.{sym, ap, ap₂, ◌∙◌, mul_comm, arith, ltb-true, ltb-false, lt-ltb, le-ltb, SFits, to_z, of_z}
use Rattle.std.proofs.Math.IntN.{+ℤ_assoc, +ℤ_comm, neg_ℤ-+ℤ, pos-*ℤ-negsuc}
use Rattle.std.specs.Int.{w64}
use Rattle.std.proofs.lemmas.Int.{to_z-of_z}
use Rattle.timecode.proofs.Laws.Tests.{by-test}
use Rattle.timecode.specs.declared.Time.{Time}

pub difference-fits : (a b : ℕ) → a < 1000000000000 → b < 1000000000000 → SFits w64 (pos a -ℤ pos b)
difference-fits a zero h k = record { sfits = omega arith }
difference-fits a (suc b) h k =
    by-test (ltb a (suc b))
    (λ y. let z = ltb-true a (suc b) y in rw y (record { sfits = omega arith }))
    (λ m. let z = ltb-false a (suc b) m in rw m (record { sfits = omega arith }))

pub plain : (a : ℕ) → a < 1000000000000 → to_z w64 a ≡ pos a
plain a h = rw (lt-ltb a (2 ^ 63) (omega arith))

pub difference-back : (a b : ℕ) → a < 1000000000000 → b < 1000000000000 → (z : ℤ) → z ≡ pos a -ℤ pos b → to_z w64 (of_z w64 z) ≡ pos a -ℤ pos b
difference-back a b h k z e = rw e (to_z-of_z w64 (pos a -ℤ pos b) (difference-fits a b h k))

-- ---- as document 01 prints it

swap : (a b c d : ℤ) → (a +ℤ b) +ℤ (c +ℤ d) ≡ (a +ℤ c) +ℤ (b +ℤ d)
swap a b c d =
    +ℤ_assoc a b (c +ℤ d)
    ∙ ap (λ (x : ℤ). a +ℤ x) (sym (+ℤ_assoc b c d) ∙ ap (λ (x : ℤ). x +ℤ d) (+ℤ_comm b c) ∙ +ℤ_assoc c b d)
    ∙ sym (+ℤ_assoc a c (b +ℤ d))

sum : (a b c d : ℕ) → (pos a -ℤ pos b) +ℤ (pos c -ℤ pos d) ≡ pos (a + c) -ℤ pos (b + d)
sum a b c d = swap (pos a) (neg_ℤ (pos b)) (pos c) (neg_ℤ (pos d)) ∙ ap (λ (x : ℤ). pos (a + c) +ℤ x) (sym (neg_ℤ-+ℤ (pos b) (pos d)))

not-below : (a b : ℕ) → b ≤ a → pos a -ℤ pos b ≡ pos (a - b)
not-below a zero h = ap pos (omega arith)
not-below a (suc b) h = rw (le-ltb a (suc b) h)

below : (a b : ℕ) → a < b → pos a -ℤ pos b ≡ negsuc (b - suc a)
below a zero h = let z : ⊥ = omega arith in absurd z
below a (suc b) h = rw (lt-ltb a (suc b) h)

days : (a b : ℕ) → pos 8640000 *ℤ (pos a -ℤ pos b) ≡ pos (8640000 * a) -ℤ pos (8640000 * b)
days a b =
    by-test (ltb a b)
    (λ y.
    let h = ltb-true a b y in
    rw (below a b h)
    (pos-*ℤ-negsuc 8640000 (b - suc a)
    ∙ negative (8640000 * suc (b - suc a)) (8640000 * b - suc (8640000 * a)) (omega arith)
    ∙ sym (below (8640000 * a) (8640000 * b) (omega arith))))
    (λ n. let h = ltb-false a b n in rw (not-below a b h) (ap pos (omega arith) ∙ sym (not-below (8640000 * a) (8640000 * b) (omega arith))))
  where
    negative : (m k : ℕ) → m ≡ suc k → neg_ℤ (pos m) ≡ negsuc k
    negative m k e = rw e

-- 8,640,000 times the days' difference, plus the c's
pub as-printed : (t u : Time) → pos (t.day * 8640000 + t.hundredths) -ℤ pos (u.day * 8640000 + u.hundredths) ≡ pos 8640000 *ℤ (pos t.day -ℤ pos u.day) +ℤ (pos t.hundredths -ℤ pos u.hundredths)
as-printed t u =
    sym
    (ap (λ (x : ℤ). x +ℤ (pos t.hundredths -ℤ pos u.hundredths)) (days t.day u.day)
    ∙ sum (8640000 * t.day) (8640000 * u.day) t.hundredths u.hundredths
    ∙ ap₂ (λ (x y : ℕ). pos (x + t.hundredths) -ℤ pos (y + u.hundredths)) (mul_comm 8640000 t.day) (mul_comm 8640000 u.day))
