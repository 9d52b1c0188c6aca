-- The bits of a float, of which no number has none of its own.
use Rattle.std.specs.Prelude.{◌≡◌, refl, Bool, true, false, not, ℕ, ◌%◌, ◌<◌, ◌≤◌, T, Option, Some, None, Float}
use Rattle.std.proofs.Common.{sym, ap, subst, ◌∙◌, lt-ltb, le-ltb}
use Rattle.std.specs.Float.{nan, inf, fin, binary64}
use Rattle.std.specs.Float.Ieee.{div, eq, ne, is_nan, nan_bits, of_bits, to_bits}
use Rattle.std.specs.Float.Ieee.Bits.{nan_bits_is, nan_bits_above}
use Rattle.std.specs.Float.Ieee.Compare.{differs_from_itself}

abbrev pub pattern_of : Float → Option ℕ
pattern_of nan = None
pattern_of (inf s) = Some (to_bits binary64 (inf s))
pattern_of (fin s m e) = Some (to_bits binary64 (fin s m e))

-- ---- the float of bits

is-nan : (x : Float) → is_nan x ≡ true → x ≡ nan
unfolding is_nan
is-nan nan h = refl
is-nan (inf s) h = absurd (subst T (sym h) tt)
is-nan (fin s m e) h = absurd (subst T (sym h) tt)

zero_by_zero : div binary64 (of_bits binary64 0) (of_bits binary64 0) ≡ nan
unfolding div of_bits
zero_by_zero = refl

pub above-infinity : (n : ℕ) → 0x7ff0_0000_0000_0000 < n % 0x8000_0000_0000_0000 → div binary64 (of_bits binary64 0) (of_bits binary64 0) ≡ of_bits binary64 n
above-infinity n h = zero_by_zero ∙ sym (is-nan (of_bits binary64 n) (sym (nan_bits_is binary64 n) ∙ nan_bits_above binary64 n ∙ lt-ltb _ _ h))

pub up_to_infinity : (n : ℕ) → n % 0x8000_0000_0000_0000 ≤ 0x7ff0_0000_0000_0000 → T (not (nan_bits binary64 n))
up_to_infinity n h = subst (λ (b : Bool). T (not b)) (sym (nan_bits_above binary64 n ∙ le-ltb _ _ h)) tt

-- ---- the bits of a float

pub differs : (x : Float) → ne x x ≡ true → None ≡ pattern_of x
differs x h = ap pattern_of (sym (differs_from_itself x (subst T (sym h) tt)))

pub agrees : (x : Float) → ne x x ≡ false → T (not (is_nan x)) × (Some (to_bits binary64 x) ≡ pattern_of x)
unfolding ne eq is_nan
agrees nan h = absurd (subst T h tt)
agrees (inf s) h = (tt, refl)
agrees (fin s m e) h = (tt, refl)
