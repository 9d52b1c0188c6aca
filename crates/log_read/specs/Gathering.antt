-- A number gathered from its bytes, the highest first.
use Rattle.std.specs.Prelude.{◌≡◌, cond, List, ◌∷◌, ℕ, zero, suc, ◌+◌, ◌*◌, ◌-◌, ◌%◌, ◌^◌, ◌<◌, ◌≤◌, get_or, length, take, drop}
use Rattle.std.proofs.Common.{pow-suc, arith, eq-eqb, ne_eqb, drop-cons}
use Rattle.report_log.specs.Log.{number_in, stands}

-- the bytes from i on
pub record Gathered (part : List ℕ) (at width number i : ℕ) : Type 0 where
  pub few : i ≤ width
  pub value : number ≡ number_in (take (width - i) (drop (at + i) part))
  pub small : number < 256 ^ (width - i)

pub gathered-start : (part : List ℕ) (at width : ℕ) → Gathered part at width 0 width
unfolding number_in
gathered-start part at width =
    let none : width - width ≡ 0 = omega arith in
    record { few = omega arith; value = rw none; small = rw none (omega arith) }

-- a byte more fits 64 bits
pub byte-room : (k number : ℕ) → k ≤ 5 → number < 256 ^ k → number < 1099511627776
byte-room zero number h b = omega arith
byte-room (suc zero) number h b = omega arith
byte-room (suc (suc zero)) number h b = omega arith
byte-room (suc (suc (suc zero))) number h b = omega arith
byte-room (suc (suc (suc (suc zero)))) number h b = omega arith
byte-room (suc (suc (suc (suc (suc zero))))) number h b = b
byte-room (suc (suc (suc (suc (suc (suc k)))))) number h b = let n : ⊥ = omega arith in absurd n

pub gathered-room : (part : List ℕ) (at width number i : ℕ) → Gathered part at width number i → width ≤ 6 → 0 < i → number < 1099511627776
gathered-room part at width number i g h some = byte-room (width - i) number (omega arith) g.small

next-number : (number byte value : ℕ) → number ≡ value → number * 256 + byte ≡ byte + 256 * value
next-number number byte value e = omega arith

pub gathered-turn : (part : List ℕ) (at width number i : ℕ) → at + width ≤ length part → 0 < i → get_or part (at + (i - 1)) 0 < 256 → Gathered part at width number i → Gathered part at width (number * 256 + get_or part (at + (i - 1)) 0) (i - 1)
unfolding number_in
gathered-turn part at width number i room some byte g =
    let more : width - (i - 1) ≡ suc (width - i) = omega (arith, g.few) in
    let place : suc (at + (i - 1)) ≡ at + i = omega arith in
    let first : drop (at + (i - 1)) part ≡ get_or part (at + (i - 1)) 0 ∷ drop (at + i) part = rw place at (drop-cons part (at + (i - 1)) 0 (omega (arith, g.few))) in
    let power : 256 ^ suc (width - i) ≡ 256 ^ (width - i) * 256 = pow-suc 256 (width - i) in
    record {
      few = omega (arith, g.few);
      value = rw (more, first) (next-number number (get_or part (at + (i - 1)) 0) (number_in (take (width - i) (drop (at + i) part))) g.value);
      small = rw more (omega (arith, g.small));
    }

pub gathered-end : (part : List ℕ) (at width number i : ℕ) → i ≤ 0 → Gathered part at width number i → (number ≡ number_in (take width (drop at part))) × (number < 256 ^ width)
gathered-end part at width number i h g =
    let none : i ≡ 0 = omega arith in
    let whole : width - i ≡ width = omega arith in
    let start : at + i ≡ at = omega arith in
    (rw (whole, start) at g.value, rw whole at g.small)

-- ---- a field

pub field-stands : (at width map room : ℕ) → at + cond (stands map) width 0 ≤ room → map % 2 ≡ 1 → at + width ≤ room
field-stands at width map room h e = rw (eq-eqb (map % 2) 1 e) at h

pub field_is : (part : List ℕ) (at width map before number : ℕ) → map % 2 ≡ 1 → (number ≡ number_in (take width (drop at part))) × (number < 256 ^ width) → (number ≡ cond (stands map) (number_in (take width (drop at part))) before) × ((limit : ℕ) → before < limit → 256 ^ width ≤ limit → number < limit)
field_is part at width map before number e n = (rw (eq-eqb (map % 2) 1 e) n.0, λ limit b w. omega (arith, n.1))

pub field-before : (part : List ℕ) (at width map before : ℕ) → (map % 2 ≡ 1 → ⊥) → (before ≡ cond (stands map) (number_in (take width (drop at part))) before) × ((limit : ℕ) → before < limit → 256 ^ width ≤ limit → before < limit)
field-before part at width map before n = (rw (ne_eqb (map % 2) 1 n), λ limit b w. b)
