-- A number's bits, and the number that they make: each gives the other back, at any width.
use Rattle.std.specs.Prelude.{◌≡◌, ℕ, zero, suc, ◌+◌, ◌*◌, ◌/◌, ◌%◌, ◌^◌, ◌<◌}
use Rattle.std.proofs.Common.{sym, ap, ◌∙◌, subst, not-suc-le-zero, div-one, add-one, one-add, arith, shr-shr}
use Rattle.std.proofs.Math.Nat.{mod-one, two-pow-succ}
use Rattle.std.proofs.lemmas.Nat.{mod-pow-add}
use Rattle.timecode.specs.Layout.{value}

half_pow : (x b : ℕ) → x / 2 / 2 ^ b ≡ x / 2 ^ suc b
half_pow x b = shr-shr x 1 b ∙ ap (λ (n : ℕ). x / 2 ^ n) (one-add b)

pub value-of-bits : (w : ℕ) (g : ℕ → ℕ) (x : ℕ) → ((b : ℕ) → b < w → g b ≡ x / 2 ^ b % 2) → value w g ≡ x % 2 ^ w
unfolding value
value-of-bits zero g x h = sym (mod-one x)
value-of-bits (suc w) g x h =
    let here : g 0 ≡ x % 2 = h 0 (omega arith) ∙ ap (λ (n : ℕ). n % 2) (div-one x) in
    let others : value w (λ b. g (suc b)) ≡ x / 2 % 2 ^ w =
    value-of-bits w (λ b. g (suc b)) (x / 2) (λ b l. h (suc b) (omega arith) ∙ ap (λ (n : ℕ). n % 2) (sym (half_pow x b))) in
    let whole : x % 2 ^ suc w ≡ x / 2 % 2 ^ w * 2 + x % 2 = subst (λ (n : ℕ). x % 2 ^ n ≡ x / 2 % 2 ^ w * 2 + x % 2) (add-one w) (mod-pow-add x w 1) in
    omega (arith, here, others, whole)

pub value-small : (w : ℕ) (g : ℕ → ℕ) → ((b : ℕ) → b < w → g b < 2) → value w g < 2 ^ w
unfolding value
value-small zero g h = omega arith
value-small (suc w) g h =
    let here : g 0 < 2 = h 0 (omega arith) in
    let others : value w (λ b. g (suc b)) < 2 ^ w = value-small w (λ b. g (suc b)) (λ b l. h (suc b) (omega arith)) in
    omega (arith, two-pow-succ w)

pub bits_of_value : (w : ℕ) (g : ℕ → ℕ) → ((b : ℕ) → b < w → g b < 2) → (b : ℕ) → b < w → value w g / 2 ^ b % 2 ≡ g b
unfolding value
bits_of_value zero g h b l = absurd (not-suc-le-zero l)
bits_of_value (suc w) g h zero l =
    let here : g 0 < 2 = h 0 l in
    omega arith
bits_of_value (suc w) g h (suc b) l =
    let here : g 0 < 2 = h 0 (omega arith) in
    let halved : (g 0 + 2 * value w (λ b. g (suc b))) / 2 ≡ value w (λ b. g (suc b)) = omega arith in
    ap (λ (n : ℕ). n % 2) (sym (half_pow (g 0 + 2 * value w (λ b. g (suc b))) b))
    ∙ ap (λ (n : ℕ). n / 2 ^ b % 2) halved
    ∙ bits_of_value w (λ b. g (suc b)) (λ k m. h (suc k) (omega arith)) b (omega arith)
