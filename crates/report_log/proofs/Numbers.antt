-- Numbers in bytes, stated once over the width: as many bytes as the width, and back.
use Rattle.std.specs.Prelude.{◌≡◌, refl, List, [], ◌∷◌, ℕ, zero, suc, ◌+◌, ◌*◌, ◌/◌, ◌%◌, ◌^◌, ◌<◌, length}
use Rattle.std.proofs.Common.{ap, pow-suc, arith}
use Rattle.report_log.specs.Log.{bytes_of, number_in}
use Rattle.report_log.specs.Numbers.{Bytes}

pub length-bytes : (width x : ℕ) → length (bytes_of width x) ≡ width
unfolding bytes_of
length-bytes zero x = refl
length-bytes (suc width) x = ap suc (length-bytes width (x / 256))

pub are-bytes : (width x : ℕ) → Bytes (bytes_of width x)
unfolding bytes_of
are-bytes zero x i = omega arith
are-bytes (suc width) x zero = omega arith
are-bytes (suc width) x (suc i) = are-bytes width (x / 256) i

joined : (b n x : ℕ) → b ≡ x % 256 → n ≡ x / 256 → b + 256 * n ≡ x
joined b n x p q = omega arith

-- a number that fits comes back from its bytes
pub number-bytes : (width x : ℕ) → x < 256 ^ width → number_in (bytes_of width x) ≡ x
unfolding bytes_of number_in
number-bytes zero x h = omega arith
number-bytes (suc width) x h =
    let p : 256 ^ suc width ≡ 256 ^ width * 256 = pow-suc 256 width in
    joined (x % 256) (number_in (bytes_of width (x / 256))) x refl (number-bytes width (x / 256) (omega arith))

low : (b n : ℕ) → b < 256 → ((b + 256 * n) % 256 ≡ b) × ((b + 256 * n) / 256 ≡ n)
low b n h = (omega arith, omega arith)

-- bytes come back from their number
pub bytes-number : (bs : List ℕ) → Bytes bs → bytes_of (length bs) (number_in bs) ≡ bs
unfolding bytes_of number_in
bytes-number [] h = refl
bytes-number (b ∷ bs) h =
    let l = low b (number_in bs) (h 0) in
    rw (l.0, l.1) (ap (λ (xs : List ℕ). b ∷ xs) (bytes-number bs (λ i. h (suc i))))

pub number_small : (bs : List ℕ) → Bytes bs → number_in bs < 256 ^ length bs
unfolding number_in
number_small [] h = omega arith
number_small (b ∷ bs) h =
    let p : 256 ^ suc (length bs) ≡ 256 ^ length bs * 256 = pow-suc 256 (length bs) in
    let first : b < 256 = h 0 in
    let rest : number_in bs < 256 ^ length bs = number_small bs (λ i. h (suc i)) in
    omega arith
