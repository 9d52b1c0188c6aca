-- The kinds of a day are the numbers up to 2.
use Rattle.std.specs.Prelude.{◌≡◌, refl, true, false, ℕ, zero, suc, ◌≤◌, ◌<◌}
use Rattle.std.proofs.Common.{arith, ne_eqb}
use Rattle.timecode.specs.Formats.{member}
use Rattle.timecode.specs.Frames.{kinds}

pub is-kind : (k : ℕ) → k ≤ 2 → member k kinds ≡ true
is-kind zero h = refl
is-kind (suc zero) h = refl
is-kind (suc (suc zero)) h = refl
is-kind (suc (suc (suc k))) h = let none : ⊥ = omega arith in absurd none

pub no_kind : (k : ℕ) → 2 < k → member k kinds ≡ false
no_kind k h = rw (ne_eqb k 0 (λ e. omega arith), ne_eqb k 1 (λ e. omega arith), ne_eqb k 2 (λ e. omega arith))
