-- A damaged list by its index: as long as before, of symbols if it was and the damages are, and as before but at the places of the damages.
use Rattle.std.specs.Prelude.{◌≡◌, refl, true, false, List, [], ◌∷◌, ℕ, zero, suc, ◌<◌, ◌≤◌, eqb, length, get_or, set}
use Rattle.std.proofs.Common.{◌∙◌, arith, leb-true, eq-eqb, length-set, get_or-set_same, get_or-set_other}
use Rattle.std.proofs.Math.Decide.{ℕ_discrete}
use Rattle.timecode.specs.Formats.{member, is_symbol}
use Rattle.timecode.proofs.Laws.Tests.{clash, and_left, and_right, neither-first, neither-second}
use Rattle.timecode.specs.Stream.{ReplacedAt}
use Rattle.simulation.specs.Simulation.{Damage, replace_at, damaged, have_symbols}
use Rattle.simulation.specs.Damages.{with_place, places_of}

length-replaced : (at s : ℕ) (xs : List ℕ) → length (replace_at at s xs) ≡ length xs
unfolding replace_at
length-replaced zero s xs = refl
length-replaced (suc place) s xs = length-set xs place s

pub length-damaged : (ds : List Damage) (xs : List ℕ) → length (damaged ds xs) ≡ length xs
unfolding damaged
length-damaged [] xs = refl
length-damaged (d ∷ ds) xs = length-damaged ds (replace_at d.at d.symbol xs) ∙ length-replaced d.at d.symbol xs

replaced-other : (at s : ℕ) (xs places : List ℕ) (j : ℕ) → member j (with_place at places) ≡ false → (get_or (replace_at at s xs) j 0 ≡ get_or xs j 0) × (member j places ≡ false)
unfolding replace_at
replaced-other zero s xs places j h = (refl, h)
replaced-other (suc p) s xs places j h = (get_or-set_other xs p j s 0 (λ z. clash (eq-eqb j p z) (neither-first (eqb j p) (member j places) h)), neither-second (eqb j p) (member j places) h)

damaged-other : (ds : List Damage) (xs : List ℕ) (j : ℕ) → member j (places_of ds) ≡ false → get_or (damaged ds xs) j 0 ≡ get_or xs j 0
unfolding damaged
damaged-other [] xs j h = refl
damaged-other (d ∷ ds) xs j h = let x = replaced-other d.at d.symbol xs (places_of ds) j h in damaged-other ds (replace_at d.at d.symbol xs) j x.1 ∙ x.0

pub damaged-places : (ds : List Damage) (xs : List ℕ) → ReplacedAt (places_of ds) (damaged ds xs) xs
damaged-places ds xs = record { as_long = length-damaged ds xs; same = λ j b h. damaged-other ds xs j h }

replaced-small : (at s : ℕ) (xs : List ℕ) → s ≤ 3 → ((j : ℕ) → j < length xs → get_or xs j 0 ≤ 3) → (j : ℕ) → j < length xs → get_or (replace_at at s xs) j 0 ≤ 3
unfolding replace_at
replaced-small zero s xs a h j b = h j b
replaced-small (suc p) s xs a h j b = go (ℕ_discrete j p)
  where
    go : Dec (j ≡ p) → get_or (set xs p s) j 0 ≤ 3
    go (yes q) = rw q (rw (get_or-set_same xs p s 0 (omega arith)) a)
    go (no q) = rw (get_or-set_other xs p j s 0 q) (h j b)

pub damaged-small : (ds : List Damage) (xs : List ℕ) → have_symbols ds ≡ true → ((j : ℕ) → j < length xs → get_or xs j 0 ≤ 3) → (j : ℕ) → j < length xs → get_or (damaged ds xs) j 0 ≤ 3
unfolding damaged have_symbols
damaged-small [] xs a h j b = h j b
damaged-small (d ∷ ds) xs a h j b =
    let l = length-replaced d.at d.symbol xs in
    let small = leb-true d.symbol 3 (and_left (is_symbol d.symbol) (have_symbols ds) a) in
    damaged-small ds (replace_at d.at d.symbol xs) (and_right (is_symbol d.symbol) (have_symbols ds) a) (λ i c. replaced-small d.at d.symbol xs small h i (omega arith)) j (omega arith)
