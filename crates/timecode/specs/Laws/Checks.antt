-- A chain of checks taken apart: an answer that is no refusal passed them all.
use Rattle.std.specs.Prelude.{◌≡◌, Bool, true, not, ◌&&◌, List, [], ◌∷◌, ℕ, zero, suc, leb, eqb}
use Rattle.timecode.specs.Answers.{refusal_number, Check}
use Rattle.timecode.specs.declared.Refusal.{Refusal}

-- the answer a is none of the refusals
abbrev pub Taken : {Any : Type 0} → (Refusal → Any) → Any → Type 0
Taken refused a = (r : Refusal) → refused r ≡ a → ⊥

-- the test of check number i of a list, counted from 0
abbrev pub test_at : List Check → ℕ → Bool
test_at [] i = true
test_at ((k, b) ∷ cs) zero = b
test_at ((k, b) ∷ cs) (suc i) = test_at cs i

-- every check of a list is passed
abbrev pub AllPass : List Check → Type 0
AllPass cs = (i : ℕ) → test_at cs i ≡ true

-- the same, one after the other
abbrev pub EachPasses : List Check → Type 0
EachPasses [] = Unit
EachPasses ((k, b) ∷ cs) = (b ≡ true) × EachPasses cs

-- no check of a list has this number
abbrev pub without_number : ℕ → List Check → Bool
without_number n [] = true
without_number n ((k, b) ∷ cs) = not (eqb (refusal_number k) n) && without_number n cs

-- every number of a list of checks is at most n
abbrev pub up_to : ℕ → List Check → Bool
up_to n [] = true
up_to n ((k, b) ∷ cs) = leb (refusal_number k) n && up_to n cs
