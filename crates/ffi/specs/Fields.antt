-- Each struct's number and fields are those of its answer's result; no refusal has the number 0, so that the number tells them apart.
use Rattle.std.specs.Prelude.{cond, List, [], ◌∷◌, ℕ, eqb, ℤ, pos, get_or}
use Rattle.timecode.specs.Answers.{Outcome}

-- ---- a result's parts, with 0 for what it has not

-- the first for a result that is a success, the second for a refusal
abbrev pub unless_refused : {Any : Type 0} → Outcome → Any → Any → Any
unless_refused s success refused = cond (eqb s.number 0) success refused

-- the values, or where there are none the zeros
abbrev pub or_zeros : List ℤ → List ℤ → List ℤ
or_zeros [] zeros = zeros
or_zeros (v ∷ vs) zeros = v ∷ vs

-- 1 where there are values, 0 where there are none
abbrev pub flag_of : List ℤ → ℕ
flag_of [] = 0
flag_of (v ∷ vs) = 1

-- the values of a success; where a call is refused or its answer has none, the zeros
abbrev pub values_in : Outcome → List ℤ → List ℤ
values_in s zeros = unless_refused s (or_zeros s.values zeros) zeros

abbrev pub flag_in : Outcome → ℕ
flag_in s = unless_refused s (flag_of s.values) 0

-- the index of a refusal, which 5, 6 and 25 alone have
abbrev pub index_in : Outcome → ℤ
index_in s = unless_refused s (pos 0) (get_or s.values 0 (pos 0))

-- those of a time, each zero
abbrev pub time_zeros : List ℤ → List ℤ
time_zeros others = pos 0 ∷ pos 0 ∷ pos 0 ∷ others

-- ---- each struct against its answer's result
