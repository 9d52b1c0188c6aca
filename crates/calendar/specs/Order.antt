-- The order of moments, which windows hold a time, and that what is found next is the first start or end after it.
use Rattle.std.specs.Prelude.{◌≡◌, Bool, true, false, cond, List, [], ◌∷◌, ◌⊎◌, ℕ, zero, suc, ◌/◌, ◌%◌, ◌<◌, Option, Some, None}
use Rattle.timecode.specs.declared.Time.{Time}
use Rattle.calendar.specs.Moments.{earlier}

-- ---- by year, day, then hundredth

pub data Earlier (t u : Time) : Type 0 where
  by-year : t.year < u.year → Earlier t u
  by-day : t.year ≡ u.year → t.day < u.day → Earlier t u
  by-hundredth : t.year ≡ u.year → t.day ≡ u.day → t.hundredths < u.hundredths → Earlier t u

abbrev pub bit_at : ℕ → ℕ → ℕ
bit_at zero m = m % 2
bit_at (suc i) m = bit_at i (m / 2)

abbrev pub bit : Bool → ℕ
bit b = cond b 1 0

abbrev pub Every : (Time → Type 0) → List Time → Type 0
Every P [] = Unit
Every P (e ∷ es) = P e × Every P es

abbrev pub Any : (Time → Type 0) → List Time → Type 0
Any P [] = ⊥
Any P (e ∷ es) = P e ⊎ Any P es

-- the first of the moments that come after t
pub record First (t : Time) (es : List Time) (m : Time) : Type 0 where
  pub member : Any (λ e. e ≡ m) es
  pub after : earlier t m ≡ true
  pub least : Every (λ e. earlier t e ≡ true → earlier e m ≡ false) es

abbrev pub Answers : Time → List Time → Option Time → Type 0
Answers t es (Some m) = First t es m
Answers t es None = Every (λ e. earlier t e ≡ false) es
