-- The rows of the seven letters are the table's by computation. Here is what computation leaves: expressions in a row, editions, other letters, and what each expression carries.
use Rattle.std.specs.Prelude.{◌≡◌, true, false, ◌&&◌, ◌||◌, List, [], ◌∷◌, ℕ, zero, suc, ◌+◌, ◌≤◌, leb, eqb}
use Rattle.std.proofs.Math.Path.{refl}
use Rattle.std.proofs.Common.{sym, subst, ◌∙◌, arith}
use borrow.Author.Tests.{eqb-true, eqb-false, ne_eqb, leb-true, leb-false, le-leb, lt-leb}
use Rattle.std.specs.Int.Bits.{bit_and}
use Rattle.timecode.specs.Formats.{member, known, carries_leap, carries_year, A, B, D, E, G, H, X, is_x, table, no_row, look_up, row_of, carries_control, carries_seconds, control_places}
use Rattle.timecode.proofs.Laws.Tests.{by-test, clash, and_left, and_right, or-second}
use Rattle.timecode.specs.Layout.{tabulate, seconds, minutes, hours, days, tenths, hundredths_digit, has_seconds, straight_seconds, years, time_fields}
use Rattle.timecode.specs.declared.Format.{Format}
use Rattle.layout.specs.Runs.{code_range, code_control, code_fields, code_runs}
use Rattle.layout.specs.Tables.{starts_of, widths_of, with_letter, full_of, run_starts, run_widths, runs_in, clear_seconds, clear_control, carried_in, has_year, without_year}

-- e is one of the n numbers from a on, of which last is the last
pub in_row : (n a last : ℕ) → a + n ≡ suc last → (e : ℕ) → member e (tabulate n a (λ (j : ℕ). j)) ≡ (leb a e && leb e last)
in_row zero a last q e =
    by-test (leb a e)
    (λ y. let z = leb-true a e y in rw (y, lt-leb e last (omega arith)))
    (λ m. rw m)
in_row (suc n) a last q e =
    by-test (eqb e a)
    (λ y.
    let z = eqb-true e a y in
    rw (y, le-leb a e (omega arith), le-leb e last (omega arith)))
    (λ m.
    let z = eqb-false e a m in
    rw (m, in_row n (suc a) last (omega arith) e)
    (by-test (leb a e)
    (λ y. let u = leb-true a e y in rw (y, le-leb (suc a) e (omega arith)))
    (λ w. let u = leb-false a e w in rw (w, lt-leb (suc a) e (omega arith)))))

-- of the expressions 0 to 7 the first four have no year, the last four have it
pub earlier-row : (e : ℕ) → has_year e ≡ false → member e (0 ∷ 1 ∷ 2 ∷ 3 ∷ 4 ∷ 5 ∷ 6 ∷ 7 ∷ []) ≡ (leb 0 e && leb e 3)
unfolding has_year
earlier-row e n = rw n (in_row 4 0 3 refl e)

pub later-row : (e : ℕ) → has_year e ≡ true → member e (0 ∷ 1 ∷ 2 ∷ 3 ∷ 4 ∷ 5 ∷ 6 ∷ 7 ∷ []) ≡ (leb 4 e && leb e 7)
unfolding has_year
later-row e y =
    let three = member e (3 ∷ 4 ∷ 5 ∷ 6 ∷ 7 ∷ []) in
    let two = eqb e 2 || three in
    or-second (eqb e 0) (eqb e 1 || two) (or-second (eqb e 1) two (or-second (eqb e 2) three (or-second (eqb e 3) (member e (4 ∷ 5 ∷ 6 ∷ 7 ∷ [])) y))) ∙ sym (sym (in_row 4 4 7 refl e) ∙ y)

-- a format that carries the year is known
pub year-known : (f : Format) → carries_year f ≡ true → known f ≡ true
unfolding carries_year has_year known row_of look_up table
year-known f y =
    let e = f.expression in
    let h : has_year e ≡ true = and_left (has_year e) (member f.letter (A ∷ B ∷ [])) y in
    let l : member f.letter (A ∷ B ∷ []) ≡ true = and_right (has_year e) (member f.letter (A ∷ B ∷ [])) y in
    let all : member e (0 ∷ 1 ∷ 2 ∷ 3 ∷ 4 ∷ 5 ∷ 6 ∷ 7 ∷ []) ≡ true = later-row e h ∙ sym (in_row 4 4 7 refl e) ∙ h in
    by-test (eqb f.letter A)
    (λ a. rw (eqb-true f.letter A a) all)
    (λ n. let b : eqb f.letter B || false ≡ true = rw n at l in by-test (eqb f.letter B) (λ z. rw (eqb-true f.letter B z) all) (λ m. clash b (rw m)))

-- a letter that takes the year has none where its format has none
pub no_year : (l e : ℕ) → member l (A ∷ B ∷ []) ≡ true → carries_year (with_letter l e) ≡ false → has_year e ≡ false
unfolding carries_year has_year
no_year l e y n = by-test (has_year e) (λ h. clash {b = true} refl (rw (h, y) at n)) (λ m. m)

-- and has one where its format has one
pub year-of : (l e : ℕ) → carries_year (with_letter l e) ≡ true → has_year e ≡ true
unfolding carries_year has_year
year-of l e y = and_left (has_year e) (member l (A ∷ B ∷ [])) y

pub other-year : (l e : ℕ) → (l ≡ A → ⊥) → (l ≡ B → ⊥) → carries_year (with_letter l e) ≡ false
unfolding carries_year
other-year l e a b = by-test (member e (4 ∷ 5 ∷ 6 ∷ 7 ∷ [])) (λ y. rw (y, ne_eqb l A a, ne_eqb l B b)) (λ n. rw n)

-- the numbers of an expression with the year
pub year-from-4 : (e : ℕ) → has_year e ≡ true → 4 ≤ e
unfolding has_year
year-from-4 e y = leb-true 4 e (and_left (leb 4 e) (leb e 7) (sym (in_row 4 4 7 refl e) ∙ y))

-- a letter that is none of the seven
pub record Other (l : ℕ) : Type 0 where
  pub not_a : l ≡ A → ⊥
  pub not_b : l ≡ B → ⊥
  pub not_d : l ≡ D → ⊥
  pub not_e : l ≡ E → ⊥
  pub not_g : l ≡ G → ⊥
  pub not_h : l ≡ H → ⊥
  pub not_x : l ≡ X → ⊥

pub other_row : (l : ℕ) → Other l → look_up l table ≡ no_row
unfolding look_up table
other_row l o =
    rw (
      ne_eqb A l (λ q. o.not_a (sym q)),
      ne_eqb B l (λ q. o.not_b (sym q)),
      ne_eqb D l (λ q. o.not_d (sym q)),
      ne_eqb E l (λ q. o.not_e (sym q)),
      ne_eqb G l (λ q. o.not_g (sym q)),
      ne_eqb H l (λ q. o.not_h (sym q)),
      ne_eqb X l (λ q. o.not_x (sym q)),
    )

pub other-widths : (l : ℕ) → Other l → widths_of (with_letter l 0) ≡ 0 ∷ 0 ∷ 0 ∷ 0 ∷ 4 ∷ 2 ∷ 4 ∷ 4 ∷ 2 ∷ 0 ∷ 0 ∷ 0 ∷ 0 ∷ 0 ∷ 0 ∷ 0 ∷ 0 ∷ 0 ∷ 0 ∷ 0 ∷ []
unfolding widths_of code_runs code_fields time_fields seconds minutes hours days tenths hundredths_digit straight_seconds has_seconds carries_seconds code_control code_range carries_control carries_year control_places years row_of is_x
other-widths l o =
    rw (
      other_row l o,
      ne_eqb l A o.not_a,
      ne_eqb l B o.not_b,
      ne_eqb l E o.not_e,
      ne_eqb l G o.not_g,
      ne_eqb l H o.not_h,
      ne_eqb l X o.not_x,
    )

-- ---- what each expression carries, from what its edition's first does

abbrev Carried : ℕ → ℕ → Type 0
Carried l e = carried_in (without_year e) (widths_of (full_of (with_letter l e))) ≡ widths_of (with_letter l e)

as-it-is : (e : ℕ) → (e ≡ 4 → ⊥) → (e ≡ 5 → ⊥) → (e ≡ 6 → ⊥) → (e ≡ 7 → ⊥) → without_year e ≡ e
unfolding without_year has_year
as-it-is e p q r s = rw (ne_eqb e 4 p, ne_eqb e 5 q, ne_eqb e 6 r, ne_eqb e 7 s)

module _ (l : ℕ) where
  carried-4 : Carried l 4
  unfolding widths_of code_runs code_fields time_fields seconds minutes hours days tenths hundredths_digit straight_seconds has_seconds carries_seconds code_control code_range carries_control carries_year control_places years row_of is_x carried_in without_year has_year
  carried-4 = by-test (member l (A ∷ B ∷ [])) (λ y. rw y) (λ n. rw n)

  carried-5 : Carried l 5
  unfolding widths_of code_runs code_fields time_fields seconds minutes hours days tenths hundredths_digit straight_seconds has_seconds carries_seconds code_control code_range carries_control carries_year control_places years row_of is_x carried_in without_year has_year
  carried-5 = by-test (member l (A ∷ B ∷ [])) (λ y. rw y) (λ n. rw n)

  carried-6 : Carried l 6
  unfolding widths_of code_runs code_fields time_fields seconds minutes hours days tenths hundredths_digit straight_seconds has_seconds carries_seconds code_control code_range carries_control carries_year control_places years row_of is_x carried_in without_year has_year
  carried-6 = by-test (member l (A ∷ B ∷ [])) (λ y. rw y) (λ n. rw n)

  carried-7 : Carried l 7
  unfolding widths_of code_runs code_fields time_fields seconds minutes hours days tenths hundredths_digit straight_seconds has_seconds carries_seconds code_control code_range carries_control carries_year control_places years row_of is_x carried_in without_year has_year
  carried-7 = by-test (member l (A ∷ B ∷ [])) (λ y. rw y) (λ n. rw n)

  carried-0 : Carried l 0
  unfolding widths_of code_runs code_fields time_fields seconds minutes hours days tenths hundredths_digit straight_seconds has_seconds carries_seconds code_control code_range carries_control carries_year control_places years row_of is_x carried_in without_year has_year
  carried-0 = refl

  carried-1 : Carried l 1
  unfolding widths_of code_runs code_fields time_fields seconds minutes hours days tenths hundredths_digit straight_seconds has_seconds carries_seconds code_control code_range carries_control carries_year control_places years row_of is_x carried_in without_year has_year
  carried-1 = refl

  carried-3 : Carried l 3
  unfolding widths_of code_runs code_fields time_fields seconds minutes hours days tenths hundredths_digit straight_seconds has_seconds carries_seconds code_control code_range carries_control carries_year control_places years row_of is_x carried_in without_year has_year
  carried-3 = refl

  carried_other : (e : ℕ) → (e ≡ 0 → ⊥) → (e ≡ 1 → ⊥) → (e ≡ 3 → ⊥) → (e ≡ 4 → ⊥) → (e ≡ 5 → ⊥) → (e ≡ 6 → ⊥) → (e ≡ 7 → ⊥) → Carried l e
  unfolding widths_of code_runs code_fields time_fields seconds minutes hours days tenths hundredths_digit straight_seconds has_seconds carries_seconds code_control code_range carries_control carries_year control_places years row_of is_x carried_in
  carried_other e a b c p q r s = rw (as-it-is e p q r s, ne_eqb e 0 a, ne_eqb e 1 b, ne_eqb e 3 c, ne_eqb e 4 p, ne_eqb e 5 q, ne_eqb e 6 r, ne_eqb e 7 s)

  -- it is one of these numbers, or none of them
  or_else : (P : ℕ → Type 0) (e k : ℕ) → P k → ((e ≡ k → ⊥) → P e) → P e
  or_else P e k h o = by-test (eqb e k) (λ y. subst P (sym (eqb-true e k y)) h) (λ n. o (eqb-false e k n))

  pub carried-widths : (e : ℕ) → Carried l e
  carried-widths e =
      or_else (Carried l) e 0 carried-0
      (λ a.
      or_else (Carried l) e 1 carried-1
      (λ b.
      or_else (Carried l) e 3 carried-3
      (λ c.
      or_else (Carried l) e 4 carried-4
      (λ p.
      or_else (Carried l) e 5 carried-5
      (λ q.
      or_else (Carried l) e 6 carried-6
      (λ r.
      or_else (Carried l) e 7 carried-7
      (λ s. carried_other e a b c p q r s)))))))

-- a set of runs has an edition's widths, if it has what each of the four kinds of expression carries
pub as-carried : (n : ℕ) (ws : List ℕ) → run_widths (bit_and n 1048575) ≡ ws → run_widths (bit_and n 1042431) ≡ clear_seconds ws → run_widths (bit_and n 794623) ≡ clear_control ws → run_widths (bit_and n 788479) ≡ clear_control (clear_seconds ws)
    → (e : ℕ) → run_widths (bit_and n (runs_in e)) ≡ carried_in e ws
unfolding runs_in carried_in
as-carried n ws all no-seconds no-control neither e =
    by-test (eqb e 0)
    (λ y. rw y all)
    (λ a. rw a (by-test (eqb e 1) (λ y. rw y no-seconds) (λ b. rw b (by-test (eqb e 3) (λ y. rw y no-control) (λ c. rw c neither)))))

-- a letter that is none of the seven carries no leap second
pub other-leap : (l e : ℕ) → Other l → carries_leap (with_letter l e) ≡ false
unfolding carries_leap
other-leap l e o = rw (ne_eqb l A o.not_a, ne_eqb l B o.not_b, ne_eqb l G o.not_g)

-- the runs start where the layout says, in every format except X
pub same-starts : (f : Format) → is_x f ≡ false → starts_of f ≡ run_starts
unfolding starts_of code_runs code_fields time_fields seconds minutes hours days tenths hundredths_digit straight_seconds code_control code_range years
same-starts f x = rw x
