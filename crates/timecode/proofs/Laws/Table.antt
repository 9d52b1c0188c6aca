-- What holds for every line of the table, and what a computed test shows for every format.
use Rattle.std.specs.Prelude.{◌≡◌, refl, Bool, true, false, cond, ◌&&◌, ◌||◌, List, [], ◌∷◌, ◌⊎◌, ℕ, ◌≤◌, leb, eqb}
use Rattle.std.proofs.Common.{sym, subst, inl, inr, leb-true, eqb-true}
use Rattle.timecode.specs.Formats.{member, A, B, D, E, G, H, X, is_x, Row, table, no_row, look_up, row_of, known, size, interval, carries_control, carries_seconds, carries_year, control_places}
use Rattle.timecode.specs.Frames.{total_width}
use Rattle.timecode.specs.Laws.Runs.{clear, proper}
use Rattle.timecode.proofs.Laws.Tests.{by-test, clash, and_left, and_right, or-other}
use Rattle.timecode.specs.Layout.{seconds, minutes, hours, days, tenths, hundredths_digit, has_seconds, straight_seconds, control, years, time_fields, fields, runs, is_mark, filler}
use Rattle.timecode.specs.declared.Format.{Format}
use Rattle.timecode.specs.Laws.Table.{Lines, every_row, every_expression, every_line, every_format}

-- ---- line by line

pub in_lines : (P : Row → Type 0) → P no_row → (rs : List Row) → Lines P rs → (l : ℕ) → P (look_up l rs)
unfolding look_up
in_lines P n [] ps l = n
in_lines P n (r ∷ rs) ps l = by-test (eqb r.letter l) (λ y. rw y ps.0) (λ m. rw m (in_lines P n rs ps.1 l))

of-rows : (p : Row → Bool) (l : ℕ) (rs : List Row) → every_row p rs ≡ true → p (look_up l rs) ≡ true
unfolding look_up
of-rows p l [] h = h
of-rows p l (r ∷ rs) h = by-test (eqb r.letter l) (λ y. rw y (and_left (p r) (every_row p rs) h)) (λ m. rw m (of-rows p l rs (and_right (p r) (every_row p rs) h)))

pub of_row : (p : Row → Bool) → every_row p table ≡ true → (f : Format) → p (row_of f) ≡ true
unfolding row_of
of_row p h f = of-rows p f.letter table h

-- a number of every line lies in a range
in-range : (g : Row → ℕ) (a b : ℕ) → every_row (λ r. leb a (g r) && leb (g r) b) table ≡ true → (f : Format) → (a ≤ g (row_of f)) × (g (row_of f) ≤ b)
in-range g a b h f =
    let r = row_of f in
    let both = of_row (λ r. leb a (g r) && leb (g r) b) h f in
    (leb-true a (g r) (and_left (leb a (g r)) (leb (g r) b) both), leb-true (g r) b (and_right (leb a (g r)) (leb (g r) b) both))

pub size-range : (f : Format) → (25 ≤ size f) × (size f ≤ 100)
unfolding size table
size-range f = in-range (λ r. r.elements) 25 100 refl f

pub interval-range : (f : Format) → (1 ≤ interval f) × (interval f ≤ 360000)
unfolding interval table
interval-range f = in-range (λ r. r.interval) 1 360000 refl f

-- the line of another letter than X is not X's
not-x-line : (l : ℕ) (rs : List Row) → eqb l X ≡ false → eqb (look_up l rs).letter X ≡ false
unfolding look_up
not-x-line l [] h = refl
not-x-line l (r ∷ rs) h = by-test (eqb r.letter l) (λ y. rw y (rw (eqb-true r.letter l y) h)) (λ m. rw m (not-x-line l rs h))

row-not-x : (f : Format) → eqb f.letter X ≡ false → eqb (row_of f).letter X ≡ false
unfolding row_of
row-not-x f x = not-x-line f.letter table x

-- a frame has 60 elements or 100, in X 25
sizes : (f : Format) → is_x f ≡ false → (size f ≡ 60) ⊎ (size f ≡ 100)
unfolding size is_x table
sizes f x =
    let n = (row_of f).elements in
    let one = or-other (eqb (row_of f).letter X) (eqb n 60 || eqb n 100) (row-not-x f x) (of_row (λ r. eqb r.letter X || (eqb r.elements 60 || eqb r.elements 100)) refl f) in
    by-test (eqb n 60) (λ y. inl (eqb-true n 60 y)) (λ m. inr (eqb-true n 100 (or-other (eqb n 60) (eqb n 100) m one)))

pub two-sizes : (P : ℕ → Type 0) → P 60 → P 100 → (f : Format) → is_x f ≡ false → P (size f)
two-sizes P a b f x = go (sizes f x)
  where
    go : (size f ≡ 60) ⊎ (size f ≡ 100) → P (size f)
    go (inl p) = subst P (sym p) a
    go (inr p) = subst P (sym p) b

pub x-size : (f : Format) → is_x f ≡ true → size f ≡ 25
unfolding size row_of table look_up is_x
x-size f x = rw (eqb-true f.letter X x)

-- X carries no year
pub x-no-year : (f : Format) → is_x f ≡ true → carries_year f ≡ false
unfolding is_x carries_year
x-no-year f x = rw (eqb-true f.letter X x) (no_year (member f.expression (4 ∷ 5 ∷ 6 ∷ 7 ∷ [])))
  where
    no_year : (b : Bool) → (b && false) ≡ false
    no_year true = refl
    no_year false = refl

pub year-not-x : (f : Format) → carries_year f ≡ true → is_x f ≡ false
year-not-x f y = by-test (is_x f) (λ x. clash y (x-no-year f x)) (λ m. m)

-- the letter of a known format is one of seven
pub by-letter : (P : ℕ → Type 0) → P A → P B → P D → P E → P G → P H → P X → (f : Format) → known f ≡ true → P f.letter
unfolding known row_of look_up table
by-letter P a b d e g h x f k =
    by-test (eqb A f.letter)
    (λ y. subst P (eqb-true A f.letter y) a)
    (λ not_a.
    by-test (eqb B f.letter)
    (λ y. subst P (eqb-true B f.letter y) b)
    (λ not_b.
    by-test (eqb D f.letter)
    (λ y. subst P (eqb-true D f.letter y) d)
    (λ not_d.
    by-test (eqb E f.letter)
    (λ y. subst P (eqb-true E f.letter y) e)
    (λ not_e.
    by-test (eqb G f.letter)
    (λ y. subst P (eqb-true G f.letter y) g)
    (λ not_g.
    by-test (eqb H f.letter)
    (λ y. subst P (eqb-true H f.letter y) h)
    (λ not_h. by-test (eqb X f.letter) (λ y. subst P (eqb-true X f.letter y) x) (λ not_x. clash (rw (not_a, not_b, not_d, not_e, not_g, not_h, not_x) at k) refl)))))))

-- ---- format by format

of-expression : (p : Format → Bool) (f : Format) (es : List ℕ) → every_expression p f.letter es ≡ true → member f.expression es ≡ true → p f ≡ true
of-expression p f [] h m = clash m refl
of-expression p f (e ∷ es) h m =
    by-test (eqb f.expression e)
    (λ y. rw (← eqb-true f.expression e y) at (and_left (p (record { letter = f.letter; expression = e })) (every_expression p f.letter es) h))
    (λ n. of-expression p f es (and_right (p (record { letter = f.letter; expression = e })) (every_expression p f.letter es) h) (or-other (eqb f.expression e) (member f.expression es) n m))

of-line : (p : Format → Bool) (f : Format) (rs : List Row) → every_line p rs ≡ true → member f.expression (look_up f.letter rs).expressions ≡ true → p f ≡ true
unfolding look_up
of-line p f [] h m = clash m refl
of-line p f (r ∷ rs) h m =
    by-test (eqb r.letter f.letter)
    (λ y. of-expression p f r.expressions (rw (eqb-true r.letter f.letter y) at (and_left (every_expression p r.letter r.expressions) (every_line p rs) h)) (rw y at m))
    (λ n. of-line p f rs (and_right (every_expression p r.letter r.expressions) (every_line p rs) h) (rw n at m))

pub of-every : (p : Format → Bool) → every_format p ≡ true → (f : Format) → known f ≡ true → p f ≡ true
unfolding every_format known row_of
of-every p h f k = of-line p f table h k

-- X has no control bits
all-without-control : every_format (λ f. cond (is_x f) (eqb (total_width (control f)) 0) true) ≡ true
unfolding every_format table is_x row_of look_up control carries_control carries_year control_places
all-without-control = refl

pub x-no-control : (f : Format) → known f ≡ true → is_x f ≡ true → total_width (control f) ≡ 0
x-no-control f k x = eqb-true (total_width (control f)) 0 (rw x at (of-every (λ f. cond (is_x f) (eqb (total_width (control f)) 0) true) all-without-control f k))

all-proper : every_format (λ f. proper (size f) (filler f) (runs f)) ≡ true
unfolding every_format table is_x proper clear size row_of look_up filler is_mark runs fields time_fields seconds minutes hours days tenths hundredths_digit straight_seconds has_seconds carries_seconds control carries_control carries_year control_places years
all-proper = refl

-- every format's runs lie in the frame, hold no mark and do not overlap
pub layout-proper : (f : Format) → known f ≡ true → proper (size f) (filler f) (runs f) ≡ true
layout-proper = of-every (λ f. proper (size f) (filler f) (runs f)) all-proper
