-- The code's runs: twenty in every format. They are the layout's, and a range of control bits that the table does not list has no elements.
-- So the digits at them are written and read as at the layout's runs.
use Rattle.timecode.specs.declared.Refusal.{Refusal}
use Rattle.timecode.specs.declared.Reading.{Reading}
use Rattle.std.specs.Prelude.{◌≡◌, refl, Bool, true, false, cond, ◌&&◌, ◌||◌, List, [], ◌∷◌, ◌++◌, map, ℕ, zero, suc, ◌+◌, ◌*◌, ◌/◌, ◌%◌, ◌^◌, eqb, get_or, length, Result}
use Rattle.std.proofs.Common.{sym, ap, ◌∙◌, div-one, one-mul, zero-add, arith, eqb-true}
use Rattle.timecode.specs.Formats.{member, is_x, table, look_up, row_of, known, size, carries_control, carries_seconds, carries_year, control_places}
use Rattle.timecode.specs.Frames.{Valid, total_width, written, covered, marks_agree, element_fits, check_elements}
use Rattle.timecode.specs.Laws.Fields.{Binary}
use Rattle.timecode.proofs.Laws.Fields.{binary-small}
use Rattle.timecode.proofs.Laws.Reading.{straight-binary, control-binary}
use Rattle.timecode.specs.Laws.Runs.{proper, clear}
use Rattle.timecode.proofs.Laws.Runs.{in-run, small-append}
use Rattle.timecode.specs.Laws.Table.{every_format}
use Rattle.timecode.proofs.Laws.Table.{in_lines, of-every}
use Rattle.timecode.proofs.Laws.Tests.{by-test}
use Rattle.timecode.proofs.Laws.Times.{time-small}
use Rattle.timecode.proofs.Laws.Writing.{years-small}
use Rattle.timecode.specs.Layout.{
  Run,
  Field,
  binary_if,
  seconds,
  minutes,
  hours,
  days,
  tenths,
  hundredths_digit,
  has_seconds,
  straight_seconds,
  control,
  years,
  time_fields,
  fields,
  flatten,
  runs,
  time_numbers,
  numbers,
  field_digits,
  all_digits,
  Small,
  in_run,
  bit_of,
  place_of,
  is_mark,
  filler,
  symbol_at,
  tabulate,
  encode,
  value,
  digit_in,
  number_in,
}
use Rattle.timecode.specs.declared.Format.{Format}
use Rattle.timecode.specs.declared.Time.{Time}

-- nine control bits, where the format has them
unfoldable pub code_range : Format → ℕ → Run
code_range f start = binary_if (carries_control f && member start (control_places f)) start 9

unfoldable pub code_control : Format → Field
code_control f = map (code_range f) (50 ∷ 60 ∷ 70 ∷ 80 ∷ 90 ∷ [])

unfoldable pub code_fields : Format → List Field
code_fields f = time_fields f ++ (straight_seconds f ∷ code_control f ∷ years f ∷ [])

unfoldable pub code_runs : Format → List Run
code_runs f = flatten (code_fields f)

-- ---- runs without elements change nothing

-- the runs that have elements
abbrev carried_runs : Field → Field
carried_runs [] = []
carried_runs (r ∷ rs) = cond (eqb r.width 0) (carried_runs rs) (r ∷ carried_runs rs)

none_in : (r : Run) (i : ℕ) → r.width ≡ 0 → in_run r i ≡ false
none_in r i h = by-test (in_run r i) (λ y. let z : ⊥ = omega (arith, in-run r i y) in absurd z) (λ m. m)

held_carried : (rs : Field) (i : ℕ) → covered (carried_runs rs) i ≡ covered rs i
held_carried [] i = refl
held_carried (r ∷ rs) i =
    by-test (eqb r.width 0)
    (λ y. rw (y, none_in r i (eqb-true r.width 0 y)) (held_carried rs i))
    (λ n. rw n (ap (λ (b : Bool). in_run r i || b) (held_carried rs i)))

width-carried : (rs : Field) → total_width (carried_runs rs) ≡ total_width rs
width-carried [] = refl
width-carried (r ∷ rs) =
    by-test (eqb r.width 0)
    (λ y. let z = eqb-true r.width 0 y in rw y (omega (arith, width-carried rs)))
    (λ n. rw n (ap (λ (k : ℕ). r.width + k) (width-carried rs)))

radix-one : (r : Run) → r.radix ≡ 2 ^ r.width → r.width ≡ 0 → r.radix ≡ 1
radix-one r b h = b ∙ ap (λ (n : ℕ). 2 ^ n) h

digit-none : (frame : List ℕ) (r : Run) → r.width ≡ 0 → digit_in frame r ≡ 0
unfolding value
digit-none frame r h = ap (λ (n : ℕ). value n (λ b. get_or frame (place_of r b) 0)) h

number-carried : (frame : List ℕ) (rs : Field) → Binary rs → number_in frame (carried_runs rs) ≡ number_in frame rs
number-carried frame [] b = refl
number-carried frame (r ∷ rs) b =
    by-test (eqb r.width 0)
    (λ y.
    let z = eqb-true r.width 0 y in
    rw (y, digit-none frame r z, radix-one r b.0 z) (number-carried frame rs b.1 ∙ sym (zero-add (1 * number_in frame rs) ∙ one-mul (number_in frame rs))))
    (λ n. rw n (ap (λ (k : ℕ). digit_in frame r + r.radix * k) (number-carried frame rs b.1)))

symbol-carried : (fillers : ℕ → ℕ) (rs : Field) (x i : ℕ) → Binary rs → symbol_at fillers (carried_runs rs) (field_digits (carried_runs rs) x) i ≡ symbol_at fillers rs (field_digits rs x) i
unfolding symbol_at
symbol-carried fillers [] x i b = refl
symbol-carried fillers (r ∷ rs) x i b =
    by-test (eqb r.width 0)
    (λ y.
    let z = eqb-true r.width 0 y in
    rw (y, none_in r i z, radix-one r b.0 z, div-one x) (symbol-carried fillers rs x i b.1))
    (λ n. rw n (ap (λ (k : ℕ). cond (in_run r i) (x % r.radix / 2 ^ bit_of r i % 2) k) (symbol-carried fillers rs (x / r.radix) i b.1)))

-- ---- the control ranges that have elements are the table's

listed-carried : (f : Format) → carried_runs (map (λ (start : ℕ). binary_if (carries_control f && member start (row_of f).control) start 9) (50 ∷ 60 ∷ 70 ∷ 80 ∷ 90 ∷ [])) ≡ carried_runs (map (λ (start : ℕ). binary_if (carries_control f) start 9) (row_of f).control)
unfolding row_of table
listed-carried f =
    in_lines
    (λ r. (b : Bool) → carried_runs (map (λ (start : ℕ). binary_if (b && member start r.control) start 9) (50 ∷ 60 ∷ 70 ∷ 80 ∷ 90 ∷ [])) ≡ carried_runs (map (λ (start : ℕ). binary_if b start 9) r.control))
    (λ b. by-test b (λ y. rw y) (λ n. rw n)) table (
      λ b. by-test b (λ y. rw y) (λ n. rw n),
      (
        λ b. by-test b (λ y. rw y) (λ n. rw n),
        (
          λ b. by-test b (λ y. rw y) (λ n. rw n),
          (
            λ b. by-test b (λ y. rw y) (λ n. rw n),
            (
              λ b. by-test b (λ y. rw y) (λ n. rw n),
              (
                λ b. by-test b (λ y. rw y) (λ n. rw n),
                (
                  λ b. by-test b (λ y. rw y) (λ n. rw n),
                  tt,
                ),
              ),
            ),
          ),
        ),
      ),
    )
    f.letter (carries_control f)

same-carried : (f : Format) → carried_runs (code_control f) ≡ carried_runs (control f)
unfolding code_control code_range control control_places
same-carried f =
    by-test (carries_year f)
    (λ y. rw y (by-test (carries_control f) (λ y. rw y) (λ n. rw n)))
    (λ n. rw n (listed-carried f))

pub code-binary : (f : Format) → Binary (code_control f)
unfolding code_control code_range
code-binary f = (refl, (refl, (refl, (refl, (refl, tt)))))

pub code-width : (f : Format) → total_width (code_control f) ≡ total_width (control f)
code-width f = sym (width-carried (code_control f)) ∙ ap total_width (same-carried f) ∙ width-carried (control f)

pub code-number : (f : Format) (frame : List ℕ) → number_in frame (code_control f) ≡ number_in frame (control f)
code-number f frame = sym (number-carried frame (code_control f) (code-binary f)) ∙ ap (number_in frame) (same-carried f) ∙ number-carried frame (control f) (control-binary f)

control-symbol : (f : Format) (fillers : ℕ → ℕ) (w i : ℕ) → symbol_at fillers (code_control f) (field_digits (code_control f) w) i ≡ symbol_at fillers (control f) (field_digits (control f) w) i
control-symbol f fillers w i =
    sym (symbol-carried fillers (code_control f) w i (code-binary f))
    ∙ ap (λ (rs : Field). symbol_at fillers rs (field_digits rs w) i) (same-carried f)
    ∙ symbol-carried fillers (control f) w i (control-binary f)

-- ---- behind the same runs, and before them

held-front : (ps rs qs : List Run) (i : ℕ) → covered rs i ≡ covered qs i → covered (ps ++ rs) i ≡ covered (ps ++ qs) i
held-front [] rs qs i h = h
held-front (p ∷ ps) rs qs i h = ap (λ (b : Bool). in_run p i || b) (held-front ps rs qs i h)

held-parts : (rs ps : List Run) (i : ℕ) → covered (rs ++ ps) i ≡ (covered rs i || covered ps i)
held-parts [] ps i = refl
held-parts (r ∷ rs) ps i = by-test (in_run r i) (λ y. rw y) (λ n. rw n (held-parts rs ps i))

symbol-front : (fillers : ℕ → ℕ) (ps rs qs : List Run) (xs ys zs : List ℕ) (i : ℕ) → length xs ≡ length ps → symbol_at fillers rs ys i ≡ symbol_at fillers qs zs i
    → symbol_at fillers (ps ++ rs) (xs ++ ys) i ≡ symbol_at fillers (ps ++ qs) (xs ++ zs) i
unfolding symbol_at
symbol-front fillers [] rs qs [] ys zs i l h = h
symbol-front fillers [] rs qs (x ∷ xs) ys zs i l h = let z : ⊥ = omega arith in absurd z
symbol-front fillers (p ∷ ps) rs qs [] ys zs i l h = let z : ⊥ = omega arith in absurd z
symbol-front fillers (p ∷ ps) rs qs (x ∷ xs) ys zs i l h = ap (λ (k : ℕ). cond (in_run p i) (x / 2 ^ bit_of p i % 2) k) (symbol-front fillers ps rs qs xs ys zs i (omega arith) h)

-- the runs behind a field are what fills the rest
symbol-parts : (fillers : ℕ → ℕ) (rs : Field) (ps : List Run) (x : ℕ) (ys : List ℕ) (i : ℕ) → symbol_at fillers (rs ++ ps) (field_digits rs x ++ ys) i ≡ symbol_at (symbol_at fillers ps ys) rs (field_digits rs x) i
unfolding symbol_at
symbol-parts fillers [] ps x ys i = refl
symbol-parts fillers (r ∷ rs) ps x ys i = ap (λ (k : ℕ). cond (in_run r i) (x % r.radix / 2 ^ bit_of r i % 2) k) (symbol-parts fillers rs ps (x / r.radix) ys i)

pub code-held : (f : Format) (i : ℕ) → covered (code_runs f) i ≡ covered (runs f) i
unfolding code_runs code_fields runs fields time_fields seconds minutes hours days tenths hundredths_digit straight_seconds
code-held f i =
    let same : covered (code_control f) i ≡ covered (control f) i = sym (held_carried (code_control f) i) ∙ ap (λ (rs : Field). covered rs i) (same-carried f) ∙ held_carried (control f) i in
    let last : covered (code_control f ++ (years f ++ [])) i ≡ covered (control f ++ (years f ++ [])) i =
    held-parts (code_control f) (years f ++ []) i ∙ ap (λ (b : Bool). b || covered (years f ++ []) i) same ∙ sym (held-parts (control f) (years f ++ []) i) in
    held-front (flatten (time_fields f)) (straight_seconds f ++ (code_control f ++ (years f ++ []))) (straight_seconds f ++ (control f ++ (years f ++ []))) i
    (held-front (straight_seconds f) (code_control f ++ (years f ++ [])) (control f ++ (years f ++ [])) i last)

code-symbol : (f : Format) (t : Time) (w i : ℕ) → symbol_at (filler f) (code_runs f) (all_digits (code_fields f) (numbers f t w)) i ≡ symbol_at (filler f) (runs f) (all_digits (fields f) (numbers f t w)) i
unfolding code_runs code_fields runs fields time_fields seconds minutes hours days tenths hundredths_digit straight_seconds numbers time_numbers
code-symbol f t w i =
    let year = field_digits (years f) t.year ++ [] in
    let behind = symbol_at (filler f) (years f ++ []) year in
    let last : symbol_at (filler f) (code_control f ++ (years f ++ [])) (field_digits (code_control f) w ++ year) i ≡ symbol_at (filler f) (control f ++ (years f ++ [])) (field_digits (control f) w ++ year) i =
    symbol-parts (filler f) (code_control f) (years f ++ []) w year i ∙ control-symbol f behind w i ∙ sym (symbol-parts (filler f) (control f) (years f ++ []) w year i) in
    symbol-front (filler f) (flatten (time_fields f)) (straight_seconds f ++ (code_control f ++ (years f ++ []))) (straight_seconds f ++ (control f ++ (years f ++ []))) (all_digits (time_fields f) (time_numbers f t))
    (field_digits (straight_seconds f) (t.hundredths / 100) ++ (field_digits (code_control f) w ++ year)) (field_digits (straight_seconds f) (t.hundredths / 100) ++ (field_digits (control f) w ++ year)) i refl
    (symbol-front (filler f) (straight_seconds f) (code_control f ++ (years f ++ [])) (control f ++ (years f ++ [])) (field_digits (straight_seconds f) (t.hundredths / 100)) (field_digits (code_control f) w ++ year) (field_digits (control f) w ++ year) i refl last)

same-tabulate : (n i : ℕ) (g h : ℕ → ℕ) → ((k : ℕ) → g k ≡ h k) → tabulate n i g ≡ tabulate n i h
same-tabulate zero i g h e = refl
same-tabulate (suc n) i g h e = rw (e i) (ap (λ (xs : List ℕ). h i ∷ xs) (same-tabulate n (suc i) g h e))

-- ---- what the code's functions are proved by

pub code-written : (f : Format) (t : Time) (w : ℕ) → encode (size f) (filler f) (code_runs f) (all_digits (code_fields f) (numbers f t w)) ≡ written f t w
unfolding written encode
code-written f t w = same-tabulate (size f) 0 _ _ (code-symbol f t w)

pub code-elements : (f : Format) (i : ℕ) (ss : List ℕ) (a : Result Reading Refusal) → check_elements (filler f) (code_runs f) i ss a ≡ check_elements (filler f) (runs f) i ss a
unfolding check_elements marks_agree element_fits
code-elements f i [] a = refl
code-elements f i (s ∷ ss) a = rw (code-held f i, code-elements f (suc i) ss a)

pub code-small : (f : Format) (t : Time) (w : ℕ) → Valid f t w → Small (code_runs f) (all_digits (code_fields f) (numbers f t w))
unfolding code_runs code_fields time_fields numbers time_numbers seconds minutes hours days tenths hundredths_digit
code-small f t w v =
    let year = field_digits (years f) t.year ++ [] in
    small-append (flatten (time_fields f)) (straight_seconds f ++ (code_control f ++ (years f ++ []))) (all_digits (time_fields f) (time_numbers f t)) (field_digits (straight_seconds f) (t.hundredths / 100) ++ (field_digits (code_control f) w ++ year))
    (time-small f t v.format v.time)
    (small-append (straight_seconds f) (code_control f ++ (years f ++ [])) (field_digits (straight_seconds f) (t.hundredths / 100)) (field_digits (code_control f) w ++ year) (binary-small (straight_seconds f) (t.hundredths / 100) (straight-binary f))
    (small-append (code_control f) (years f ++ []) (field_digits (code_control f) w) year (binary-small (code_control f) w (code-binary f)) (small-append (years f) [] (field_digits (years f) t.year) [] (years-small f t v.time) tt)))

all-proper : every_format (λ f. proper (size f) (filler f) (code_runs f)) ≡ true
unfolding every_format table is_x proper clear size row_of look_up filler is_mark code_runs code_fields time_fields seconds minutes hours days tenths hundredths_digit straight_seconds has_seconds carries_seconds code_control code_range carries_control carries_year control_places years
all-proper = refl

pub code-proper : (f : Format) → known f ≡ true → proper (size f) (filler f) (code_runs f) ≡ true
code-proper = of-every (λ f. proper (size f) (filler f) (code_runs f)) all-proper
