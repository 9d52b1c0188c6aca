-- Where the marks of a written frame stand, and of an accepted one: a frame begins with a mark and ends with what its format says.
use Rattle.timecode.specs.Answers.{accepted}
use Rattle.std.specs.Prelude.{◌≡◌, refl, true, false, not, ◌&&◌, List, ◌⊎◌, ℕ, ◌-◌, ◌%◌, ◌<◌, eqb, get_or, length}
use Rattle.std.proofs.Common.{sym, ap, ◌∙◌, inl, inr, arith, eqb-true, eq-eqb}
use Rattle.std.proofs.lemmas.Bool.{not-true}
use Rattle.timecode.specs.Formats.{is_x, table, look_up, row_of, known, size, carries_control, carries_seconds, carries_year, control_places}
use Rattle.timecode.specs.Frames.{covered, written, read_of, Valid}
use Rattle.timecode.proofs.Laws.Reading.{accepted-was-written}
use Rattle.timecode.proofs.Laws.Runs.{get_d-encode, covered-inside, small-length, symbol-free, symbol-covered}
use Rattle.timecode.specs.Laws.Table.{every_format}
use Rattle.timecode.proofs.Laws.Table.{size-range, of-every, layout-proper}
use Rattle.timecode.proofs.Laws.Tests.{by-test, clash, and_left, and_right, or-other}
use Rattle.timecode.proofs.Laws.Writing.{length-written, written_small}
use Rattle.timecode.specs.Layout.{seconds, minutes, hours, days, tenths, hundredths_digit, has_seconds, straight_seconds, control, years, time_fields, fields, runs, numbers, all_digits, is_mark, filler, ending, symbol_at}
use Rattle.timecode.specs.declared.Format.{Format}
use Rattle.timecode.specs.declared.Time.{Time}
use Rattle.timecode.specs.Laws.Marks.{EndsSo}

pub size-positive : (f : Format) → 0 < size f
size-positive f = omega (arith, size-range f)

pub size-large : (f : Format) → 1 < size f
size-large f = omega (arith, size-range f)

-- an element of a written frame
pub at-written : (f : Format) (t : Time) (w i : ℕ) → i < size f → get_or (written f t w) i 0 ≡ symbol_at (filler f) (runs f) (all_digits (fields f) (numbers f t w)) i
unfolding written
at-written f t w i h = get_d-encode (size f) (filler f) (runs f) (all_digits (fields f) (numbers f t w)) i h

-- an element that no digit or bit takes
filler-there : (f : Format) (t : Time) (w i : ℕ) → i < size f → covered (runs f) i ≡ false → get_or (written f t w) i 0 ≡ filler f i
filler-there f t w i h n = at-written f t w i h ∙ symbol-free (size f) (filler f) (runs f) (all_digits (fields f) (numbers f t w)) i n

-- a mark stands exactly where what fills the rest of a frame is a mark
pub mark-there : (f : Format) (t : Time) (w : ℕ) → Valid f t w → (i : ℕ) → i < size f → filler f i ≡ 2 → get_or (written f t w) i 0 ≡ 2
mark-there f t w v i h m =
    by-test (covered (runs f) i)
    (λ y. clash (eq-eqb (filler f i) 2 m) (covered-inside (size f) (filler f) (runs f) (layout-proper f v.format) i y).1)
    (λ n. filler-there f t w i h n ∙ m)

pub mark-only : (f : Format) (t : Time) (w : ℕ) → Valid f t w → (i : ℕ) → i < size f → get_or (written f t w) i 0 ≡ 2 → filler f i ≡ 2
mark-only f t w v i h k =
    let xs = all_digits (fields f) (numbers f t w) in
    let s : symbol_at (filler f) (runs f) xs i ≡ 2 = sym (at-written f t w i h) ∙ k in
    by-test (covered (runs f) i)
    (λ y. let n : ⊥ = omega (arith, s, symbol-covered (size f) (filler f) (runs f) xs (small-length (runs f) xs (written_small f t w v)) i y) in absurd n)
    (λ n. sym (filler-there f t w i h n) ∙ k)

mark-filler : (f : Format) (i : ℕ) → is_x f ≡ false → filler f i ≡ 2 → is_mark i ≡ true
unfolding filler
mark-filler f i x h = by-test (is_mark i) (λ y. y) (λ m. let z : ◌≡◌ {A = ℕ} 0 2 = rw (x, m) at h in let n : ⊥ = omega arith in absurd n)

-- marks stand at 0 and at 9, 19, ..; in X at 0 alone
pub mark-index : (f : Format) (i : ℕ) → is_x f ≡ false → filler f i ≡ 2 → (i ≡ 0) ⊎ (i % 10 ≡ 9)
unfolding is_mark
mark-index f i x h = by-test (eqb i 0) (λ y. inl (eqb-true i 0 y)) (λ m. inr (eqb-true (i % 10) 9 (or-other (eqb i 0) (eqb (i % 10) 9) m (mark-filler f i x h))))

pub x-mark-index : (f : Format) (i : ℕ) → is_x f ≡ true → filler f i ≡ 2 → i ≡ 0
unfolding filler
x-mark-index f i x h = by-test (eqb i 0) (λ y. eqb-true i 0 y) (λ m. let z : ◌≡◌ {A = ℕ} 3 2 = rw (x, m) at h in let n : ⊥ = omega arith in absurd n)

first-filler : (f : Format) → filler f 0 ≡ 2
unfolding filler is_mark
first-filler f = by-test (is_x f) (λ x. rw x) (λ n. rw n)

pub first-mark : (f : Format) (t : Time) (w : ℕ) → Valid f t w → get_or (written f t w) 0 0 ≡ 2
first-mark f t w v = mark-there f t w v 0 (size-positive f) (first-filler f)

all_end : every_format (λ f. not (covered (runs f) (size f - 1)) && eqb (filler f (size f - 1)) (ending f)) ≡ true
unfolding every_format table is_x size row_of look_up filler ending is_mark runs fields time_fields seconds minutes hours days tenths hundredths_digit straight_seconds has_seconds carries_seconds control carries_control carries_year control_places years
all_end = refl

ends_so : (f : Format) → known f ≡ true → EndsSo f
ends_so f k =
    let free = not (covered (runs f) (size f - 1)) in
    let fills = eqb (filler f (size f - 1)) (ending f) in
    let both = of-every (λ f. not (covered (runs f) (size f - 1)) && eqb (filler f (size f - 1)) (ending f)) all_end f k in
    (not-true (covered (runs f) (size f - 1)) (and_left free fills both), eqb-true (filler f (size f - 1)) (ending f) (and_right free fills both))

pub last-element : (f : Format) (t : Time) (w : ℕ) → Valid f t w → get_or (written f t w) (size f - 1) 0 ≡ ending f
last-element f t w v = let e = ends_so f v.format in filler-there f t w (size f - 1) (omega (arith, size-positive f)) e.0 ∙ e.1

-- a frame ends with a mark, except in X
pub ends-marked : (f : Format) → is_x f ≡ false → ending f ≡ 2
unfolding ending
ends-marked f n = rw n

-- ---- an accepted frame

pub accepted-first : (f : Format) (frame : List ℕ) (t : Time) (w : ℕ) → read_of f frame ≡ accepted t w → get_or frame 0 0 ≡ 2
accepted-first f frame t w h =
    let p = accepted-was-written f frame t w h in
    ap (λ (x : List ℕ). get_or x 0 0) (sym p.1) ∙ first-mark f t w p.0

pub accepted-ending : (f : Format) (frame : List ℕ) (t : Time) (w : ℕ) → read_of f frame ≡ accepted t w → get_or frame (size f - 1) 0 ≡ ending f
accepted-ending f frame t w h =
    let p = accepted-was-written f frame t w h in
    ap (λ (x : List ℕ). get_or x (size f - 1) 0) (sym p.1) ∙ last-element f t w p.0

pub accepted-last : (f : Format) (frame : List ℕ) (t : Time) (w : ℕ) → is_x f ≡ false → read_of f frame ≡ accepted t w → get_or frame (size f - 1) 0 ≡ 2
accepted-last f frame t w n h = accepted-ending f frame t w h ∙ ends-marked f n

pub accepted-length : (f : Format) (frame : List ℕ) (t : Time) (w : ℕ) → read_of f frame ≡ accepted t w → length frame ≡ size f
accepted-length f frame t w h = ap length (sym (accepted-was-written f frame t w h).1) ∙ length-written f t w
