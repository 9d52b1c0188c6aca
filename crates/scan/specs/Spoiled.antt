-- No accepted frame has a spoiled element, symbol 3, except in X: there the last four are.
use Rattle.timecode.specs.Answers.{accepted}
use Rattle.std.specs.Prelude.{◌≡◌, refl, Bool, true, false, cond, ◌||◌, List, ℕ, ◌+◌, ◌-◌, ◌<◌, ◌≤◌, leb, get_or, length, take, drop}
use Rattle.std.proofs.Common.{arith, leb-true}
use Rattle.timecode.specs.Formats.{is_x, table, look_up, row_of, known, size, carries_control, carries_seconds, carries_year, control_places}
use Rattle.timecode.specs.Frames.{covered, written, read_of, Valid}
use Rattle.timecode.proofs.Laws.Marks.{at-written}
use Rattle.timecode.proofs.Laws.Reading.{accepted-was-written}
use Rattle.timecode.proofs.Laws.Runs.{small-length, symbol-free, symbol-covered}
use Rattle.timecode.specs.Laws.Table.{every_format}
use Rattle.timecode.proofs.Laws.Table.{size-range, of-every}
use Rattle.timecode.specs.Laws.Tests.{every_below}
use Rattle.timecode.proofs.Laws.Tests.{by-test, or-other, below-every}
use Rattle.timecode.proofs.Laws.Writing.{written_small}
use Rattle.timecode.specs.Layout.{seconds, minutes, hours, days, tenths, hundredths_digit, has_seconds, straight_seconds, control, years, time_fields, fields, runs, numbers, all_digits, is_mark, filler}
use Rattle.timecode.specs.declared.Format.{Format}
use Rattle.timecode.specs.declared.Time.{Time}

-- every element is a zero, a one or a mark
abbrev pub NoneSpoiled : List ℕ → Type 0
NoneSpoiled symbols = (k : ℕ) → k < length symbols → get_or symbols k 0 ≤ 2

-- the same as a slice has it
pub slice-unspoiled : (recording : List ℕ) (a n : ℕ) → NoneSpoiled (take n (drop a recording)) → NoneSpoiled (take (a + n - a) (drop a recording))
slice-unspoiled recording a n h = let k : a + n - a ≡ n = omega arith in rw k h

-- so many elements from a frame's first on are never spoiled: all, in X those before the four missing pulses
unfoldable pub never_spoiled : Format → ℕ
never_spoiled f = cond (is_x f) 21 (size f)

pub never-spoiled-inside : (f : Format) → never_spoiled f ≤ size f
unfolding never_spoiled
never-spoiled-inside f = by-test (is_x f) (λ x. rw x (omega (arith, size-range f))) (λ n. rw n (omega arith))

-- a digit or a bit takes the element, or what stands there is no 3
abbrev taken_or_low : Format → ℕ → Bool
taken_or_low f k = covered (runs f) k || leb (filler f k) 2

all-unspoiled : every_format (λ f. every_below (never_spoiled f) (taken_or_low f)) ≡ true
unfolding never_spoiled every_format table is_x size row_of look_up filler is_mark runs fields time_fields seconds minutes hours days tenths hundredths_digit straight_seconds has_seconds carries_seconds control carries_control carries_year control_places years
all-unspoiled = refl

filler-low : (f : Format) → known f ≡ true → (k : ℕ) → k < never_spoiled f → covered (runs f) k ≡ false → filler f k ≤ 2
filler-low f in_table k h n =
    let either = below-every (never_spoiled f) (taken_or_low f) (of-every (λ f. every_below (never_spoiled f) (taken_or_low f)) all-unspoiled f in_table) k h in
    leb-true (filler f k) 2 (or-other (covered (runs f) k) (leb (filler f k) 2) n either)

written-unspoiled : (f : Format) (t : Time) (w : ℕ) → Valid f t w → (k : ℕ) → k < never_spoiled f → get_or (written f t w) k 0 ≤ 2
written-unspoiled f t w v k h =
    let xs = all_digits (fields f) (numbers f t w) in
    rw (at-written f t w k (omega (arith, never-spoiled-inside f)))
    (by-test (covered (runs f) k)
    (λ y. omega (arith, symbol-covered (size f) (filler f) (runs f) xs (small-length (runs f) xs (written_small f t w v)) k y))
    (λ n. rw (symbol-free (size f) (filler f) (runs f) xs k n) (filler-low f v.format k h n)))

pub accepted-unspoiled : (f : Format) (frame : List ℕ) (t : Time) (w : ℕ) → read_of f frame ≡ accepted t w → (k : ℕ) → k < never_spoiled f → get_or frame k 0 ≤ 2
accepted-unspoiled f frame t w h k b =
    let p = accepted-was-written f frame t w h in
    rw (← p.1) (written-unspoiled f t w p.0 k b)
