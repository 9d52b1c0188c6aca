-- A row's runs one by one: what a turn of the loops over them does.
use Rattle.std.specs.Prelude.{◌≡◌, refl, Bool, true, false, cond, ◌&&◌, List, [], ◌∷◌, map, ℕ, zero, suc, ◌+◌, ◌*◌, ◌-◌, ◌<◌, ◌≤◌, leb, eqb, get_or, length}
use Rattle.std.proofs.Common.{ap, ap₂, ◌∙◌, zero-add, arith, leb-true, le-leb, lt-ltb, pow_mono}
use Rattle.std.proofs.Math.ListN.{get_or-map}
use Rattle.timecode.specs.Formats.{A, B, E, G, H, is_x, member, known, size, carries_control, carries_year, control_places}
use Rattle.timecode.proofs.Laws.Runs.{covered-inside, covered-at, get_d_tabulate}
use Rattle.timecode.specs.Laws.Tests.{every_below}
use Rattle.timecode.proofs.Laws.Tests.{by-test, and_left, and_right, below-every}
use Rattle.timecode.specs.Layout.{Run, seconds, minutes, hours, days, tenths, hundredths_digit, has_seconds, straight_seconds, years, time_fields, in_run, filler, tabulate, value, Small, decode}
use Rattle.timecode.specs.declared.Format.{Format}
use Rattle.layout.specs.Letters.{same-starts}
use Rattle.layout.specs.Tables.{run_starts, full_widths, is_carried, run_widths, starts_of, widths_of}
use Rattle.layout.specs.Runs.{code_range, code_control, code_fields, code_runs, code-proper}

abbrev no_run : Run
no_run = record { start = 0; width = 0; radix = 1; falls = false }

abbrev run_at : Format → ℕ → Run
run_at f j = get_or (code_runs f) j no_run

pub length_runs : (f : Format) → length (code_runs f) ≡ 20
unfolding code_runs code_fields time_fields seconds minutes hours days tenths hundredths_digit straight_seconds code_control years
length_runs f = refl

pub length-widths : (f : Format) → length (widths_of f) ≡ 20
unfolding widths_of code_runs code_fields time_fields seconds minutes hours days tenths hundredths_digit straight_seconds code_control years
length-widths f = refl

start-at : (f : Format) (j : ℕ) → get_or (starts_of f) j 0 ≡ (run_at f j).start
unfolding starts_of
start-at f j = get_or-map (λ (r : Run). r.start) (code_runs f) j no_run

width-at : (f : Format) (j : ℕ) → get_or (widths_of f) j 0 ≡ (run_at f j).width
unfolding widths_of
width-at f j = get_or-map (λ (r : Run). r.width) (code_runs f) j no_run

-- ---- each run lies in the frame, and is at most 9 wide

-- how many elements a run has room for: nine, and the tens of the year, which begin at 55, four
unfoldable pub room_at : ℕ → ℕ
room_at s = cond (eqb s 55) 4 9

pub room_small : (s : ℕ) → room_at s ≤ 9
unfolding room_at
room_small s = by-test (eqb s 55) (λ y. rw y (omega arith)) (λ n. rw n (omega arith))

-- every run has room, and its lowest weight first
abbrev pub Narrow : List Run → Type 0
Narrow [] = Unit
Narrow (r ∷ rs) = ((r.width ≤ room_at r.start) × (r.falls ≡ false)) × Narrow rs

-- so wide, or not carried
carried-small : (b : Bool) (w room : ℕ) → w ≤ room → cond b w 0 ≤ room
carried-small b w room h = by-test b (λ y. rw y h) (λ n. rw n (omega arith))

pub runs-narrow : (f : Format) → is_x f ≡ false → Narrow (code_runs f)
unfolding code_runs code_fields time_fields seconds minutes hours days tenths hundredths_digit straight_seconds code_control code_range years room_at
runs-narrow f x = rw x ((carried-small (member f.letter (A ∷ B ∷ G ∷ [])) 4 9 (omega arith), refl), ((carried-small (member f.letter (A ∷ B ∷ E ∷ G ∷ [])) 3 9 (omega arith), refl), ((carried-small (member f.letter (A ∷ B ∷ E ∷ G ∷ H ∷ [])) 4 9 (omega arith), refl), ((carried-small (member f.letter (A ∷ B ∷ E ∷ G ∷ H ∷ [])) 3 9 (omega arith), refl), ((omega arith, refl), ((omega arith, refl), ((omega arith, refl), ((omega arith, refl), ((omega arith, refl), ((carried-small (member f.letter (A ∷ G ∷ [])) 4 9 (omega arith), refl), ((carried-small (member f.letter (G ∷ [])) 4 9 (omega arith), refl), ((carried-small (has_seconds f) 9 9 (omega arith), refl), ((carried-small (has_seconds f) 8 9 (omega arith), refl), ((carried-small (carries_control f && member 50 (control_places f)) 9 9 (omega arith), refl), ((carried-small (carries_control f && member 60 (control_places f)) 9 9 (omega arith), refl), ((carried-small (carries_control f && member 70 (control_places f)) 9 9 (omega arith), refl), ((carried-small (carries_control f && member 80 (control_places f)) 9 9 (omega arith), refl), ((carried-small (carries_control f && member 90 (control_places f)) 9 9 (omega arith), refl), ((carried-small (carries_year f) 4 9 (omega arith), refl), ((carried-small (carries_year f) 4 4 (omega arith), refl), tt))))))))))))))))))))

narrow_at : (rs : List Run) → Narrow rs → (j : ℕ) → get_or (map (λ (r : Run). r.width) rs) j 0 ≤ 9
narrow_at [] h j = omega arith
narrow_at (r ∷ rs) h zero = omega (arith, h.0.0, room_small r.start)
narrow_at (r ∷ rs) h (suc j) = narrow_at rs h.1 j

pub width_small : (f : Format) → is_x f ≡ false → (j : ℕ) → get_or (widths_of f) j 0 ≤ 9
unfolding widths_of
width_small f x j = narrow_at (code_runs f) (runs-narrow f x) j

pub small-digit : (rs : List Run) (xs : List ℕ) → Narrow rs → Small rs xs → (j : ℕ) → get_or xs j 0 < 512
small-digit [] [] n s j = omega arith
small-digit [] (x ∷ xs) n s j = absurd s
small-digit (r ∷ rs) [] n s j = omega arith
small-digit (r ∷ rs) (x ∷ xs) n s zero = omega (arith, s.0, pow_mono {i = r.width} {j = 9} (omega (arith, n.0.0, room_small r.start)))
small-digit (r ∷ rs) (x ∷ xs) n s (suc j) = small-digit rs xs n.1 s.1 j

within : (r : Run) (k : ℕ) → k < r.width → in_run r (r.start + k) ≡ true
within r k h = simp (le-leb r.start (r.start + k) (omega arith), lt-ltb (r.start + k) (r.start + r.width) (omega arith))

pub run_inside : (f : Format) → known f ≡ true → (j k : ℕ) → j < 20 → k < get_or (widths_of f) j 0 → get_or (starts_of f) j 0 + k < size f
run_inside f h j k b l =
    let w : k < (run_at f j).width = rw (width-at f j) at l in
    rw (start-at f j)
    (covered-inside (size f) (filler f) (code_runs f) (code-proper f h) ((run_at f j).start + k) (covered-at (code_runs f) no_run j ((run_at f j).start + k) (omega (arith, length_runs f)) (within (run_at f j) k w))).0

-- a row's runs lie in a frame of n elements
pub record RunsInside (widths : List ℕ) (n : ℕ) : Type 0 where
  pub narrow : (j : ℕ) → get_or widths j 0 ≤ 9
  pub inside : (j k : ℕ) → j < 20 → k < get_or widths j 0 → get_or run_starts j 0 + k < n

pub runs-inside : (f : Format) → known f ≡ true → is_x f ≡ false → RunsInside (widths_of f) (size f)
runs-inside f h x =
    record {
      narrow = width_small f x;
      inside = λ j k b l. rw (ap (λ (ss : List ℕ). get_or ss j 0) (same-starts f x)) at (run_inside f h j k b l);
    }

-- ---- where runs start: nine bits that are moved there lose none

-- n runs from one on start from an index on, at most 50 later
abbrev starts_within : ℕ → ℕ → ℕ → Bool
starts_within from first n = every_below n (λ i. leb from (get_or run_starts (first + i) 0) && leb (get_or run_starts (first + i) 0) (from + 50))

pub starts-within : (from first n : ℕ) → starts_within from first n ≡ true → (j : ℕ) → first ≤ j → j < first + n → (from ≤ get_or run_starts j 0) × (get_or run_starts j 0 ≤ from + 50)
starts-within from first n h j a b =
    let i : first + (j - first) ≡ j = omega arith in
    let both = below-every n (λ i. leb from (get_or run_starts (first + i) 0) && leb (get_or run_starts (first + i) 0) (from + 50)) h (j - first) (omega arith) in
    let here : (leb from (get_or run_starts j 0) && leb (get_or run_starts j 0) (from + 50)) ≡ true = rw i at both in
    (leb-true from (get_or run_starts j 0) (and_left (leb from (get_or run_starts j 0)) (leb (get_or run_starts j 0) (from + 50)) here), leb-true (get_or run_starts j 0) (from + 50) (and_right (leb from (get_or run_starts j 0)) (leb (get_or run_starts j 0) (from + 50)) here))

-- ---- reading, from the first run to the last

-- the digit at run j
unfoldable pub run_digit : List ℕ → List ℕ → ℕ → ℕ
run_digit widths frame j = value (get_or widths j 0) (λ b. get_or frame (get_or run_starts j 0 + b) 0)

-- the digits at all runs
unfoldable pub digits_at : List ℕ → List ℕ → List ℕ
digits_at widths frame = tabulate 20 0 (run_digit widths frame)

-- the width of a run of a set
width_of : (runs j : ℕ) → j < 20 → get_or (run_widths runs) j 0 ≡ cond (is_carried runs j) (get_or full_widths j 0) 0
unfolding run_widths
width_of runs j h = get_d_tabulate 20 0 (λ (i : ℕ). cond (is_carried runs i) (get_or full_widths i 0) 0) 0 j h ∙ ap (λ (i : ℕ). cond (is_carried runs i) (get_or full_widths i 0) 0) (zero-add j)

pub carried-width : (runs j : ℕ) → j < 20 → is_carried runs j ≡ true → get_or (run_widths runs) j 0 ≡ get_or full_widths j 0
carried-width runs j h y = width_of runs j h ∙ rw y

-- where a run is not carried, its digit is 0
pub no_digit : (runs : ℕ) (frame : List ℕ) (j : ℕ) → j < 20 → is_carried runs j ≡ false → 0 ≡ run_digit (run_widths runs) frame j
unfolding run_digit value
no_digit runs frame j h n = rw (width_of runs j h, n)

pub digits-at : (f : Format) (frame : List ℕ) → is_x f ≡ false → digits_at (widths_of f) frame ≡ decode (code_runs f) frame
unfolding digits_at run_digit widths_of code_runs code_fields time_fields seconds minutes hours days tenths hundredths_digit straight_seconds code_control code_range years
digits-at f frame x = rw x

-- ---- the bits of one digit, from the highest to the lowest

value_same : (w : ℕ) (g h : ℕ → ℕ) → ((b : ℕ) → g b ≡ h b) → value w g ≡ value w h
unfolding value
value_same zero g h p = refl
value_same (suc w) g h p = ap₂ (λ (x y : ℕ). x + 2 * y) (p 0) (value_same w (λ b. g (suc b)) (λ b. h (suc b)) (λ b. p (suc b)))

pub value-turn : (frame : List ℕ) (s w k v : ℕ) → 0 < k → k ≤ w → v ≡ value (w - k) (λ b. get_or frame (s + (k + b)) 0)
    → v * 2 + get_or frame (s + (k - 1)) 0 ≡ value (w - (k - 1)) (λ b. get_or frame (s + (k - 1 + b)) 0)
unfolding value
value-turn frame s w k v a b e =
    let m : w - (k - 1) ≡ suc (w - k) = omega arith in
    let first : s + (k - 1 + 0) ≡ s + (k - 1) = omega arith in
    let others : value (w - k) (λ b. get_or frame (s + (k + b)) 0) ≡ value (w - k) (λ b. get_or frame (s + (k - 1 + suc b)) 0) =
    value_same (w - k) (λ b. get_or frame (s + (k + b)) 0) (λ b. get_or frame (s + (k - 1 + suc b)) 0) (λ b. ap (λ (i : ℕ). get_or frame i 0) (omega arith)) in
    rw (m, first) (omega (arith, e, others))

pub value-start : (frame : List ℕ) (s w : ℕ) → 0 ≡ value (w - w) (λ b. get_or frame (s + (w + b)) 0)
unfolding value
value-start frame s w = let z : w - w ≡ 0 = omega arith in rw z
