-- Where Write and Read return, and what the calls within them need.
use Rattle.std.specs.Prelude.{◌≡◌, refl, Bool, false, ◌&&◌, List, [], ◌∷◌, ℕ, zero, suc, ◌+◌, ◌%◌, ◌<◌, ◌≤◌, leb, ltb, eqb, get_or, length, None}
use Rattle.std.proofs.Math.Path.{sym, ap}
use Rattle.std.proofs.Common.{◌∙◌, inl, inr, arith}
use Rattle.std.proofs.Math.Bool.{true, cond}
use borrow.Author.Tests.{eq-eqb, leb-true, ltb-true, ltb-false}
use Rattle.timecode.specs.Formats.{is_x, known, size, interval, day_length, last_day, days_in, last_day_in, in_range, on_format, carries_leap, carries_year, second_carried}
use Rattle.timecode.specs.Frames.{are_symbols, read_of}
use Rattle.timecode.proofs.Laws.Runs.{Clean, clean-bits, small-decoded, small-length}
use Rattle.timecode.proofs.Laws.Table.{interval-range, two-sizes}
use Rattle.timecode.proofs.Laws.Tests.{by-test, and_left, and_right}
use Rattle.timecode.specs.Layout.{is_mark, filler, tabulate, decode}
use Rattle.timecode.specs.declared.Format.{Format}
use Rattle.timecode.specs.declared.Refusal.TheVariants.{UnknownSymbol}
use Rattle.timecode.specs.declared.Time.{Time}
use Rattle.layout.specs.Tables.{run_starts, widths_of, full_widths, is_carried, run_widths, RowOf, IsRow}
use Rattle.layout.specs.Runs.{code_runs, code-proper}
use Rattle.layout.specs.declared.Row.{Row}
use Rattle.elements.specs.Tens.{IsFrame, tens, frame-of-60, frame-of-100}
use Rattle.elements.specs.RunBits.{packed, packed_runs, packed_year, put_in, put-parts, length-put, put-mark, put-binary}
use Rattle.elements.specs.RunLoops.{runs-narrow, length_runs, small-digit, RunsInside, runs-inside, digits_at, digits-at}
use Rattle.tape.specs.Offences.{symbols-all}
use Rattle.digits.specs.Meaning.{meaning_of, meaning-is}
use Rattle.digits.specs.Splitting.{Widths, Digits}
use Rattle.frame.specs.Offences.{offence_in, refused_or, same-nothing, some-offence, offended-refuses, offended-clean}

-- ---- what a row gives

-- a frame as long as the row's format has it, and the format known and not X
pub record FrameOf (row : Row) (frame : List ℕ) : Type 0 where
  pub format : Format
  pub is_known : known format ≡ true
  pub not_x : is_x format ≡ false
  pub row_of : RowOf format row
  pub long : length frame ≡ size format

-- runs are at most 9 wide
abbrev all_nine : List ℕ → Bool
all_nine [] = true
all_nine (w ∷ ws) = leb w 9 && all_nine ws

nine : (ws : List ℕ) → all_nine ws ≡ true → (j : ℕ) → get_or ws j 0 ≤ 9
nine [] h j = omega arith
nine (w ∷ ws) h zero = leb-true w 9 (and_left (leb w 9) (all_nine ws) h)
nine (w ∷ ws) h (suc j) = nine ws (and_right (leb w 9) (all_nine ws) h) j

tabulated : (n i : ℕ) (g : ℕ → ℕ) → ((k : ℕ) → g k ≤ 9) → (j : ℕ) → get_or (tabulate n i g) j 0 ≤ 9
tabulated zero i g h j = omega arith
tabulated (suc n) i g h zero = h i
tabulated (suc n) i g h (suc j) = tabulated n (suc i) g h j

pub row-widths : (runs : ℕ) → Widths (run_widths runs)
unfolding run_widths
row-widths runs =
    record {
      long = refl;
      small = tabulated 20 0 (λ (j : ℕ). cond (is_carried runs j) (get_or full_widths j 0) 0) (λ k. by-test (is_carried runs k) (λ y. rw y (nine full_widths refl k)) (λ m. rw m (omega arith)));
    }

pub row-interval : (row : Row) → IsRow row → 1 ≤ row.interval
row-interval row (f, r) = rw r.interval_is (interval-range f).0

pub is-frame : (f : Format) (n : ℕ) → is_x f ≡ false → n ≡ size f → IsFrame n
is-frame f n x e = rw e (two-sizes IsFrame (inl refl) (inr refl) f x)

pub row_inside : (row : Row) (frame : List ℕ) → FrameOf row frame → RunsInside (run_widths row.runs) (length frame)
row_inside row frame o = rw (o.row_of.widths_are, o.long) (runs-inside o.format o.is_known o.not_x)

pub row-digits : (f : Format) (row : Row) (frame : List ℕ) → is_x f ≡ false → RowOf f row → digits_at (run_widths row.runs) frame ≡ decode (code_runs f) frame
row-digits f row frame x r = rw r.widths_are (digits-at f frame x)

pub digits_long : (widths frame xs : List ℕ) → xs ≡ digits_at widths frame → length xs ≡ 20
unfolding digits_at
digits_long widths frame xs e = ap length e

module _ (f : Format) (row : Row) (o : RowOf f row) where
  pub row-known : (e : ℕ) (r : Bool) → f.expression ≡ e → r ≡ (leb row.first e && leb e row.last) → known f ≡ r
  row-known e r q h = sym o.known_is ∙ ap (λ (x : ℕ). leb row.first x && leb x row.last) q ∙ sym h

  pub row_on : (t : Time) (x : Bool) (last : ℕ) (r : Bool) → x ≡ is_x f → last ≡ cond x 1 (cond row.year (days_in t.year) last_day) → r ≡ (in_range last t && eqb (t.hundredths % row.interval) 0) → on_format f t ≡ r
  unfolding on_format last_day_in
  row_on t x last r p q h = rw (← o.interval_is, ← o.year_is, ← p, ← q) (sym h)

  pub row_carries : (t : Time) (r : Bool) → r ≡ cond row.leap true (ltb t.hundredths day_length) → second_carried f t ≡ r
  unfolding second_carried
  row_carries t r h = ap (λ (b : Bool). cond b true (ltb t.hundredths day_length)) (sym o.leap_is) ∙ sym h

-- ---- a frame from its digits' bits

module _ (lent xs : List ℕ) (time middle : ℕ) (long : length xs ≡ 20) (p : time ≡ packed_runs 0 xs 0 11) (q : middle ≡ packed_runs 0 xs 13 1 + packed_year xs) where
  pub put-60 : length lent ≡ 60 → tens lent 0 6 (time + middle) ≡ put_in 60 xs
  put-60 n = frame-of-60 lent (time + middle) (packed 60 100 run_starts xs) n ∙ rw n (put-parts 60 xs time middle long p q)

  pub put-100 : (tail : ℕ) → length lent ≡ 100 → tail ≡ packed 60 100 run_starts xs → tens (tens lent 0 6 (time + middle)) 6 10 tail ≡ put_in 100 xs
  put-100 tail n r = frame-of-100 lent (time + middle) tail n ∙ rw (n, r) (put-parts 100 xs time middle long p q)

-- ---- the frame written again

put-symbol : (n : ℕ) (xs : List ℕ) (k : ℕ) → k < n → get_or (put_in n xs) k 0 ≤ 3
put-symbol n xs k l = by-test (is_mark k) (λ y. omega (arith, put-mark n xs k l y)) (λ m. omega (arith, put-binary n xs k l m))

-- where it is as long as the frame, what the search asks
pub beside-asked : (n : ℕ) (xs again frame : List ℕ) → again ≡ put_in n xs → length frame ≡ n → n ≤ 100 → (length frame ≤ length again) × ((k : ℕ) → k < length frame → get_or again k 0 ≤ 3) × (length frame ≤ 255)
beside-asked n xs again frame e l m = (omega (arith, ap length e ∙ length-put n xs), (λ k h. rw e (put-symbol n xs k (omega arith))), omega arith)

-- where it agrees with the frame nothing offends
pub agree-nothing : (again frame : List ℕ) → length frame ≤ length again → ((k : ℕ) → k < length frame → get_or again k 0 ≤ 3) → ((k : ℕ) → k < length frame → get_or frame k 0 ≡ get_or again k 0) → offence_in again frame ≡ None
unfolding offence_in
agree-nothing again frame l small same = rw (symbols-all frame (λ k h. rw (same k h) (small k h))) (same-nothing 0 again frame l same)

module _ (f : Format) (frame : List ℕ) (k : known f ≡ true) (x : is_x f ≡ false) (n : length frame ≡ size f) where
  -- a frame that nothing offends has small digits
  pub are-digits : Clean (size f) (filler f) (code_runs f) frame → Digits (decode (code_runs f) frame)
  are-digits clean =
      let small = small-decoded frame (code_runs f) (clean-bits (size f) (filler f) (code_runs f) frame (code-proper f k) clean) in
      record { long = small-length (code_runs f) (decode (code_runs f) frame) small ∙ length_runs f; small = small-digit (code_runs f) (decode (code_runs f) frame) (runs-narrow f x) small }

  -- Read is what offends, or what the digits say
  pub read-refused-or : read_of f frame ≡ refused_or (offence_in (put_in (size f) (decode (code_runs f) frame)) frame) (meaning_of (carries_leap f) (carries_year f) (widths_of f) (decode (code_runs f) frame))
  unfolding read_of offence_in
  read-refused-or =
      rw (k, eq-eqb (length frame) (size f) n)
      (by-test (are_symbols frame)
      (λ y. rw (y, meaning-is f frame x) (offended-refuses f frame k x n _))
      (λ m. rw m))

  pub finds-nothing : offence_in (put_in (size f) (decode (code_runs f) frame)) frame ≡ None → Clean (size f) (filler f) (code_runs f) frame
  unfolding offence_in
  finds-nothing h =
      by-test (are_symbols frame)
      (λ y. offended-clean f frame k x n (rw y at h))
      (λ m. absurd (some-offence UnknownSymbol (rw m at h)))

-- two lists that agree below i and at i
pub agree-turn : (xs ys : List ℕ) (i : ℕ) → ((k : ℕ) → k < i → get_or xs k 0 ≡ get_or ys k 0) → get_or xs i 0 ≡ get_or ys i 0 → (k : ℕ) → k < i + 1 → get_or xs k 0 ≡ get_or ys k 0
agree-turn xs ys i below here k l =
    by-test (ltb k i) (λ y. below k (ltb-true k i y)) (λ m. let last : k ≡ i = omega (arith, ltb-false k i m) in rw last here)
