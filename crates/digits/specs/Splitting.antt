-- A time and a control word as digits, one for each run of the format: the decimal digits of the time, straight binary seconds, the control word and the year.
use Rattle.std.specs.Prelude.{◌≡◌, refl, Bool, true, false, cond, ◌&&◌, List, [], ◌∷◌, ◌++◌, ℕ, zero, suc, ◌+◌, ◌*◌, ◌-◌, ◌/◌, ◌%◌, ◌^◌, ◌<◌, ◌≤◌, ltb, eqb, get_or, length, drop}
use Rattle.std.proofs.Common.{sym, ap, ap₂, ◌∙◌, mod-eq_of_lt, div-one, mul_comm, mul-one, mul-le-mul_left, mul-div_cancel, arith, ltb-true, ltb-false, eqb-true, ne_eqb, pow_pos, pow_mono, shl_exact, shr_lt}
use Rattle.std.proofs.Math.Nat.{mod-one, div-eq_of_lt, lt-div-mul-add, mul-mod_left}
use Rattle.timecode.specs.Formats.{is_x, table, look_up, row_of, known, carries_control, carries_year, control_places, OnFormat}
use Rattle.timecode.specs.Frames.{total_width, Valid}
use Rattle.timecode.specs.Laws.Fields.{Binary}
use Rattle.timecode.specs.Laws.Table.{every_format}
use Rattle.timecode.proofs.Laws.Table.{of-every}
use Rattle.timecode.proofs.Laws.Tests.{by-test, and_left, and_right}
use Rattle.timecode.proofs.Laws.Times.{year-below, carried-day}
use Rattle.timecode.specs.Layout.{Run, Field, seconds, minutes, hours, days, tenths, hundredths_digit, has_seconds, straight_seconds, control, years, time_fields, second, minute, hour, time_numbers, numbers, field_digits, all_digits}
use Rattle.timecode.specs.declared.Format.{Format}
use Rattle.timecode.specs.declared.Time.{Time}
use Rattle.layout.specs.Tables.{widths_of}
use Rattle.layout.specs.Runs.{code_range, code_control, code_fields, code_runs, code-binary, code-width}

-- a list of the widths of runs, and one of the digits that stand at them
pub record Widths (ws : List ℕ) : Type 0 where
  pub long : length ws ≡ 20
  pub small : (j : ℕ) → get_or ws j 0 ≤ 9

pub record Digits (ds : List ℕ) : Type 0 where
  pub long : length ds ≡ 20
  pub small : (j : ℕ) → get_or ds j 0 < 512

-- ---- the digits of the time

time-part : (f : Format) (t : Time) → is_x f ≡ false → OnFormat f t
    → second t.hundredths % 10 ∷ second t.hundredths / 10 ∷ minute t.hundredths % 10 ∷ minute t.hundredths / 10 ∷ hour t.hundredths % 10 ∷ hour t.hundredths / 10
    ∷ t.day % 10 ∷ t.day / 10 % 10 ∷ t.day / 10 / 10 ∷ t.hundredths / 10 % 10 ∷ t.hundredths % 10 ∷ []
    ≡ all_digits (time_fields f) (time_numbers f t)
unfolding time_fields time_numbers seconds minutes hours days tenths hundredths_digit
time-part f t x o =
    rw (carried-day f t x)
    (
    let c = t.hundredths in
    let seconds-tens : second c / 10 ≡ second c / 10 % 10 = omega (arith, o.below) in
    let minutes-tens : minute c / 10 ≡ minute c / 10 % 10 = omega arith in
    let hours-tens : hour c / 10 ≡ hour c / 10 % 10 = omega (arith, o.below) in
    let days-hundreds : t.day / 10 / 10 ≡ t.day / 10 / 10 % 10 = omega (arith, o.last) in
    let tenth : c / 10 % 10 ≡ c / 10 % 10 % 10 = omega arith in
    let hundredth : c % 10 ≡ c % 10 % 10 = omega arith in
    λ i.
    second c % 10 ∷ seconds-tens i ∷ minute c % 10 ∷ minutes-tens i ∷ hour c % 10 ∷ hours-tens i ∷ t.day % 10 ∷ t.day / 10 % 10 ∷ days-hundreds i ∷ tenth i ∷ hundredth i ∷ [])

-- ---- straight binary seconds, where they are carried

pub straight-width : (f : Format) → get_or (widths_of f) 11 0 ≡ cond (has_seconds f) 9 0
unfolding widths_of code_runs code_fields time_fields seconds minutes hours days tenths hundredths_digit straight_seconds code_control years
straight-width f = refl

straight-part : (f : Format) (x straight : ℕ) → x < 131072 → straight ≡ cond (eqb (get_or (widths_of f) 11 0) 0) 0 x → straight % 512 ∷ straight / 512 ∷ [] ≡ field_digits (straight_seconds f) x
unfolding straight_seconds
straight-part f x straight l e =
    by-test (has_seconds f)
    (λ y.
    let same : straight ≡ x = e ∙ rw (straight-width f, y) in
    let top : x / 512 ≡ x / 512 % 256 = omega arith in
    rw (y, same) (ap (λ (n : ℕ). x % 512 ∷ n ∷ []) top))
    (λ m.
    let none : straight ≡ 0 = e ∙ rw (straight-width f, m) in
    rw (m, none) (ap₂ (λ (a b : ℕ). a ∷ b ∷ []) (sym (mod-one x)) (sym (mod-one (x / 1)))))

-- ---- the control word in ranges of nine bits

-- the digits of x, nine bits each
abbrev nines_of : ℕ → ℕ → List ℕ
nines_of zero x = []
nines_of (suc n) x = x % 512 ∷ nines_of n (x / 512)

-- the ranges that are carried come first
abbrev carried_first : Field → Bool
carried_first [] = true
carried_first (r ∷ rs) = cond (eqb r.width 9) (carried_first rs) (eqb (total_width (r ∷ rs)) 0)

-- ranges that are not carried have the digits of 0
none-carried : (d : Field) → Binary d → total_width d ≡ 0 → field_digits d 0 ≡ nines_of (length d) 0
none-carried [] b h = refl
none-carried (r ∷ rs) b h =
    let width : r.width ≡ 0 = omega arith in
    let radix : r.radix ≡ 1 = b.0 ∙ ap (λ (n : ℕ). 2 ^ n) width in
    rw radix (ap (λ (xs : List ℕ). 0 ∷ xs) (none-carried rs b.1 (omega arith)))

nines : (d : Field) → Binary d → carried_first d ≡ true → (x : ℕ) → x < 2 ^ total_width d → field_digits d x ≡ nines_of (length d) x
nines [] b h x l = refl
nines (r ∷ rs) b h x l =
    by-test (eqb r.width 9)
    (λ y.
    let width = eqb-true r.width 9 y in
    let radix : r.radix ≡ 512 = b.0 ∙ ap (λ (n : ℕ). 2 ^ n) width in
    let all : r.width + total_width rs ≡ total_width rs + 9 = omega arith in
    rw radix (ap (λ (xs : List ℕ). x % 512 ∷ xs) (nines rs b.1 (rw y at h) (x / 512) (shr_lt (total_width rs) 9 (rw all at l)))))
    (λ m.
    let width : r.width + total_width rs ≡ 0 = eqb-true (r.width + total_width rs) 0 (rw m at h) in
    let none : x < 2 ^ 0 = rw width at l in
    let zero_is : x ≡ 0 = omega arith in
    rw zero_is (none-carried (r ∷ rs) b width))

-- the ranges that are carried are in a row, and the first of all or the second begins it
abbrev in_row : Field → Bool
in_row [] = true
in_row (r ∷ rs) = cond (eqb r.width 9) (carried_first rs) (eqb r.width 0 && carried_first rs)

-- where the first is not carried, a word of nine more bits has the word's digits from the second on
moved-nines : (r : Run) (rs : Field) → Binary (r ∷ rs) → in_row (r ∷ rs) ≡ true → (w word : ℕ) → w < 2 ^ total_width (r ∷ rs) → word ≡ w * 2 ^ (9 - r.width)
    → word % 512 ∷ nines_of (length rs) (word / 512) ≡ field_digits (r ∷ rs) w
moved-nines r rs b h w word l e =
    by-test (eqb r.width 9)
    (λ y.
    let width = eqb-true r.width 9 y in
    let radix : r.radix ≡ 512 = b.0 ∙ ap (λ (n : ℕ). 2 ^ n) width in
    let same : word ≡ w = e ∙ ap (λ (n : ℕ). w * 2 ^ (9 - n)) width ∙ mul-one w in
    let all : r.width + total_width rs ≡ total_width rs + 9 = omega arith in
    rw (same, radix) (ap (λ (xs : List ℕ). w % 512 ∷ xs) (sym (nines rs b.1 (rw y at h) (w / 512) (shr_lt (total_width rs) 9 (rw all at l))))))
    (λ m.
    let both : (eqb r.width 0 && carried_first rs) ≡ true = rw m at h in
    let width = eqb-true r.width 0 (and_left (eqb r.width 0) (carried_first rs) both) in
    let radix : r.radix ≡ 1 = b.0 ∙ ap (λ (n : ℕ). 2 ^ n) width in
    let moved : word ≡ w * 512 = e ∙ ap (λ (n : ℕ). w * 2 ^ (9 - n)) width in
    let all : r.width + total_width rs ≡ total_width rs = omega arith in
    rw (moved, radix)
    (ap₂ (λ (x : ℕ) (xs : List ℕ). x ∷ xs) (mul-mod_left w 512 ∙ sym (mod-one w))
    (ap (nines_of (length rs)) (mul-div_cancel w (omega arith) ∙ sym (div-one w)) ∙ sym (nines rs b.1 (and_right (eqb r.width 0) (carried_first rs) both) (w / 1) (rw (div-one w, ← all) l)))))

all-in-row : every_format (λ f. in_row (code_control f)) ≡ true
unfolding every_format table code_control code_range carries_control carries_year control_places row_of look_up
all-in-row = refl

control-part : (f : Format) → known f ≡ true → (w word : ℕ) → w < 2 ^ total_width (control f) → word ≡ w * 2 ^ (9 - get_or (widths_of f) 13 0)
    → word % 512 ∷ word / 512 % 512 ∷ word / 512 / 512 % 512 ∷ word / 512 / 512 / 512 % 512 ∷ word / 512 / 512 / 512 / 512 % 512 ∷ [] ≡ field_digits (code_control f) w
unfolding widths_of code_runs code_fields time_fields seconds minutes hours days tenths hundredths_digit straight_seconds code_control years
control-part f k w word l e = moved-nines (code_range f 50) (drop 1 (code_control f)) (code-binary f) (of-every (λ f. in_row (code_control f)) all-in-row f k) w word (rw (code-width f) l) e

-- ---- the year

year-part : (f : Format) (t : Time) → OnFormat f t → t.year % 10 ∷ t.year / 10 ∷ [] ≡ field_digits (years f) t.year
unfolding years
year-part f t o =
    let tens : t.year / 10 ≡ t.year / 10 % 10 = omega (arith, year-below f t.year o.year_is) in
    λ i. t.year % 10 ∷ tens i ∷ []

-- ---- all digits

-- the digits that the code makes of a time, its straight binary seconds and a control word moved to its first range
unfoldable pub split_digits : Time → ℕ → ℕ → List ℕ
split_digits t straight word =
    second t.hundredths % 10 ∷ second t.hundredths / 10 ∷ minute t.hundredths % 10 ∷ minute t.hundredths / 10 ∷ hour t.hundredths % 10 ∷ hour t.hundredths / 10
    ∷ t.day % 10 ∷ t.day / 10 % 10 ∷ t.day / 10 / 10 ∷ t.hundredths / 10 % 10 ∷ t.hundredths % 10
    ∷ straight % 512 ∷ straight / 512
    ∷ word % 512 ∷ word / 512 % 512 ∷ word / 512 / 512 % 512 ∷ word / 512 / 512 / 512 % 512 ∷ word / 512 / 512 / 512 / 512 % 512
    ∷ t.year % 10 ∷ t.year / 10 ∷ []

pub split-digits : (f : Format) (t : Time) (w straight word : ℕ) → is_x f ≡ false → Valid f t w → straight ≡ cond (eqb (get_or (widths_of f) 11 0) 0) 0 (t.hundredths / 100) → word ≡ w * 2 ^ (9 - get_or (widths_of f) 13 0)
    → split_digits t straight word ≡ all_digits (code_fields f) (numbers f t w)
unfolding split_digits code_fields time_fields numbers time_numbers seconds minutes hours days tenths hundredths_digit code_control years
split-digits f t w straight word x v p q =
    λ i. time-part f t x v.time i ++ (straight-part f (t.hundredths / 100) straight (omega (arith, v.time.below)) p i ++ (control-part f v.format w word v.room q i ++ year-part f t v.time i))

code-total : (f : Format) → total_width (code_control f) ≡ get_or (widths_of f) 13 0 + get_or (widths_of f) 14 0 + get_or (widths_of f) 15 0 + get_or (widths_of f) 16 0 + get_or (widths_of f) 17 0
unfolding widths_of code_runs code_fields time_fields seconds minutes hours days tenths hundredths_digit straight_seconds code_control years
code-total f = omega arith

pub total-control : (f : Format) → total_width (control f) ≡ get_or (widths_of f) 13 0 + get_or (widths_of f) 14 0 + get_or (widths_of f) 15 0 + get_or (widths_of f) 16 0 + get_or (widths_of f) 17 0
total-control f = sym (code-width f) ∙ code-total f

-- the control word moved loses no bit
pub moved-fits : (f : Format) (w width : ℕ) → Widths (widths_of f) → w < 2 ^ total_width (control f) → width ≤ 9 → w * 2 ^ (9 - width) % 18446744073709551616 ≡ w * 2 ^ (9 - width)
moved-fits f w width s l n =
    let room : total_width (control f) ≤ 45 = omega (arith, total-control f, s.small 13, s.small 14, s.small 15, s.small 16, s.small 17) in
    shl_exact 45 (9 - width) 64 (omega (arith, l, pow_mono {i = total_width (control f)} {j = 45} room)) (omega arith)

-- ---- the control word fits where nothing is left of it above the bits that are carried

pub fits-shift : (w n : ℕ) → eqb (w / 2 ^ n) 0 ≡ ltb w (2 ^ n)
fits-shift w n =
    by-test (ltb w (2 ^ n))
    (λ y. rw (y, div-eq_of_lt (ltb-true w (2 ^ n) y)))
    (λ m.
    let above = ltb-false w (2 ^ n) m in
    let close : w < w / 2 ^ n * 2 ^ n + 2 ^ n = lt-div-mul-add (pow_pos n) in
    rw (m, ne_eqb (w / 2 ^ n) 0 (λ q. let none : w < 0 * 2 ^ n + 2 ^ n = rw q at close in omega arith)))

-- a shift by at most 9 of a number that small loses nothing
pub join-fits : (low width high : ℕ) → low < 512 → width ≤ 9 → high < 1000000000000 → (high * 2 ^ width % 18446744073709551616 ≡ 2 ^ width * high) × (low + 2 ^ width * high < 512 * (high + 1))
join-fits low width high a b d =
    let power : 2 ^ width ≤ 2 ^ 9 = pow_mono {i = width} {j = 9} b in
    let product : high * 2 ^ width ≤ high * 512 = mul-le-mul_left high power in
    let turned = mul_comm high (2 ^ width) in
    (mod-eq_of_lt (omega arith) ∙ turned, omega arith)
