-- What fits the code's numbers; the pulses of a list by their index, and what the list call leaves in the lent memory.
use Rattle.timecode.specs.Answers.{done}
use Rattle.std.specs.Prelude.{◌≡◌, refl, true, cond, List, [], ◌∷◌, map, ℕ, zero, suc, ◌+◌, ◌*◌, ◌-◌, ◌^◌, ◌≤◌, ◌<◌, ltb, ℤ, pos, negsuc, nat_abs, ◌-ℤ◌, get_or, length, Result, Err}
use Rattle.std.proofs.Common.{sym, ◌∙◌, not-suc-le-zero, zero-add, mul-le-mul, mul-le-mul_right, le_of_lt, ext_get_or, SFits, to_z, of_z}
use Rattle.std.proofs.Math.Path.{ap}
use native.Mathlib.Omega.{arith}
use borrow.Author.Tests.{ltb-true, ltb-false, lt-ltb}
use Rattle.std.proofs.lemmas.List.{length-map}
use Rattle.std.proofs.Math.ListN.{get_or-map}
use Rattle.std.specs.Int.{w32}
use Rattle.std.proofs.lemmas.Int.{to_z-of_z}
use Rattle.timecode.specs.Calls.{classes, is_interval, are_width_settings, in_class, pulse_in, spoiled_pulse, pulse_of, pulses_of, classify_list_of, symbols_left, deviations_left}
use Rattle.timecode.proofs.Laws.Runs.{length-tabulate, get_d_tabulate}
use Rattle.timecode.proofs.Laws.Tests.{by-test}
use Rattle.timecode.specs.Laws.Widths.{class_of}
use Rattle.timecode.proofs.Laws.Widths.{from-to, class-of, by-class, deviation-bound}
use Rattle.timecode.specs.Layout.{tabulate}
use Rattle.timecode.specs.declared.Pulse.{Pulse}
use Rattle.timecode.specs.declared.Refusal.{Refusal}
use Rattle.timecode.specs.declared.WidthClass.{WidthClass}
use Rattle.timecode.specs.declared.WidthSettings.{WidthSettings}

-- ---- numbers that fit

-- a percentage of the interval fits 64 bits, before the division by 100
pub percent-fits : (percent T : ℕ) → percent < 256 → T < 4294967296 → percent * T < 18446744073709551616
percent-fits percent T h k = let product : percent * T ≤ 256 * T = mul-le-mul_right T (le_of_lt h) in omega arith

-- a class whose ends are percentages: its centre is 20 to 80, its setting at most 14
abbrev pub Usable : WidthClass → Type 0
Usable c = (c.setting ≤ 14) × (20 ≤ c.centre) × (c.centre ≤ 80)

-- in a class 100w is below 1,000,000,000
in-class-small : (c : WidthClass) (T width : ℕ) → Usable c → is_interval T ≡ true → in_class c T width ≡ true → 100 * width < 1000000000
unfolding is_interval
in-class-small c T width u i y =
    let t = from-to 100 10000000 T i in
    let ends = from-to ((c.centre - c.setting) * T) ((c.centre + c.setting) * T) (100 * width) y in
    let most : c.centre + c.setting ≤ 94 = omega arith in
    let high : (c.centre + c.setting) * T ≤ 94 * 10000000 = mul-le-mul most t.1 in
    omega arith

pub centre-small : (centre T : ℕ) → centre ≤ 80 → T ≤ 10000000 → centre * T < 1000000000
centre-small centre T h k = let most : centre * T ≤ 80 * 10000000 = mul-le-mul h k in omega arith

pub difference-fits : (a b : ℕ) → a < 1000000000 → b < 1000000000 → SFits w32 (pos a -ℤ pos b)
difference-fits a zero h k = record { sfits = omega arith }
difference-fits a (suc b) h k =
    by-test (ltb a (suc b))
    (λ y. let less = ltb-true a (suc b) y in rw y (record { sfits = omega arith }))
    (λ n. let no_less = ltb-false a (suc b) n in rw n (record { sfits = omega arith }))

pub plain : (a : ℕ) → a < 1000000000 → to_z w32 a ≡ pos a
plain a h = rw (lt-ltb a (2 ^ 31) (omega arith))

pub difference-back : (a b : ℕ) → a < 1000000000 → b < 1000000000 → (z : ℤ) → z ≡ pos a -ℤ pos b → to_z w32 (of_z w32 z) ≡ pos a -ℤ pos b
difference-back a b h k z e = rw e (to_z-of_z w32 (pos a -ℤ pos b) (difference-fits a b h k))

bounded-fits : (z : ℤ) → nat_abs z ≤ 140000000 → SFits w32 z
bounded-fits (pos n) h = record { sfits = omega arith }
bounded-fits (negsuc n) h = record { sfits = omega arith }

-- a deviation comes back from its 32 bits
pub deviation-back : (s : WidthSettings) (T width period : ℕ) → is_interval T ≡ true → are_width_settings s ≡ true → (z : ℤ) → z ≡ (pulse_of s T width period).deviation → to_z w32 (of_z w32 z) ≡ z
deviation-back s T width period i g z e = to_z-of_z w32 z (rw e (bounded-fits (pulse_of s T width period).deviation (deviation-bound s T width period g i)))

-- ---- a pulse's deviation by its symbol

-- the width of a symbol below 3 is in a class
abbrev pub Classed : ℕ → ℕ → ℕ → Type 0
Classed symbol T width = (T ≤ 10000000) × (symbol < 3 → 100 * width < 1000000000)

-- from the centre of the symbol's class
unfoldable pub deviation_of : WidthSettings → ℕ → ℕ → ℕ → ℤ
deviation_of s symbol T width = cond (ltb symbol 3) (pulse_in (class_of s symbol) T width).deviation (pos 0)

-- ---- the classes of the table, symbol by symbol

pub class-0 : (s : WidthSettings) (i : ℕ) → i ≡ 0 → ◌≡◌ {A = WidthClass} (record { symbol = 0; centre = 20; setting = s.zeros }) (class_of s i)
unfolding classes
class-0 s i e = rw e

pub class-1 : (s : WidthSettings) (i : ℕ) → i ≡ 1 → ◌≡◌ {A = WidthClass} (record { symbol = 1; centre = 50; setting = s.ones }) (class_of s i)
unfolding classes
class-1 s i e = rw e

pub class-2 : (s : WidthSettings) (i : ℕ) → i < 3 → (i ≡ 0 → ⊥) → (i ≡ 1 → ⊥) → ◌≡◌ {A = WidthClass} (record { symbol = 2; centre = 80; setting = s.marks }) (class_of s i)
unfolding classes
class-2 s i h a b = let e : i ≡ 2 = omega arith in rw e

centre-of : (s : WidthSettings) (i : ℕ) → i < 3 → (class_of s i).centre ≤ 80
unfolding classes
centre-of s zero h = omega arith
centre-of s (suc zero) h = omega arith
centre-of s (suc (suc zero)) h = omega arith
centre-of s (suc (suc (suc i))) h = let no : ⊥ = omega arith in absurd no

pub class-centre : (s : WidthSettings) (i : ℕ) (c : WidthClass) → i < 3 → (i < 3 → c ≡ class_of s i) → c.centre ≤ 80
class-centre s i c h is = rw (is h) (centre-of s i h)

-- the percentages of a class in the table
pub class-usable : (s : WidthSettings) (i : ℕ) (c : WidthClass) → are_width_settings s ≡ true → i < 3 → (i < 3 → c ≡ class_of s i) → Usable c
class-usable s i c g h is =
    let k = class-of s i g h in
    let centre = k.centre_is in
    rw (is h) (k.small, omega arith, omega arith)

pub deviation-by : (s : WidthSettings) (symbol T width : ℕ) (c : WidthClass) (z : ℤ) → symbol < 3 → Classed symbol T width → (symbol < 3 → c ≡ class_of s symbol) → z ≡ pos (100 * width) -ℤ pos (c.centre * T) → to_z w32 (of_z w32 z) ≡ deviation_of s symbol T width
unfolding deviation_of
deviation-by s symbol T width c z h fits is e =
    let centre = centre-small c.centre T (class-centre s symbol c h is) fits.0 in
    difference-back (100 * width) (c.centre * T) (fits.1 h) centre z e ∙ rw (lt-ltb symbol 3 h) (ap (λ (k : WidthClass). (pulse_in k T width).deviation) (is h))

module _ (s : WidthSettings) (T width period symbol : ℕ) (are-settings : are_width_settings s ≡ true) (is : symbol ≡ (pulse_of s T width period).symbol) where
  pub pulse-classed : is_interval T ≡ true → Classed symbol T width
  unfolding is_interval
  pulse-classed i = (
    (from-to 100 10000000 T i).1,
    λ below.
        by-class s T width period
        (λ k h p y e.
        let c = class-of s k are-settings h in
        let centre = c.centre_is in
        in-class-small (class_of s k) T width (c.small, omega arith, omega arith) i y)
        (λ n e.
        let three : symbol ≡ 3 = is ∙ ap (λ (x : Pulse). x.symbol) e in
        let no : ⊥ = omega arith in
        absurd no),
  )

  pub pulse-deviation : deviation_of s symbol T width ≡ (pulse_of s T width period).deviation
  unfolding deviation_of
  pulse-deviation =
      by-class s T width period
      (λ k h p y e.
      let given : symbol ≡ k = is ∙ ap (λ (x : Pulse). x.symbol) e ∙ (class-of s k are-settings h).symbol_is in
      rw (given, lt-ltb k 3 h) (sym (ap (λ (x : Pulse). x.deviation) e)))
      (λ n e. rw (is ∙ ap (λ (x : Pulse). x.symbol) e) (sym (ap (λ (x : Pulse). x.deviation) e)))

-- ---- the pulses of a list by their index

-- pulse i
abbrev pub pulse : WidthSettings → ℕ → List ℕ → List ℕ → ℕ → Pulse
pulse s T widths periods i = pulse_of s T (get_or widths i 0) (get_or periods i 0)

length-pulses : (s : WidthSettings) (T : ℕ) (widths periods : List ℕ) → length widths ≡ length periods → length (pulses_of s T widths periods) ≡ length widths
unfolding pulses_of
length-pulses s T [] periods h = refl
length-pulses s T (w ∷ ws) [] h = sym h
length-pulses s T (w ∷ ws) (p ∷ ps) h = ap suc (length-pulses s T ws ps (omega arith))

pulse-at : (s : WidthSettings) (T : ℕ) (widths periods : List ℕ) (i : ℕ) → i < length widths → i < length periods → get_or (pulses_of s T widths periods) i spoiled_pulse ≡ pulse s T widths periods i
unfolding pulses_of
pulse-at s T [] periods i h k = absurd (not-suc-le-zero h)
pulse-at s T (w ∷ ws) [] i h k = absurd (not-suc-le-zero k)
pulse-at s T (w ∷ ws) (p ∷ ps) zero h k = refl
pulse-at s T (w ∷ ws) (p ∷ ps) (suc i) h k = pulse-at s T ws ps i (omega arith) (omega arith)

-- one field of each
pub pulses-tabulated : {A : Type 0} (field : Pulse → A) (s : WidthSettings) (T : ℕ) (widths periods : List ℕ) (n : ℕ) → length widths ≡ n → length periods ≡ n → tabulate n 0 (λ i. field (pulse s T widths periods i)) ≡ map field (pulses_of s T widths periods)
pulses-tabulated {A} field s T widths periods n a b =
    let g : ℕ → A = λ i. field (pulse s T widths periods i) in
    let ps = pulses_of s T widths periods in
    let l = length-map ps field ∙ length-pulses s T widths periods (a ∙ sym b) in
    let m = length-tabulate n 0 g in
    ext_get_or (field spoiled_pulse) (tabulate n 0 g) (map field ps) (m ∙ sym a ∙ sym l)
    (λ i h.
    let k : i < n = rw m at h in
    get_d_tabulate n 0 g (field spoiled_pulse) i k ∙ ap g (zero-add i) ∙ sym (get_or-map field ps i spoiled_pulse ∙ ap field (pulse-at s T widths periods i (omega arith) (omega arith))))

-- ---- the list call's answer and what it leaves

module _ (s : WidthSettings) (T : ℕ) (widths periods symbols : List ℕ) (deviations : List ℤ) where
  abbrev Leaves : Result Unit Refusal → List ℕ → List ℤ → Type 0
  Leaves r new off = (r ≡ classify_list_of s T widths periods symbols deviations) × (new ≡ symbols_left s T widths periods symbols deviations) × (off ≡ deviations_left s T widths periods symbols deviations)

  pub list-refused : (r : Refusal) → classify_list_of s T widths periods symbols deviations ≡ Err r → Leaves (Err r) symbols deviations
  unfolding symbols_left deviations_left
  list-refused r h = (sym h, rw h, rw h)

  pub list_done : (new : List ℕ) (off : List ℤ) → classify_list_of s T widths periods symbols deviations ≡ done → new ≡ map (λ p. p.symbol) (pulses_of s T widths periods) → off ≡ map (λ p. p.deviation) (pulses_of s T widths periods) → Leaves done new off
  unfolding symbols_left deviations_left
  list_done new off h k l = (sym h, k ∙ rw h, l ∙ rw h)
