-- The classifier's settings: 5, 5, 5 give document 01's symbols, classes of at most 14 percent never meet, a symbol is given exactly where period and width are in its class, and the deviation is within the setting.
use Rattle.std.specs.Prelude.{◌≡◌, refl, true, false, cond, ◌&&◌, ◌↔◌, ℕ, zero, suc, ◌+◌, ◌*◌, ◌-◌, ◌<◌, ◌≤◌, leb, ltb, pos, nat_abs, ◌-ℤ◌}
use Rattle.std.proofs.Common.{sym, ap, ◌∙◌, suc-mul, add-mul, mul-le-mul, mul-le-mul_right, arith, leb-true, ltb-true, ltb-false}
use Rattle.timecode.specs.Calls.{within, is_interval, are_width_settings, classes, in_class, pulse_in, spoiled_pulse, pulse_among, is_period, pulse_of, symbol_before, five_percent}
use Rattle.timecode.proofs.Laws.Tests.{by-test, clash, and_left, and_right}
use Rattle.timecode.specs.declared.Pulse.{Pulse}
use Rattle.timecode.specs.declared.WidthClass.{WidthClass}
use Rattle.timecode.specs.declared.WidthSettings.{WidthSettings}
use Rattle.timecode.specs.Laws.Widths.{class_of, ClassOf}

-- ---- the classes

pub from-to : (a b x : ℕ) → within a b x ≡ true → (a ≤ x) × (x ≤ b)
from-to a b x h = (leb-true a x (and_left (leb a x) (leb x b) h), leb-true x b (and_right (leb a x) (leb x b) h))

pub settings-small : (s : WidthSettings) → are_width_settings s ≡ true → (s.zeros ≤ 14) × (s.ones ≤ 14) × (s.marks ≤ 14)
unfolding are_width_settings
settings-small s h =
    let others = and_right (within 1 14 s.zeros) (within 1 14 s.ones && within 1 14 s.marks) h in (
      (from-to 1 14 s.zeros (and_left (within 1 14 s.zeros) (within 1 14 s.ones && within 1 14 s.marks) h)).1,
      (from-to 1 14 s.ones (and_left (within 1 14 s.ones) (within 1 14 s.marks) others)).1,
      (from-to 1 14 s.marks (and_right (within 1 14 s.ones) (within 1 14 s.marks) others)).1,
    )

pub class-of : (s : WidthSettings) (i : ℕ) → are_width_settings s ≡ true → i < 3 → ClassOf (class_of s i) i
unfolding classes
class-of s zero g h = record { symbol_is = refl; centre_is = refl; small = (settings-small s g).0 }
class-of s (suc zero) g h = record { symbol_is = refl; centre_is = refl; small = (settings-small s g).1 }
class-of s (suc (suc zero)) g h = record { symbol_is = refl; centre_is = refl; small = (settings-small s g).2 }
class-of s (suc (suc (suc i))) g h = let no : ⊥ = omega arith in absurd no

symbol-of-class : (s : WidthSettings) (i : ℕ) → i < 3 → (class_of s i).symbol ≡ i
unfolding classes
symbol-of-class s zero h = refl
symbol-of-class s (suc zero) h = refl
symbol-of-class s (suc (suc zero)) h = refl
symbol-of-class s (suc (suc (suc i))) h = let no : ⊥ = omega arith in absurd no

-- ---- no width is in two classes

apart : (c d : WidthClass) (T width : ℕ) → c.setting ≤ 14 → d.setting ≤ 14 → c.centre + 30 ≤ d.centre → 1 ≤ T → in_class c T width ≡ true → in_class d T width ≡ true → ⊥
apart c d T width p q far some y z =
    let below = (from-to ((c.centre - c.setting) * T) ((c.centre + c.setting) * T) (100 * width) y).1 in
    let above = (from-to ((d.centre - d.setting) * T) ((d.centre + d.setting) * T) (100 * width) z).0 in
    let gap : suc (c.centre + c.setting) * T ≤ (d.centre - d.setting) * T = mul-le-mul_right T (omega arith) in
    let more = suc-mul (c.centre + c.setting) T in
    omega arith

interval-some : (T : ℕ) → is_interval T ≡ true → (1 ≤ T) × (T ≤ 10000000)
unfolding is_interval
interval-some T h = let r = from-to 100 10000000 T h in (omega arith, r.1)

module _ (s : WidthSettings) (T width : ℕ) (are-settings : are_width_settings s ≡ true) (is-interval : is_interval T ≡ true) where
  later-apart : (i j : ℕ) → i < j → j < 3 → in_class (class_of s i) T width ≡ true → in_class (class_of s j) T width ≡ true → ⊥
  later-apart i j less last y z =
      let c = class-of s i are-settings (omega arith) in
      let d = class-of s j are-settings last in
      let far : (class_of s i).centre + 30 ≤ (class_of s j).centre = rw (c.centre_is, d.centre_is) (omega arith) in
      apart (class_of s i) (class_of s j) T width c.small d.small far (interval-some T is-interval).0 y z

  pub classes-never-meet : (i j : ℕ) → i < 3 → j < 3 → in_class (class_of s i) T width ≡ true → in_class (class_of s j) T width ≡ true → i ≡ j
  classes-never-meet i j h k y z =
      by-test (ltb i j)
      (λ less. absurd (later-apart i j (ltb-true i j less) k y z))
      (λ no.
      by-test (ltb j i)
      (λ less. absurd (later-apart j i (ltb-true j i less) h z y))
      (λ none. omega (arith, ltb-false i j no, ltb-false j i none)))

-- ---- a pulse is that of a class, or spoiled

none : (s : WidthSettings) (T width : ℕ) → in_class (class_of s 0) T width ≡ false → in_class (class_of s 1) T width ≡ false → in_class (class_of s 2) T width ≡ false → (i : ℕ) → i < 3 → in_class (class_of s i) T width ≡ false
none s T width a b c zero h = a
none s T width a b c (suc zero) h = b
none s T width a b c (suc (suc zero)) h = c
none s T width a b c (suc (suc (suc i))) h = let no : ⊥ = omega arith in absurd no

pub by-class : {P : Type 0} (s : WidthSettings) (T width period : ℕ)
    → ((i : ℕ) → i < 3 → is_period T period ≡ true → in_class (class_of s i) T width ≡ true → pulse_of s T width period ≡ pulse_in (class_of s i) T width → P)
    → ((is_period T period ≡ true → (i : ℕ) → i < 3 → in_class (class_of s i) T width ≡ false) → pulse_of s T width period ≡ spoiled_pulse → P)
    → P
unfolding pulse_of pulse_among classes
by-class s T width period in_one in-none =
    by-test (is_period T period)
    (λ p.
    by-test (in_class (class_of s 0) T width)
    (λ y. in_one 0 (omega arith) p y (rw (p, y)))
    (λ n.
    by-test (in_class (class_of s 1) T width)
    (λ y. in_one 1 (omega arith) p y (rw (p, n, y)))
    (λ m.
    by-test (in_class (class_of s 2) T width)
    (λ y. in_one 2 (omega arith) p y (rw (p, n, m, y)))
    (λ o. in-none (λ q i h. none s T width n m o i h) (rw (p, n, m, o))))))
    (λ n. in-none (λ q i h. clash q n) (rw n))

-- Number 4 cannot occur: the symbol is at most 3.
pub pulse-symbol-small : (s : WidthSettings) (T width period : ℕ) → (pulse_of s T width period).symbol ≤ 3
pulse-symbol-small s T width period =
    by-class s T width period
    (λ i h p y e. rw (e, symbol-of-class s i h) (omega arith))
    (λ n e. rw e (omega arith))

module _ (s : WidthSettings) (T width period : ℕ) (are-settings : are_width_settings s ≡ true) (is-interval : is_interval T ≡ true) where
  -- So in the class of i the pulse is that class's, whatever the order in which the classes are asked,
  pub pulse-in-its-class : (i : ℕ) → i < 3 → is_period T period ≡ true → in_class (class_of s i) T width ≡ true → pulse_of s T width period ≡ pulse_in (class_of s i) T width
  pulse-in-its-class i h p y =
      by-class s T width period
      (λ j k q z e. let same : j ≡ i = classes-never-meet s T width are-settings is-interval j i k h z y in e ∙ ap (λ (m : ℕ). pulse_in (class_of s m) T width) same)
      (λ n e. clash y (n p i h))

  -- and a symbol below 3 is given exactly where the period and the width are in its class.
  pub symbol-exactly : (i : ℕ) → i < 3 → ((pulse_of s T width period).symbol ≡ i) ↔ ((is_period T period ≡ true) × (in_class (class_of s i) T width ≡ true))
  symbol-exactly i h = (
    λ e.
        by-class s T width period
        (λ j k p y f.
        let same : j ≡ i = sym (symbol-of-class s j k) ∙ sym (ap (λ (x : Pulse). x.symbol) f) ∙ e in
        (p, rw same at y))
        (λ n f.
        let three : 3 ≡ i = sym (ap (λ (x : Pulse). x.symbol) f) ∙ e in
        let no : ⊥ = omega arith in
        absurd no),
    λ both. ap (λ (x : Pulse). x.symbol) (pulse-in-its-class i h both.0 both.1) ∙ symbol-of-class s i h,
  )

-- ---- settings 5, 5, 5

by_tests : (s : WidthSettings) (T width period : ℕ) → (pulse_of s T width period).symbol ≡ cond (is_period T period) (cond (in_class (class_of s 0) T width) 0 (cond (in_class (class_of s 1) T width) 1 (cond (in_class (class_of s 2) T width) 2 3))) 3
unfolding pulse_of pulse_among classes
by_tests s T width period =
    by-test (is_period T period)
    (λ p.
    by-test (in_class (class_of s 0) T width)
    (λ y. rw (p, y))
    (λ n.
    by-test (in_class (class_of s 1) T width)
    (λ y. rw (p, n, y))
    (λ m. by-test (in_class (class_of s 2) T width) (λ y. rw (p, n, m, y)) (λ o. rw (p, n, m, o)))))
    (λ n. rw n)

pub as_before : (T width period : ℕ) → (pulse_of five_percent T width period).symbol ≡ symbol_before T width period
unfolding classes symbol_before
as_before T width period = by_tests five_percent T width period

-- ---- the deviation

distance : (a b m : ℕ) → a ≤ b + m → b ≤ a + m → nat_abs (pos a -ℤ pos b) ≤ m
distance a zero m h k = omega arith
distance a (suc b) m h k =
    by-test (ltb a (suc b))
    (λ y. let less = ltb-true a (suc b) y in rw y (omega arith))
    (λ n. let no_less = ltb-false a (suc b) n in rw n (omega arith))

-- in a class 100w lies at most the setting's part of T from the centre's
pub in-class-near : (c : WidthClass) (T width : ℕ) → c.setting ≤ c.centre → in_class c T width ≡ true → nat_abs (pulse_in c T width).deviation ≤ c.setting * T
in-class-near c T width h y =
    let ends = from-to ((c.centre - c.setting) * T) ((c.centre + c.setting) * T) (100 * width) y in
    let up = add-mul c.centre c.setting T in
    let whole : c.centre - c.setting + c.setting ≡ c.centre = omega arith in
    let down : (c.centre - c.setting) * T + c.setting * T ≡ c.centre * T = sym (add-mul (c.centre - c.setting) c.setting T) ∙ ap (λ (x : ℕ). x * T) whole in
    distance (100 * width) (c.centre * T) (c.setting * T) (omega arith) (omega arith)

module _ (s : WidthSettings) (T width period : ℕ) (are-settings : are_width_settings s ≡ true) where
  -- The deviation of a symbol below 3 is 100w less its centre's part of T, at most the setting's part of T;
  pub deviation-within : (i : ℕ) → i < 3 → (pulse_of s T width period).symbol ≡ i
      → ((pulse_of s T width period).deviation ≡ pos (100 * width) -ℤ pos ((20 + 30 * i) * T)) × (nat_abs (pulse_of s T width period).deviation ≤ (class_of s i).setting * T)
  deviation-within i h e =
      by-class s T width period
      (λ j k p y f.
      let same : j ≡ i = sym (symbol-of-class s j k) ∙ sym (ap (λ (x : Pulse). x.symbol) f) ∙ e in
      let c = class-of s j are-settings k in
      let centre = c.centre_is in
      let small = c.small in
      rw (f, ← same) (ap (λ (m : ℕ). pos (100 * width) -ℤ pos (m * T)) centre, in-class-near (class_of s j) T width (omega arith) y))
      (λ n f.
      let three : 3 ≡ i = sym (ap (λ (x : Pulse). x.symbol) f) ∙ e in
      let no : ⊥ = omega arith in
      absurd no)

  -- that of a spoiled element is 0;
  pub spoiled-without-deviation : (pulse_of s T width period).symbol ≡ 3 → (pulse_of s T width period).deviation ≡ pos 0
  spoiled-without-deviation e =
      by-class s T width period
      (λ j k p y f.
      let three : j ≡ 3 = sym (symbol-of-class s j k) ∙ sym (ap (λ (x : Pulse). x.symbol) f) ∙ e in
      let no : ⊥ = omega arith in
      absurd no)
      (λ n f. ap (λ (x : Pulse). x.deviation) f)

  -- so no deviation is beyond 140,000,000 either way.
  pub deviation-bound : is_interval T ≡ true → nat_abs (pulse_of s T width period).deviation ≤ 140000000
  deviation-bound is-interval =
      by-class s T width period
      (λ j k p y f.
      let c = class-of s j are-settings k in
      let small = c.small in
      let centre = c.centre_is in
      let near = in-class-near (class_of s j) T width (omega arith) y in
      let most : (class_of s j).setting * T ≤ 14 * 10000000 = mul-le-mul small (interval-some T is-interval).1 in
      rw f (omega arith))
      (λ n f. rw f (omega arith))
