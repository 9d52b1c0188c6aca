-- What is asked of the lent lists, index by index; it is what the simulation's definitions ask of the listeners.
use Rattle.std.specs.Prelude.{◌≡◌, refl, Bool, true, false, cond, ◌&&◌, List, [], ◌∷◌, ℕ, zero, suc, ◌+◌, ◌-◌, ◌<◌, ◌≤◌, leb, ltb, eqb, get_or, length, drop}
use Rattle.std.proofs.Common.{ap, ap₂, ◌∙◌, not-suc-le-zero, add-one, arith, leb-true, le-leb, lt-ltb, le-ltb, eqb-true, drop_of_length-le, drop-cons}
use Rattle.std.proofs.lemmas.Bool.{lt-leb}
use Rattle.timecode.specs.Formats.{is_symbol}
use Rattle.timecode.proofs.Laws.Tests.{and_left, and_right}
use Rattle.timecode.specs.Layout.{tabulate}
use Rattle.timecode.specs.Stream.{is_setting}
use Rattle.simulation.specs.Lent.{damage_at, damages_between, start_of, listener_at, listeners_of, ends_fit}
use Rattle.simulation.specs.Simulation.{are_rising, have_symbols, Listener, every, have_settings}

-- so many indexes from i on
unfoldable pub every_index : (ℕ → Bool) → ℕ → ℕ → Bool
every_index p zero i = true
every_index p (suc count) i = p i && every_index p count (suc i)

pub index-step : (p : ℕ → Bool) (to i : ℕ) → i < to → every_index p (to - i) i ≡ (p i && every_index p (to - (i + 1)) (i + 1))
unfolding every_index
index-step p to i h = let u : to - i ≡ suc (to - (i + 1)) = omega arith in rw (u, add-one i) refl

pub index-end : (p : ℕ → Bool) (to i : ℕ) → to ≤ i → every_index p (to - i) i ≡ true
unfolding every_index
index-end p to i h = let u : to - i ≡ 0 = omega arith in rw u refl

-- the next one holds, or does not
pub index_on : (p : ℕ → Bool) (to i : ℕ) {all : Bool} → i < to → all ≡ every_index p (to - i) i → p i ≡ true → all ≡ every_index p (to - (i + 1)) (i + 1)
index_on p to i h is yes-next = is ∙ index-step p to i h ∙ rw yes-next refl

pub index-out : (p : ℕ → Bool) (to i : ℕ) {all : Bool} → i < to → all ≡ every_index p (to - i) i → p i ≡ false → all ≡ false
index-out p to i h is no-next = is ∙ index-step p to i h ∙ rw no-next refl

-- ---- damages

-- the next number, where there is one, is above that of index i
unfoldable pub rises_at : List ℕ → ℕ → ℕ → Bool
rises_at numbers to i = cond (ltb (to - i) 2) true (ltb (get_or numbers i 0) (get_or numbers (i + 1) 0))

unfoldable pub damages_fit : List ℕ → List ℕ → ℕ → ℕ → Bool
damages_fit numbers symbols from to = every_index (rises_at numbers to) (to - from) from && every_index (λ i. is_symbol (get_or symbols i 0)) (to - from) from

rising-is : (numbers symbols : List ℕ) (to count i : ℕ) → to - i ≡ count → are_rising (tabulate count i (damage_at numbers symbols)) ≡ every_index (rises_at numbers to) count i
unfolding are_rising every_index rises_at
rising-is numbers symbols to zero i h = refl
rising-is numbers symbols to (suc zero) i h = let u : ltb (to - i) 2 ≡ true = lt-ltb (to - i) 2 (omega arith) in rw u refl
rising-is numbers symbols to (suc (suc count)) i h =
    let u : ltb (to - i) 2 ≡ false = le-ltb (to - i) 2 (omega arith) in
    rw (u, add-one i) (ap (λ (b : Bool). ltb (get_or numbers i 0) (get_or numbers (suc i) 0) && b) (rising-is numbers symbols to (suc count) (suc i) (omega arith)))

symbols-are : (numbers symbols : List ℕ) (count i : ℕ) → have_symbols (tabulate count i (damage_at numbers symbols)) ≡ every_index (λ j. is_symbol (get_or symbols j 0)) count i
unfolding have_symbols every_index
symbols-are numbers symbols zero i = refl
symbols-are numbers symbols (suc count) i = ap (λ (b : Bool). is_symbol (get_or symbols i 0) && b) (symbols-are numbers symbols count (suc i))

pub damages-fit : (numbers symbols : List ℕ) (from to : ℕ) → (are_rising (damages_between numbers symbols from to) && have_symbols (damages_between numbers symbols from to)) ≡ damages_fit numbers symbols from to
unfolding damages_fit
damages-fit numbers symbols from to = ap₂ (λ (a b : Bool). a && b) (rising-is numbers symbols to (to - from) from refl) (symbols-are numbers symbols (to - from) from)

-- ---- listeners

every-index : (p : Listener → Bool) (q : ℕ → Bool) (g : ℕ → Listener) (count i : ℕ) → ((j : ℕ) → p (g j) ≡ q j) → every p (tabulate count i g) ≡ every_index q count i
unfolding every_index
every-index p q g zero i h = refl
every-index p q g (suc count) i h = ap₂ (λ (a b : Bool). a && b) (h i) (every-index p q g count (suc i) h)

pub settings-are : (settings ends numbers symbols : List ℕ) → have_settings (listeners_of settings ends numbers symbols) ≡ every_index (λ j. is_setting (get_or settings j 0)) (length settings - 0) 0
unfolding have_settings
settings-are settings ends numbers symbols =
    let u : length settings - 0 ≡ length settings = omega arith in
    rw u (every-index (λ l. is_setting l.setting) (λ j. is_setting (get_or settings j 0)) (listener_at settings ends numbers symbols) (length settings) 0 (λ j. refl))

pub listeners-are : (settings ends numbers symbols : List ℕ) → length ends ≡ length settings
    → every (λ l. are_rising l.damages && have_symbols l.damages) (listeners_of settings ends numbers symbols) ≡ every_index (λ j. damages_fit numbers symbols (start_of ends j) (get_or ends j 0)) (length ends - 0) 0
listeners-are settings ends numbers symbols h =
    let u : length ends - 0 ≡ length settings = omega arith in
    rw u (every-index (λ l. are_rising l.damages && have_symbols l.damages) (λ j. damages_fit numbers symbols (start_of ends j) (get_or ends j 0)) (listener_at settings ends numbers symbols) (length settings) 0 (λ j. damages-fit numbers symbols (start_of ends j) (get_or ends j 0)))

-- ---- ends

pub ends_on : {all : Bool} (from j total : ℕ) (ends : List ℕ) → j < length ends → all ≡ ends_fit from (drop j ends) total → from ≤ get_or ends j 0 → all ≡ ends_fit (get_or ends j 0) (drop (j + 1) ends) total
unfolding ends_fit
ends_on from j total ends h is b = is ∙ ap (λ (xs : List ℕ). ends_fit from xs total) (drop-cons ends j 0 h) ∙ rw (le-leb from (get_or ends j 0) b, add-one j) refl

pub ends-out : {all : Bool} (from j total : ℕ) (ends : List ℕ) → j < length ends → all ≡ ends_fit from (drop j ends) total → get_or ends j 0 < from → all ≡ false
unfolding ends_fit
ends-out from j total ends h is b = is ∙ ap (λ (xs : List ℕ). ends_fit from xs total) (drop-cons ends j 0 h) ∙ rw (lt-leb from (get_or ends j 0) b) refl

pub ends-end : {all : Bool} (from j total : ℕ) (ends : List ℕ) → length ends ≤ j → all ≡ ends_fit from (drop j ends) total → all ≡ eqb from total
unfolding ends_fit
ends-end from j total ends h is = is ∙ ap (λ (xs : List ℕ). ends_fit from xs total) (drop_of_length-le ends {i = j} h)

-- each listener's damages lie within the lists
within : (from total : ℕ) (ends : List ℕ) → ends_fit from ends total ≡ true → from ≤ total
unfolding ends_fit
within from total [] h = omega (arith, eqb-true from total h)
within from total (e ∷ es) h = let a = leb-true from e (and_left (leb from e) (ends_fit e es total) h) in omega (arith, within e total es (and_right (leb from e) (ends_fit e es total) h))

pub end-within : (from total : ℕ) (ends : List ℕ) → ends_fit from ends total ≡ true → (j : ℕ) → j < length ends → get_or ends j 0 ≤ total
unfolding ends_fit
end-within from total [] h j b = absurd (not-suc-le-zero b)
end-within from total (e ∷ es) h zero b = within e total es (and_right (leb from e) (ends_fit e es total) h)
end-within from total (e ∷ es) h (suc j) b = end-within e total es (and_right (leb from e) (ends_fit e es total) h) j (omega arith)

pub start-within : (from total : ℕ) (ends : List ℕ) → ends_fit from ends total ≡ true → (j : ℕ) → suc j < length ends → get_or ends j 0 ≤ get_or ends (suc j) 0
unfolding ends_fit
start-within from total [] h j b = absurd (not-suc-le-zero b)
start-within from total (e ∷ []) h j b = let z : ⊥ = omega arith in absurd z
start-within from total (e ∷ (d ∷ es)) h zero b = leb-true e d (and_left (leb e d) (ends_fit d es total) (and_right (leb from e) (leb e d && ends_fit d es total) h))
start-within from total (e ∷ (d ∷ es)) h (suc j) b = start-within e total (d ∷ es) (and_right (leb from e) (leb e d && ends_fit d es total) h) j (omega arith)

pub starts-before : (total : ℕ) (ends : List ℕ) → ends_fit 0 ends total ≡ true → (j : ℕ) → j < length ends → start_of ends j ≤ get_or ends j 0
starts-before total ends h zero b = omega arith
starts-before total ends h (suc j) b = start-within 0 total ends h j b
