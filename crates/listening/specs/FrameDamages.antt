-- The damages that lie in a frame, put into it in their order: the damaged frame is that part of the damaged run.
use Rattle.std.specs.Prelude.{◌≡◌, true, false, cond, ◌&&◌, ◌⊎◌, ltb, length, set}
use Rattle.std.proofs.Math.Path.{refl, sym}
use Rattle.std.proofs.Common.{ap, ◌∙◌, inl, inr, length-set, get_or-set_same}
use mathlib.Core.List.{List, [], ◌∷◌}
use Prim.Native.Nat.{ℕ, zero, suc, ◌+◌, ◌-◌, ◌<◌, ◌≤◌}
use native.Mathlib.Omega.{arith}
use Rattle.std.proofs.Math.Decide.{ℕ_discrete, dec_lt, dec_le}
use borrow.Author.Tests.{ltb-true, leb-false, lt-ltb, le-ltb, le-leb}
use Rattle.std.proofs.Math.Dec.{leb}
use Rattle.std.proofs.Math.ListN.{get_or, get_or-eq_default}
use Rattle.std.proofs.Math.Seq.{get_or-set_other}
use Rattle.timecode.proofs.Laws.Tests.{by-test, and_left}
use Rattle.timecode.specs.Layout.{tabulate}
use Rattle.receive_many.specs.ManySymbols.{SymbolsBelow}
use Rattle.simulation.proofs.Damages.{length-damaged}
use Rattle.simulation.specs.Lent.{damage_at, damages_between}
use Rattle.simulation.specs.Simulation.{Damage, replace_at, damaged}

-- a damage, where it lies in the n elements after the first `past`
unfoldable pub put_damage : ℕ → ℕ → Damage → List ℕ → List ℕ
put_damage past n d frame = cond (ltb past d.at && leb d.at (past + n)) (set frame (d.at - past - 1) d.symbol) frame

unfoldable pub put_damages : ℕ → ℕ → List Damage → List ℕ → List ℕ
put_damages past n [] frame = frame
put_damages past n (d ∷ ds) frame = put_damages past n ds (put_damage past n d frame)

-- ---- the damages from one index on are put in up to the index `at`; none of them lies behind the frame

pub record PutUpTo (past n : ℕ) (numbers symbols : List ℕ) (from to : ℕ) (frame : List ℕ) (at : ℕ) (new : List ℕ) : Type 0 where
  pub lower : from ≤ at
  pub upper : at ≤ to
  pub long : length new ≡ length frame
  pub put : new ≡ put_damages past n (damages_between numbers symbols from at) frame
  pub passed : (i : ℕ) → from ≤ i → i < at → get_or numbers i 0 ≤ past + n

put-snoc : (past n : ℕ) (g : ℕ → Damage) (count from : ℕ) (frame : List ℕ) → put_damages past n (tabulate (suc count) from g) frame ≡ put_damage past n (g (from + count)) (put_damages past n (tabulate count from g) frame)
unfolding put_damages
put-snoc past n g zero from frame = let u : from ≡ from + 0 = omega arith in ap (λ (i : ℕ). put_damage past n (g i) frame) u
put-snoc past n g (suc count) from frame =
    let u : suc from + count ≡ from + suc count = omega arith in
    put-snoc past n g count (suc from) (put_damage past n (g from) frame) ∙ ap (λ (i : ℕ). put_damage past n (g i) (put_damages past n (tabulate count (suc from) g) (put_damage past n (g from) frame))) u

module _ {past n : ℕ} {numbers symbols : List ℕ} {from to : ℕ} {frame : List ℕ} where
  pub put-start : from ≤ to → PutUpTo past n numbers symbols from to frame from frame
  unfolding put_damages
  put-start h = let u : from - from ≡ 0 = omega arith in record { lower = omega arith; upper = h; long = refl; put = rw u refl; passed = λ i a b. let z : ⊥ = omega arith in absurd z }

  module _ {at : ℕ} {new : List ℕ} (p : PutUpTo past n numbers symbols from to frame at new) (h : at < to) (b : get_or numbers at 0 ≤ past + n) where
    more : (newer : List ℕ) → length newer ≡ length new → newer ≡ put_damage past n (damage_at numbers symbols at) new → PutUpTo past n numbers symbols from to frame (at + 1) newer
    more newer as_long is =
        let u : at + 1 - from ≡ suc (at - from) = omega (arith, p.lower) in
        let v : from + (at - from) ≡ at = omega (arith, p.lower) in
        record {
          lower = omega (arith, p.lower);
          upper = omega arith;
          long = as_long ∙ p.long;
          put = is ∙ rw u (rw v at (rw (← p.put) at (sym (put-snoc past n (damage_at numbers symbols) (at - from) from frame))));
          passed = λ i a c. go i a c (ℕ_discrete i at);
        }
      where
        go : (i : ℕ) → from ≤ i → i < at + 1 → Dec (i ≡ at) → get_or numbers i 0 ≤ past + n
        go i a c (yes q) = rw q b
        go i a c (no q) = p.passed i a (omega arith)

    -- it lies in the frame, or before it
    pub put-more : past < get_or numbers at 0 → PutUpTo past n numbers symbols from to frame (at + 1) (set new (get_or numbers at 0 - past - 1) (get_or symbols at 0))
    unfolding put_damage
    put-more c = more (set new (get_or numbers at 0 - past - 1) (get_or symbols at 0)) (length-set new (get_or numbers at 0 - past - 1) (get_or symbols at 0)) (rw (lt-ltb past (get_or numbers at 0) c, le-leb (get_or numbers at 0) (past + n) b) refl)

    pub put-none : get_or numbers at 0 ≤ past → PutUpTo past n numbers symbols from to frame (at + 1) new
    unfolding put_damage
    put-none c = more new refl (rw (le-ltb past (get_or numbers at 0) c) refl)

-- the frame with the damages is of symbols too
small_one : (past n : ℕ) (d : Damage) (frame : List ℕ) → d.symbol ≤ 3 → SymbolsBelow frame n → SymbolsBelow (put_damage past n d frame) n
unfolding put_damage
small_one past n d frame s h =
    by-test (ltb past d.at && leb d.at (past + n))
    (λ y. rw y (λ i b. go i b (ℕ_discrete i (d.at - past - 1)) (dec_lt i (length frame))))
    (λ m. rw m h)
  where
    go : (i : ℕ) → i < n → Dec (i ≡ d.at - past - 1) → Dec (i < length frame) → get_or (set frame (d.at - past - 1) d.symbol) i 0 ≤ 3
    go i b (no q) l = rw (get_or-set_other frame (d.at - past - 1) i d.symbol 0 q) (h i b)
    go i b (yes q) (yes l) = rw q (rw (get_or-set_same frame (d.at - past - 1) d.symbol 0 (rw q at l)) s)
    go i b (yes q) (no l) = omega (arith, get_or-eq_default (set frame (d.at - past - 1) d.symbol) 0 {n = i} (omega (arith, length-set frame (d.at - past - 1) d.symbol)))

small_all : (past n : ℕ) (g : ℕ → Damage) (count from : ℕ) (frame : List ℕ) → ((i : ℕ) → from ≤ i → i < from + count → (g i).symbol ≤ 3) → SymbolsBelow frame n → SymbolsBelow (put_damages past n (tabulate count from g) frame) n
unfolding put_damages
small_all past n g zero from frame s h = h
small_all past n g (suc count) from frame s h = small_all past n g count (suc from) (put_damage past n (g from) frame) (λ i a b. s i (omega arith) (omega arith)) (small_one past n (g from) frame (s from (omega arith) (omega arith)) h)

pub put_small : {past n : ℕ} {numbers symbols : List ℕ} {from to : ℕ} {frame : List ℕ} {at : ℕ} {new : List ℕ} → ((i : ℕ) → from ≤ i → i < to → get_or symbols i 0 ≤ 3) → SymbolsBelow frame n
    → PutUpTo past n numbers symbols from to frame at new → SymbolsBelow new n
put_small {past} {n} {numbers} {symbols} {from} {to} {frame} {at} {new} s h p =
    rw p.put (small_all past n (damage_at numbers symbols) (at - from) from frame (λ i a b. s i a (omega (arith, p.lower, p.upper))) h)

-- ---- the frame is the part of the run after its first `past` elements

abbrev pub IsPart : ℕ → ℕ → List ℕ → List ℕ → Type 0
IsPart past n frame run = (j : ℕ) → j < n → get_or frame j 0 ≡ get_or run (past + j) 0

module _ (past n : ℕ) where
  replaced-other : (at s : ℕ) (run : List ℕ) (p : ℕ) → (at ≡ suc p → ⊥) → get_or (replace_at at s run) p 0 ≡ get_or run p 0
  unfolding replace_at
  replaced-other zero s run p h = refl
  replaced-other (suc q) s run p h = get_or-set_other run q p s 0 (λ e. h (omega arith))

  replaced-there : (at s : ℕ) (run : List ℕ) (p : ℕ) → at ≡ suc p → p < length run → get_or (replace_at at s run) p 0 ≡ s
  unfolding replace_at
  replaced-there zero s run p h b = let z : ⊥ = omega arith in absurd z
  replaced-there (suc q) s run p h b = let e : q ≡ p = omega arith in rw e (get_or-set_same run p s 0 b)

  -- a damage that lies elsewhere
  part-skip : (d : Damage) (frame run : List ℕ) → (d.at ≤ past) ⊎ (past + n < d.at) → IsPart past n frame run → IsPart past n frame (replace_at d.at d.symbol run)
  part-skip d frame run o h j b = h j b ∙ sym (replaced-other d.at d.symbol run (past + j) (other o))
    where
      other : (d.at ≤ past) ⊎ (past + n < d.at) → d.at ≡ suc (past + j) → ⊥
      other (inl x) e = omega arith
      other (inr x) e = omega arith

  part-put : (d : Damage) (frame run : List ℕ) → n ≤ length frame → past + n ≤ length run → IsPart past n frame run → IsPart past n (put_damage past n d frame) (replace_at d.at d.symbol run)
  unfolding put_damage
  part-put d frame run l m h =
      by-test (ltb past d.at && leb d.at (past + n))
      (λ y.
      let low = ltb-true past d.at (and_left (ltb past d.at) (leb d.at (past + n)) y) in
      rw y (λ j b. go low j b (ℕ_discrete j (d.at - past - 1))))
      (λ o. rw o (part-skip d frame run (outside o (dec_le d.at past)) h))
    where
      go : past < d.at → (j : ℕ) → j < n → Dec (j ≡ d.at - past - 1) → get_or (set frame (d.at - past - 1) d.symbol) j 0 ≡ get_or (replace_at d.at d.symbol run) (past + j) 0
      go low j b (yes q) = rw q (get_or-set_same frame (d.at - past - 1) d.symbol 0 (omega arith)) ∙ sym (replaced-there d.at d.symbol run (past + j) (omega arith) (omega arith))
      go low j b (no q) = get_or-set_other frame (d.at - past - 1) j d.symbol 0 q ∙ h j b ∙ sym (replaced-other d.at d.symbol run (past + j) (λ e. q (omega arith)))

      outside : (ltb past d.at && leb d.at (past + n)) ≡ false → Dec (d.at ≤ past) → (d.at ≤ past) ⊎ (past + n < d.at)
      outside o (yes x) = inl x
      outside o (no x) =
          let low : ltb past d.at ≡ true = lt-ltb past d.at (omega arith) in
          let out : leb d.at (past + n) ≡ false = rw low at o in
          inr (leb-false d.at (past + n) out)

  length-put : (d : Damage) (frame : List ℕ) → length (put_damage past n d frame) ≡ length frame
  unfolding put_damage
  length-put d frame = by-test (ltb past d.at && leb d.at (past + n)) (λ y. rw y (length-set frame (d.at - past - 1) d.symbol)) (λ o. rw o refl)

  length-one : (d : Damage) (run : List ℕ) → length (replace_at d.at d.symbol run) ≡ length run
  unfolding damaged
  length-one d run = length-damaged (d ∷ []) run

  skip_all : (g : ℕ → Damage) (count from : ℕ) (frame run : List ℕ) → ((i : ℕ) → from ≤ i → i < from + count → ((g i).at ≤ past) ⊎ (past + n < (g i).at)) → IsPart past n frame run
      → IsPart past n frame (damaged (tabulate count from g) run)
  unfolding damaged
  skip_all g zero from frame run o h = h
  skip_all g (suc count) from frame run o h =
      skip_all g count (suc from) frame (replace_at (g from).at (g from).symbol run) (λ i a b. o i (omega arith) (omega arith)) (part-skip (g from) frame run (o from (omega arith) (omega arith)) h)

  put_all : (ds : List Damage) (frame run : List ℕ) → n ≤ length frame → past + n ≤ length run → IsPart past n frame run → IsPart past n (put_damages past n ds frame) (damaged ds run)
  unfolding damaged put_damages
  put_all [] frame run l m h = h
  put_all (d ∷ ds) frame run l m h =
      put_all ds (put_damage past n d frame) (replace_at d.at d.symbol run) (omega (arith, length-put d frame)) (omega (arith, length-one d run)) (part-put d frame run l m h)

damaged-split : (g : ℕ → Damage) (a b from : ℕ) (run : List ℕ) → damaged (tabulate (a + b) from g) run ≡ damaged (tabulate b (from + a) g) (damaged (tabulate a from g) run)
unfolding damaged
damaged-split g zero b from run = let u : 0 + b ≡ b = omega arith in let v : from + 0 ≡ from = omega arith in rw (u, v) refl
damaged-split g (suc a) b from run =
    let u : suc a + b ≡ suc (a + b) = omega arith in
    let v : from + suc a ≡ suc from + a = omega arith in
    rw (u, v) (damaged-split g a b (suc from) (replace_at (g from).at (g from).symbol run))

-- the numbers from one index up to another rise
abbrev pub RisingBetween : List ℕ → ℕ → ℕ → Type 0
RisingBetween numbers from to = (i : ℕ) → from ≤ i → suc i < to → get_or numbers i 0 < get_or numbers (suc i) 0

rising-on : (numbers : List ℕ) (from to : ℕ) → RisingBetween numbers from to → (i d : ℕ) → from ≤ i → i + d < to → get_or numbers i 0 ≤ get_or numbers (i + d) 0
rising-on numbers from to rising i zero a b = let u : i + 0 ≡ i = omega arith in rw u (omega arith)
rising-on numbers from to rising i (suc d) a b =
    let u : i + suc d ≡ suc (i + d) = omega arith in
    let before = rising-on numbers from to rising i d a (omega arith) in
    let next = rising (i + d) (omega arith) (omega arith) in
    rw u (omega (arith, before, next))

-- The damages before the listener's next one lie before the frame, those after its new next one behind it: so the frame that was heard is the part of the damaged run.
pub heard-part : {past n : ℕ} {numbers symbols : List ℕ} {from to next : ℕ} {frame : List ℕ} {at : ℕ} {new : List ℕ} (run : List ℕ) → RisingBetween numbers from to → from ≤ next
    → ((i : ℕ) → from ≤ i → i < next → get_or numbers i 0 ≤ past) → PutUpTo past n numbers symbols next to frame at new → (at < to → past + n < get_or numbers at 0)
    → n ≤ length frame → past + n ≤ length run → IsPart past n frame run → IsPart past n new (damaged (damages_between numbers symbols from to) run)
heard-part {past} {n} {numbers} {symbols} {from} {to} {next} {frame} {at} {new} run rising low passed p behind l m h =
    let g = damage_at numbers symbols in
    let first = damaged (tabulate (next - from) from g) run in
    let second = damaged (tabulate (at - next) next g) first in
    let u : next - from + (at - next) + (to - at) ≡ to - from = omega (arith, p.lower, p.upper) in
    let v : from + (next - from) ≡ next = omega arith in
    let w : from + (next - from + (at - next)) ≡ at = omega (arith, p.lower) in
    let long = length-damaged (tabulate (next - from) from g) run in
    let one = skip_all past n g (next - from) from frame run (λ i a b. inl (passed i a (omega arith))) h in
    let two : IsPart past n new second = rw p.put (put_all past n (tabulate (at - next) next g) frame first l (omega (arith, long)) one) in
    let three = skip_all past n g (to - at) at new second (λ i a b. inr (late i a b)) two in
    let all : damaged (damages_between numbers symbols from to) run ≡ damaged (tabulate (to - at) at g) second =
    ap (λ (c : ℕ). damaged (tabulate c from g) run) (sym u)
    ∙ damaged-split g (next - from + (at - next)) (to - at) from run
    ∙ rw w (ap (damaged (tabulate (to - at) at g)) (damaged-split g (next - from) (at - next) from run ∙ rw v refl)) in
    λ j b. three j b ∙ ap (λ (xs : List ℕ). get_or xs (past + j) 0) (sym all)
  where
    late : (i : ℕ) → at ≤ i → i < at + (to - at) → past + n < get_or numbers i 0
    late i a b =
        let c : at + (i - at) ≡ i = omega arith in
        let on = rising-on numbers from to rising at (i - at) (omega (arith, p.lower)) (omega (arith, p.upper)) in
        let on-i : get_or numbers at 0 ≤ get_or numbers i 0 = rw c at on in
        omega (arith, behind (omega (arith, p.upper)), on-i)
