-- The loops of decoding, turn by turn.
use Rattle.timecode.proofs.Laws.Tests.{by-test}
use Rattle.timecode.specs.Answers.{done}
use Rattle.std.specs.Prelude.{◌≡◌, refl, Bool, true, false, ◌&&◌, List, ℕ, suc, ◌+◌, ◌*◌, ◌-◌, ◌<◌, ◌≤◌, leb, length, take, drop, get_or, set, Err, [], ◌∷◌, zero, eqb}
use Rattle.std.proofs.Common.{sym, ap, ◌∙◌, le_trans, le_of_eq, add-one, arith, ne_eqb, le-leb, drop_of_length-le, length-drop, drop-cons, length-take-le, take_all}
use Rattle.std.proofs.lemmas.Bool.{lt-leb}
use Rattle.timecode.proofs.Laws.Runs.{fill_step, fill_end}
use Rattle.timecode.specs.Layout.{tabulate}
use Rattle.timecode.proofs.Laws.Table.{size-range}
use Rattle.timecode.specs.declared.Format.{Format}
use Rattle.timecode.specs.declared.Refusal.{Refusal}
use Rattle.timecode.specs.declared.Refusal.TheVariants.{UnknownCycle}
use Rattle.cycles.proofs.Checks.{checked, checks-pass, checks-refuse}
use Rattle.cycles.specs.Cycles.{check_frame, is_proper, first_improper, symbol_in, cycles_at, symbols_in, decode_of, decode_leaves}
use Rattle.cycles.specs.Elements.{leading, all_low, all_proper}
use Rattle.cycles.proofs.Elements.{count-parts, all-proper, some-improper}

-- ---- the searches

pub leading-is : (xs : List ℕ) (i : ℕ) → i ≤ length xs → ((k : ℕ) → k < i → get_or xs k 0 ≡ 1) → (i < length xs → get_or xs i 0 ≡ 1 → ⊥) → i ≡ leading xs
unfolding leading
leading-is [] i h b f = omega arith
leading-is (x ∷ xs) zero h b f = rw (ne_eqb x 1 (f (omega arith)))
leading-is (x ∷ xs) (suc i) h b f =
    let e : x ≡ 1 = b 0 (omega arith) in
    rw e (ap suc (leading-is xs i (omega arith) (λ k u. b (suc k) (omega arith)) (λ u. f (omega arith))))

pub low-all : (xs : List ℕ) → ((k : ℕ) → k < length xs → get_or xs k 0 ≡ 2) → true ≡ all_low xs
unfolding all_low
low-all [] b = refl
low-all (x ∷ xs) b = let e : x ≡ 2 = b 0 (omega arith) in rw e (low-all xs (λ k u. b (suc k) (omega arith)))

pub low-not : (xs : List ℕ) (i : ℕ) → i < length xs → (get_or xs i 0 ≡ 2 → ⊥) → false ≡ all_low xs
unfolding all_low
low-not [] i h f = absurd (omega arith)
low-not (x ∷ xs) zero h f = rw (ne_eqb x 2 f)
low-not (x ∷ xs) (suc i) h f = by-test (eqb x 2) (λ y. rw y (low-not xs i (omega arith) f)) (λ n. rw n)

pub improper-is : (xs : List ℕ) (i : ℕ) → i ≤ length xs → ((k : ℕ) → k < i → is_proper (get_or xs k 0) ≡ true) → (i < length xs → is_proper (get_or xs i 0) ≡ false) → i ≡ first_improper xs
unfolding first_improper
improper-is [] i h b f = omega arith
improper-is (x ∷ xs) zero h b f = let e : is_proper x ≡ false = f (omega arith) in rw e
improper-is (x ∷ xs) (suc i) h b f =
    let e : is_proper x ≡ true = b 0 (omega arith) in
    rw e (ap suc (improper-is xs i (omega arith) (λ k u. b (suc k) (omega arith)) (λ u. f (omega arith))))

-- the cycles behind the high ones, as a slice has them
pub low-tail : (xs : List ℕ) (k : ℕ) (r b : Bool) → k ≡ leading xs → r ≡ all_low (take (length xs - k) (drop k xs)) → r ≡ b → all_low (drop (leading xs) xs) ≡ b
low-tail xs k r b e p q = rw (← e) (ap all_low (sym (take_all (length xs - k) (drop k xs) (omega (arith, length-drop k xs)))) ∙ sym p ∙ q)

-- ---- one more symbol

pub symbol-filled : (M : ℕ) (cs xs : List ℕ) (i at s : ℕ) → at ≡ i * M → i < length xs → s ≡ symbol_in M (take (at + M - at) (drop at cs)) → take i xs ≡ tabulate i 0 (λ i. symbol_in M (cycles_at M cs i)) → take (i + 1) (set xs i s) ≡ tabulate (i + 1) 0 (λ i. symbol_in M (cycles_at M cs i))
symbol-filled M cs xs i at s a h e p =
    let all : at + M - at ≡ M = omega arith in
    let here : s ≡ symbol_in M (cycles_at M cs i) = e ∙ rw (all, a) in
    rw here (fill_step xs (λ i. symbol_in M (cycles_at M cs i)) i h p)

pub symbols-filled : (M : ℕ) (cs xs : List ℕ) (i n : ℕ) → i ≡ n → length xs ≡ n → take i xs ≡ tabulate i 0 (λ i. symbol_in M (cycles_at M cs i)) → xs ≡ symbols_in M n cs
unfolding symbols_in
symbols-filled M cs xs i n e l p = fill_end xs (λ i. symbol_in M (cycles_at M cs i)) n l (rw e at p)

-- the part of one element as a slice has it
pub part_length : (M : ℕ) (cs : List ℕ) (at : ℕ) → at + M ≤ length cs → length (take (at + M - at) (drop at cs)) ≡ M
part_length M cs at h =
    let all : at + M - at ≡ M = omega arith in
    let rest = length-drop at cs in
    rw all (length-take-le M (drop at cs) (omega arith))

-- ---- the test of all cycles

pub proper-on : (xs : List ℕ) (i : ℕ) (proper : Bool) → i < length xs → (proper && all_proper (drop i xs)) ≡ ((proper && is_proper (get_or xs i 0)) && all_proper (drop (i + 1) xs))
unfolding all_proper
proper-on xs i proper h = rw (drop-cons xs i 0 h, add-one i) (turn proper (is_proper (get_or xs i 0)) (all_proper (drop (suc i) xs)))
  where
    turn : (a b c : Bool) → (a && (b && c)) ≡ ((a && b) && c)
    turn true b c = refl
    turn false b c = refl

pub proper-end : (xs : List ℕ) (i : ℕ) (proper : Bool) → length xs ≤ i → (proper && all_proper (drop i xs)) ≡ proper
unfolding all_proper
proper-end xs i true h = rw (drop_of_length-le xs {i = i} h)
proper-end xs i false h = refl

pub proper-all : (cs : List ℕ) → all_proper cs ≡ true → leb (length cs) (first_improper cs) ≡ true
proper-all cs h = le-leb (length cs) (first_improper cs) (let e = all-proper cs h in omega arith)

pub improper-some : (cs : List ℕ) → all_proper cs ≡ false → leb (length cs) (first_improper cs) ≡ false
improper-some cs h = lt-leb (length cs) (first_improper cs) (some-improper cs h)

-- ---- the call, by its checks

module _ (f : Format) (M : ℕ) (cycles lent : List ℕ) where
  pub decode-room : check_frame f M (length lent) (length cycles) done ≡ done → (M ≤ 100) × (length lent ≤ 100) × (length cycles ≡ length lent * M)
  decode-room h =
      let c = (checked f M (length lent) (length cycles) done h).0 in
      let most = size-range f in
      ((count-parts M c.count).1, le_trans (le_of_eq c.elements) most.1, c.all ∙ ap (λ (n : ℕ). n * M) (sym c.elements))

  pub decode-done : (new : List ℕ) → check_frame f M (length lent) (length cycles) done ≡ done → all_proper cycles ≡ true → new ≡ symbols_in M (length lent) cycles → (done ≡ decode_of f M cycles lent) × (new ≡ decode_leaves f M cycles lent)
  unfolding decode_of decode_leaves
  decode-done new h u k =
      let c = (checked f M (length lent) (length cycles) done h).0 in
      let e : decode_of f M cycles lent ≡ done = checks-pass f M (length lent) (length cycles) _ c ∙ rw (proper-all cycles u) in
      (sym e, k ∙ rw (e, c.elements))

  decode-leaves : (r : Refusal) → decode_of f M cycles lent ≡ Err r → (Err r ≡ decode_of f M cycles lent) × (lent ≡ decode_leaves f M cycles lent)
  unfolding decode_leaves
  decode-leaves r e = (sym e, rw e)

  pub decode-improper : (i : ℕ) → check_frame f M (length lent) (length cycles) done ≡ done → all_proper cycles ≡ false → i ≡ first_improper cycles → (Err (UnknownCycle i) ≡ decode_of f M cycles lent) × (lent ≡ decode_leaves f M cycles lent)
  unfolding decode_of
  decode-improper i h u e = decode-leaves (UnknownCycle i) (checks-pass f M (length lent) (length cycles) _ (checked f M (length lent) (length cycles) done h).0 ∙ rw (improper-some cycles u, e))

  pub decode-refused : (r : Refusal) → check_frame f M (length lent) (length cycles) done ≡ Err r → (Err r ≡ decode_of f M cycles lent) × (lent ≡ decode_leaves f M cycles lent)
  unfolding decode_of
  decode-refused r h = decode-leaves r (checks-refuse f M (length lent) (length cycles) _ r h)
