-- `check_frame` meets its contract: check by check.
use native.Mathlib.Omega.{arith}
use mathlib.Core.Path.{sym, ap, ◌∙◌}
use Prim.Native.Nat.{ℕ, ◌*◌, ◌≤◌}
use borrow.Author.Tests.{eq-eqb, ne_eqb}
use native.Mathlib.Nat.{mul-le-mul}
use Rattle.cycles.specs.Cycles.{check_frame}
use Rattle.cycles.proofs.Elements.{count-parts}
use Rattle.manchester.proofs.check_frame.Goals as goal

pub returns-then-not-is_modulated : goal.returns-then-not-is_modulated
unfolding check_frame
returns-then-not-is_modulated c = rw (sym c.is_modulated.ensures ∙ c.if-not-is_modulated.true)

pub returns-then-not-is_cycle_count : goal.returns-then-not-is_cycle_count
unfolding check_frame
returns-then-not-is_cycle_count c = rw (sym c.is_modulated.ensures ∙ c.if-not-is_modulated.false, sym c.is_cycle_count.ensures ∙ c.if-not-is_cycle_count.true)

pub overflow_mul-n : goal.overflow_mul-n
overflow_mul-n c =
    let p = count-parts c.args.count (sym c.is_cycle_count.ensures ∙ c.if-not-is_cycle_count.false) in
    let small : c.frame_size-n.result * c.args.count ≤ 100 * 100 = mul-le-mul c.frame_size-n.ensures.2 p.1 in
    omega arith

pub returns-then-cycles-n : goal.returns-then-cycles-n
unfolding check_frame
returns-then-cycles-n c = rw (sym c.is_modulated.ensures ∙ c.if-not-is_modulated.false, sym c.is_cycle_count.ensures ∙ c.if-not-is_cycle_count.false, eq-eqb _ _ (c.if-symbols-n.true ∙ c.frame_size-n.ensures.0), eq-eqb _ _ (c.if-cycles-n.true ∙ ap (λ (k : ℕ). k * c.args.count) c.frame_size-n.ensures.0))

pub returns-else-cycles-n : goal.returns-else-cycles-n
unfolding check_frame
returns-else-cycles-n c = rw (sym c.is_modulated.ensures ∙ c.if-not-is_modulated.false, sym c.is_cycle_count.ensures ∙ c.if-not-is_cycle_count.false, eq-eqb _ _ (c.if-symbols-n.true ∙ c.frame_size-n.ensures.0), ne_eqb _ _ (λ e. c.if-cycles-n.false (e ∙ ap (λ (k : ℕ). k * c.args.count) (sym c.frame_size-n.ensures.0))))

pub returns-else-symbols-n : goal.returns-else-symbols-n
unfolding check_frame
returns-else-symbols-n c = rw (sym c.is_modulated.ensures ∙ c.if-not-is_modulated.false, sym c.is_cycle_count.ensures ∙ c.if-not-is_cycle_count.false, ne_eqb _ _ (λ e. c.if-symbols-n.false (e ∙ sym c.frame_size-n.ensures.0)))
