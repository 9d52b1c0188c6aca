-- `push_all` meets its contract: four by four, and the rest one by one.
use Rattle.receive_many.specs.ManySymbols.{slice, push_all, push-all-turn, push-all-four, push-all-end}
use Prim.Native.Nat.{ℕ, ◌+◌, ◌-◌, ◌%◌}
use mathlib.Core.Path.{◌≡◌, sym, ap, ◌∙◌}
use native.Mathlib.Omega.{arith}
use Rattle.receive_many.proofs.push_all.Goals as goal
use Rattle.receive_many.proofs.push_all.Goals.{else-loop-i-test, then-loop-i-test+else-whole-i-gt4}

pub loop-i-preserved : goal.loop-i-preserved
loop-i-preserved c = (
  omega arith,
  omega arith,
  omega arith,
  rw c.push_four-newest.ensures (c.loop-i.invariant.3 ∙ push-all-four c.loop-i.newest c.args.symbols.now c.loop-i.i c.args.to (omega arith) c.requires.1),
)

-- where the fours end, none or one of them is left
pub loop-k-init : goal.loop-k-init
loop-k-init c =
    let a = c.args in
    let i = c.loop-i.i in
    let whole = a.to - (a.to - a.from) % 4 in
    elim c.loop-i-test.branch [
      | else-loop-i-test w ↦
          let at : i ≡ whole = omega arith in
          rw w.newest-is (c.loop-i.invariant.3 ∙ ap (λ (n : ℕ). push_all c.loop-i.newest (slice a.symbols.now n a.to)) at)
      | then-loop-i-test+else-whole-i-gt4 w ↦
          let at : i + 4 ≡ whole = omega arith in
          let four : push_all a.word (slice a.symbols.now a.from a.to) ≡ push_all w.push_four-newest.result (slice a.symbols.now (i + 4) a.to) =
          rw w.push_four-newest.ensures (c.loop-i.invariant.3 ∙ push-all-four c.loop-i.newest a.symbols.now i a.to (omega arith) c.requires.1) in
          rw w.newest-is (four ∙ ap (λ (n : ℕ). push_all w.push_four-newest.result (slice a.symbols.now n a.to)) at)
    ]

pub loop-k-preserved : goal.loop-k-preserved
loop-k-preserved c = rw c.push-newest.ensures (c.loop-k.invariant ∙ push-all-turn c.loop-k.newest c.args.symbols.now c.loop-k.k c.args.to (omega arith) c.requires.1)

pub returns : goal.returns
returns c =
    let all : c.loop-k.k ≡ c.args.to = omega arith in
    sym (c.loop-k.invariant ∙ push-all-end _ _ _ _ all)
