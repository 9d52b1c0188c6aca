-- `push_many` meets its contract.
use Prim.Native.Nat.{◌-◌}
use native.Mathlib.Omega.{arith}
use mathlib.Core.Path.{sym, ◌∙◌}
use Rattle.receive_many.specs.ManySymbols.{push-late}
use Rattle.receive_many.proofs.push_many.Goals as goal

pub returns-then-to-from-gt32 : goal.returns-then-to-from-gt32
returns-then-to-from-gt32 c =
    let a = c.args in
    c.push_all.ensures ∙ sym (push-late a.word a.symbols.now a.from (a.to - 32) a.to (omega (arith, c.if-to-from-gt32.true)) (omega (arith, c.if-to-from-gt32.true)) c.requires.1)
