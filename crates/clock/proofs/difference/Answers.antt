-- `difference` meets its contract: the difference of the two totals is the one that document 01 prints.
use Rattle.std.specs.Prelude.{Ok}
use mathlib.Core.Path.{ap, ap₂, ◌∙◌}
use Prim.Native.Nat.{ℕ}
use lib.IntN.{pos, ◌-ℤ◌}
use Rattle.timecode.specs.Calls.{difference_of}
use Rattle.clock.specs.Signed.{difference-back, as-printed}
use Rattle.clock.proofs.difference.Goals as goal

pub returns-then-in_range-2 : goal.returns-then-in_range-2
unfolding difference_of
returns-then-in_range-2 c =
    let first = c.args.first in
    let second = c.args.second in
    let a = c.total.ensures in
    let b = c.total-then-in_range-2.ensures in
    rw (← c.in_range.ensures, c.if-in_range.true, ← c.in_range-then-in_range.ensures, c.if-in_range-2.true)
    (ap Ok (difference-back c.total.result c.total-then-in_range-2.result a.1 b.1 _ c.minus.ensures ∙ ap₂ (λ (u v : ℕ). pos u -ℤ pos v) a.0 b.0 ∙ as-printed first second))
