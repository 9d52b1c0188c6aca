-- `put_decimal` meets its contract.
use native.Mathlib.Omega.{arith}
use Rattle.lines.specs.Text.{decimal}
use Rattle.lines.proofs.Line.put_decimal.Goals as goal

pub returns : goal.returns
unfolding decimal
returns c =
    let e = c.put_numeral.ensures in
    let n = c.digit_count.ensures in
    (omega (arith, e.0, n.2), rw (← n.0) e.1)
