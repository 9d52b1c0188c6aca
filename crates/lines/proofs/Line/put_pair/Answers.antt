-- `put_pair` meets its contract: two digits, then the separator.
use native.Mathlib.Omega.{arith}
use mathlib.Core.List.{append_assoc}
use Rattle.lines.specs.Text.{pair_of}
use Rattle.lines.proofs.Line.put_pair.Goals as goal

pub returns : goal.returns
unfolding pair_of
returns c =
    let d = c.put_numeral.ensures in
    let s = c.put.ensures in
    (omega (arith, d.0, s.0), rw (s.1, d.1) (simp append_assoc))
