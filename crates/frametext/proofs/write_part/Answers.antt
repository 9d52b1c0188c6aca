-- `write_part` meets its contract.
use native.Mathlib.Omega.{arith}
use mathlib.Core.Path.{sym, ◌∙◌}
use Prim.Native.Nat.{◌≤◌}
use lib.ListN.{length}
use Rattle.frametext.proofs.Putting.{part-taken, part_length, part-written}
use Rattle.frametext.proofs.write_part.Goals as goal

pub returns : goal.returns
returns c =
    let room : c.args.n ≤ length c.args.lent.now = omega (arith, c.requires) in
    let it = c.write.ensures.1 in
    (c.write.ensures.0 ∙ part-taken _ _ _ _ _ _ c.requires.0 room it, part_length _ _ _ _ _ _ c.requires.0 room it ∙ c.requires.2, λ d. part-written _ _ _ _ _ _ c.requires.0 room it (sym c.write.ensures.0 ∙ d))
