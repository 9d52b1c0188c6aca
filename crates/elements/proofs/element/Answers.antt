-- `element` meets its contract: the table has each four bits as four bytes.
use mathlib.Core.Path.{ap, ◌∙◌}
use Prim.Native.Nat.{◌*◌, ◌/◌, ◌%◌, ◌^◌}
use lib.ListN.{get_or}
use Rattle.elements.specs.Tens.{element-bit}
use Rattle.elements.proofs.element.Goals as goal

pub returns : goal.returns
returns c =
    let x = c.args.x in
    let k = c.args.k in
    ap (λ fours. get_or fours (x / 2 ^ (k / 4 * 4) % 16) 0 / 2 ^ (k % 4 * 8) % 256) c.requires.0 ∙ element-bit x k
