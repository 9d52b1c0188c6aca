-- `put_element` meets its contract.
use native.Mathlib.Omega.{arith}
use mathlib.Core.Path.{sym, ◌∙◌}
use mathlib.Core.List.{[], ◌∷◌, append_assoc}
use lib.ListN.{take}
use Rattle.frametext.proofs.Putting.{element-spaced, element-plain}
use Rattle.frametext.proofs.put_element.Goals as goal

pub returns-then-opens_group : goal.returns-then-opens_group
returns-then-opens_group c =
    let y = sym c.opens_group.ensures ∙ c.if-opens_group.true in
    (omega (arith, c.put-next.ensures.0, c.put.ensures.0), c.put.ensures.1 ∙ c.put-next.ensures.1, rw (← element-spaced _ _ y, ← c.character_of-character.ensures) (c.put.ensures.2 ∙ rw c.put-next.ensures.2 (append_assoc (take c.args.at c.args.line.now) (32 ∷ []) (c.character_of-character.result ∷ []))))

pub returns-else-opens_group : goal.returns-else-opens_group
returns-else-opens_group c =
    let n = sym c.opens_group.ensures ∙ c.if-opens_group.false in
    (omega (arith, c.put-else-opens_group.ensures.0), c.put-else-opens_group.ensures.1, rw (← element-plain _ _ n, ← c.character_of-character.ensures) c.put-else-opens_group.ensures.2)
