-- `decode` meets its contract.
use mathlib.Core.Path.{◌∙◌, ap}
use lib.ListN.{length}
use Rattle.characters.proofs.Decoding.{decoded-none-skipped, decoded-kept}
use Rattle.characters.proofs.decode.Goals as goal

pub returns-then-most-lt-SKIPPED : goal.returns-then-most-lt-SKIPPED
returns-then-most-lt-SKIPPED c = let d = decoded-none-skipped _ _ _ _ c.requires c.put_each-most.ensures c.if-most-lt-SKIPPED.true in (d.0, d.1, c.put_each-most.ensures.long)

pub returns-else-most-lt-SKIPPED : goal.returns-else-most-lt-SKIPPED
returns-else-most-lt-SKIPPED c = let d = decoded-kept _ _ _ _ c.requires c.put_each-most.ensures in (c.close_up.ensures.0 ∙ ap length d, c.close_up.ensures.1 ∙ d, c.close_up.ensures.2 ∙ c.put_each-most.ensures.long)
