-- `write_part` meets its contract.
use Rattle.simulate.specs.Results.{part-written}
use mathlib.Core.Path.{◌∙◌}
use native.Mathlib.Omega.{arith}
use Rattle.simulate.proofs.write_part.Goals as goal

pub returns : goal.returns
returns c = let whole = part-written _ _ _ _ _ c.requires.0 (omega (arith, c.requires.1, c.requires.2)) c.requires.3 c.write.ensures.1 in (whole.0 ∙ c.requires.2, whole.1)
