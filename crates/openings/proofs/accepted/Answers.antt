-- `accepted` meets its contract.
use native.Mathlib.Omega.{arith}
use mathlib.Core.Path.{sym}
use Rattle.openings.specs.Accepted.{all-accepted}
use Rattle.openings.proofs.accepted.Goals as goal

pub returns-then-greatest-le-SPOILED : goal.returns-then-greatest-le-SPOILED
returns-then-greatest-le-SPOILED c = sym (all-accepted c.args.symbols.now (λ k h. omega (arith, c.greatest.ensures k h, c.if-greatest-le-SPOILED.true)))
