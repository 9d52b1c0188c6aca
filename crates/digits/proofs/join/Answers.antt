-- `join` meets its contract: the shift loses no bit.
use native.Mathlib.Omega.{arith}
use mathlib.Core.Path.{ap}
use Prim.Native.Nat.{ℕ, ◌+◌}
use Rattle.digits.specs.Splitting.{join-fits}
use Rattle.digits.proofs.join.Goals as goal

pub returns : goal.returns
returns c = let j = join-fits c.args.low c.args.width c.args.high c.requires.0 c.requires.1 c.requires.2 in (ap (λ (n : ℕ). c.args.low + n) j.0, omega (arith, j.0, j.1))
