use mathlib.Core.Path.{◌≡◌}
use Prim.Native.Nat.{◌-◌}
use Rattle.digits.specs.Meaning.{digits_from}
use Rattle.digits.proofs.are_digits.Given as goal

abbrev pub invariant-loop-digit : goal.invariant-loop-digit
invariant-loop-digit l = digits_from 11 0 l.fn.digits ≡ digits_from (11 - l.digit-index) l.digit-index l.fn.digits
