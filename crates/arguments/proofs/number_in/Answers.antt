-- `number_in` meets its contract: the digits read so far have the value, and the rest decides.
use Rattle.std.proofs.Common.{arith}
use Rattle.std.proofs.lemmas.Bool.Decides.{nat_tests}
use Rattle.arguments.specs.DigitBytes.{read-start, read-turn, read_none, read-other, read_all}
use Rattle.arguments.proofs.number_in.Goals as goal

pub returns-then-is_empty : goal.returns-then-is_empty
returns-then-is_empty c = read_none _ _ (grind (arith, nat_tests))

pub loop-byte-init : goal.loop-byte-init
loop-byte-init c = read-start _ _

pub returns-then-base-digit : goal.returns-then-base-digit
returns-then-base-digit c = read-other _ _ c.loop-byte.byte-index _ _ (omega arith) c.loop-byte.invariant c.digit_of-digit.ensures.0 c.if-base-digit.true

pub loop-byte-preserved : goal.loop-byte-preserved
loop-byte-preserved c = read-turn _ _ c.loop-byte.byte-index _ _ _ c.requires.0 (omega arith) c.loop-byte.invariant c.digit_of-digit.ensures.0 c.if-base-digit.false c.with_digit-value.ensures

pub returns : goal.returns
returns c = read_all _ _ c.loop-byte.byte-index _ (grind (arith, nat_tests)) (omega arith) c.loop-byte.invariant
