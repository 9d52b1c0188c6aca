use Rattle.arguments.specs.DigitBytes.{Read}
use Rattle.arguments.proofs.number_in.Given as goal

abbrev pub invariant-loop-byte : goal.invariant-loop-byte
invariant-loop-byte l = Read l.base l.text l.byte-index l.value
