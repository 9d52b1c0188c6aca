use Rattle.tape.specs.Tape.{DigitPut}
use Rattle.tape.proofs.put_digit.Given as goal

abbrev pub invariant-loop-j : goal.invariant-loop-j
invariant-loop-j l = DigitPut l.start l.width l.digit l.initial.frame l.j l.frame
