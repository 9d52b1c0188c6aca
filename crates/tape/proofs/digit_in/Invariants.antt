use mathlib.Core.Path.{◌≡◌}
use Prim.Native.Nat.{◌+◌, ◌*◌, ◌^◌, ◌≤◌}
use Rattle.tape.specs.Readings.{digit_of}
use Rattle.tape.specs.InWord.{elements_in}
use Rattle.tape.proofs.digit_in.Given as goal

abbrev pub invariant-loop-j : goal.invariant-loop-j
invariant-loop-j l = (l.digit ≡ digit_of (elements_in l.word) l.start l.j) × (l.digit + 255 ≤ 255 * 2 ^ l.j)
