use Rattle.simulate.specs.Results.{RunAt}
use Rattle.simulate.proofs.hear_run.Given as goal

abbrev pub invariant-loop-i : goal.invariant-loop-i
invariant-loop-i l = RunAt l.format l.given l.frames l.initial.time l.settings l.ends l.numbers l.symbols l._i l.time l.past l.all
