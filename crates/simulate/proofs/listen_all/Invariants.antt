use Rattle.simulate.specs.Hearing.{HearsAll}
use Rattle.simulate.proofs.listen_all.Given as goal

abbrev pub invariant-loop-j : goal.invariant-loop-j
invariant-loop-j l = HearsAll l.initial.all l.frame l.n l.past l.sent l.ends l.numbers l.symbols l.j l.all
