-- `push_four` meets its contract.
use Rattle.receive_many.specs.ManySymbols.{push-four}
use Rattle.receive_many.proofs.push_four.Goals as goal

pub returns : goal.returns
returns c =
    let a = c.args in
    push-four a.word a.first a.second a.third a.fourth _ c.requires.0 c.requires.1 c.requires.2 c.requires.3 c.four.ensures
