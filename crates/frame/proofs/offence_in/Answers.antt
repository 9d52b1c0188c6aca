-- `offence_in` meets its contract: agreed, or a symbol above 3, or the lowest index where they differ.
use mathlib.Core.Path.{sym, ◌∙◌}
use Rattle.frame.specs.Exits.{agree-nothing}
use Rattle.frame.specs.Offences.{offence_in}
use Rattle.frame.proofs.offence_in.Goals as goal

pub returns-then-agree : goal.returns-then-agree
returns-then-agree c = sym (agree-nothing c.args.again.now c.args.frame.now c.requires.0 c.requires.1 (c.agree.ensures c.if-agree.true))

pub returns-then-are_symbols : goal.returns-then-are_symbols
unfolding offence_in
returns-then-are_symbols c = c.lowest_offence.ensures ∙ sym (rw (← c.are_symbols.ensures, c.if-are_symbols.true))

pub returns : goal.returns
unfolding offence_in
returns c = rw (← c.are_symbols.ensures, c.if-are_symbols.false)
