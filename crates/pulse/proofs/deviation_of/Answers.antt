-- `deviation_of` meets its contract: from the centre of the symbol's class.
use borrow.Author.Tests.{le-ltb}
use Rattle.pulse.specs.Pulses.{class-centre, deviation-by, deviation_of}
use Rattle.pulse.proofs.deviation_of.Goals as goal

pub deviation_from-requires : goal.deviation_from-requires
deviation_from-requires c = (class-centre c.args.settings c.args.symbol _ c.if-symbol-lt-SPOILED.true c.class_of-class.ensures, c.requires.0, c.requires.1 c.if-symbol-lt-SPOILED.true)

pub returns-then-symbol-lt-SPOILED : goal.returns-then-symbol-lt-SPOILED
returns-then-symbol-lt-SPOILED c = deviation-by c.args.settings c.args.symbol c.args.interval c.args.width _ _ c.if-symbol-lt-SPOILED.true c.requires c.class_of-class.ensures c.deviation_from.ensures

pub returns : goal.returns
unfolding deviation_of
returns c = rw (le-ltb _ _ c.if-symbol-lt-SPOILED.false)
