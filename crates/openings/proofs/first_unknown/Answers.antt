-- The first i symbols are accepted.
use Rattle.std.proofs.Common.{◌≡◌, ◌∙◌, length, arith}
use Rattle.openings.specs.Accepted.{accepted-turn, accepted-here, accepted-end}
use Rattle.openings.proofs.first_unknown.Goals as goal

pub returns-then-symbol-gt-SPOILED : goal.returns-then-symbol-gt-SPOILED
returns-then-symbol-gt-SPOILED c = accepted-here _ _ (omega arith) c.if-symbol-gt-SPOILED.true c.loop-i.invariant

pub loop-i-preserved : goal.loop-i-preserved
loop-i-preserved c = accepted-turn c.args.symbols.now c.loop-i.i (omega arith) (omega arith) c.loop-i.invariant

pub returns : goal.returns
returns c =
    let all : length c.args.symbols.now ≡ c.loop-i.i = omega arith in
    all ∙ accepted-end c.args.symbols.now c.loop-i.i (omega arith) c.loop-i.invariant
