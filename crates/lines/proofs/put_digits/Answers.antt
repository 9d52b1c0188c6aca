-- `put_digits` meets its contract: the last i digits are put.
use native.Mathlib.Omega.{arith}
use mathlib.Core.Path.{refl}
use Rattle.lines.specs.Filling.{all-rests, filled-start, next-rests, digit-turn, digits-end}
use Rattle.lines.proofs.put_digits.Goals as goal

pub loop-i-init : goal.loop-i-init
loop-i-init c = record { left = all-rests c.args.number c.args.base; put = filled-start _ _ _ _ }

pub loop-i-preserved : goal.loop-i-preserved
loop-i-preserved c =
    record {
      left = next-rests c.args.number c.args.base c.loop-i.i c.loop-i.rest c.loop-i.invariant.left;
      put = digit-turn c.args.line.now c.loop-i.line c.args.at c.args.width c.loop-i.i c.args.number c.args.base c.loop-i.rest _ c.loop-i.invariant.left c.glyph_of.ensures (omega arith) (omega (arith, c.requires.0)) c.loop-i.invariant.put;
    }

pub returns : goal.returns
returns c = (refl, c.loop-i.invariant.put.long, digits-end c.args.line.now c.loop-i.line c.args.at c.args.width c.loop-i.i c.args.number c.args.base (omega arith) (omega (arith, c.requires.0)) c.loop-i.invariant.put)
