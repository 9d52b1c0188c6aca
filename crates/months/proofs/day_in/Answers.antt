-- `day_in` meets its contract: the days of the first i months.
use native.Mathlib.Omega.{arith}
use Rattle.months.specs.Counting.{taken-long, short-of, summed-on, summed-end}
use Rattle.months.proofs.day_in.Goals as goal

pub overflow_add-total : goal.overflow_add-total
overflow_add-total c = omega (arith, c.loop-length.invariant.small, short-of _ _ c.month_lengths-lengths.ensures c.args.months c.loop-length.length-index (omega (arith, taken-long _ _ c.month_lengths-lengths.ensures _ c.requires.0, c.loop-length-test.true)))

pub loop-length-preserved : goal.loop-length-preserved
loop-length-preserved c = summed-on _ _ c.month_lengths-lengths.ensures _ _ _ _ (omega (arith, taken-long _ _ c.month_lengths-lengths.ensures _ c.requires.0, c.loop-length-test.true)) c.requires.0 c.loop-length.invariant

pub returns : goal.returns
returns c = summed-end _ _ _ _ _ (omega (arith, taken-long _ _ c.month_lengths-lengths.ensures _ c.requires.0, c.loop-length-test.false)) c.loop-length.invariant
