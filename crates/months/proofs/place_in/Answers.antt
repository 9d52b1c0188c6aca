-- `place_in` meets its contract: the months that the day lies behind.
use native.Mathlib.Omega.{arith}
use mathlib.Core.Path.{◌≡◌}
use Rattle.months.specs.Counting.{passed-turn, twelve-of, found_in, found-not}
use Rattle.months.proofs.place_in.Goals as goal

pub returns-then-rest-length : goal.returns-then-rest-length
returns-then-rest-length c = found_in _ _ c.month_lengths.ensures _ _ _ (omega (arith, twelve-of _ _ c.month_lengths.ensures, c.loop-months-test.true)) c.if-rest-length.true c.loop-months.invariant

pub loop-months-preserved : goal.loop-months-preserved
loop-months-preserved c = passed-turn _ _ _ _ (omega (arith, twelve-of _ _ c.month_lengths.ensures, c.loop-months-test.true)) c.if-rest-length.false c.loop-months.invariant

pub returns : goal.returns
returns c =
    let all : c.loop-months.months ≡ 12 = omega arith in
    found-not _ _ c.month_lengths.ensures _ _ _ (omega (arith, twelve-of _ _ c.month_lengths.ensures)) (rw all at c.loop-months.invariant)
