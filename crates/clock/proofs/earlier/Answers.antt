-- `earlier` meets its contract. A time on the format that is not midnight is at least one interval after it, and every day is longer than that.
use mathlib.Core.Path.{sym, subst}
use Prim.Native.Nat.{ℕ, ◌≤◌}
use native.Mathlib.Omega.{arith}
use borrow.Author.Tests.{eq-eqb, ne_eqb}
use Rattle.timecode.specs.Frames.{turn_day, preceding}
use Rattle.timecode.proofs.Laws.Stepping.{one-interval, day-end-range}
use Rattle.timecode.proofs.Laws.Times.{on-format}
use Rattle.clock.proofs.earlier.Goals as goal

pub overflow_sub-result : goal.overflow_sub-result
overflow_sub-result c = let o = on-format c.args.format c.args.time c.requires.2 c.requires.0 c.requires.1 in omega (arith, c.frame_interval-interval.ensures.0, one-interval _ _ o.grid (omega (arith, c.if-time-ne0.true)))

pub returns-then-time-ne0 : goal.returns-then-time-ne0
unfolding preceding
returns-then-time-ne0 c = rw (← c.frame_interval-interval.ensures.0, ne_eqb _ _ c.if-time-ne0.true)

pub day_before-requires : goal.day_before-requires
day_before-requires c = (on-format c.args.format c.args.time c.requires.2 c.requires.0 c.requires.1).first

pub overflow_sub-result-2 : goal.overflow_sub-result-2
overflow_sub-result-2 c = omega (arith, c.frame_interval-interval.ensures.2, subst (λ (x : ℕ). 8639900 ≤ x) (sym c.day_end.ensures) (day-end-range _ _).0)

pub returns : goal.returns
unfolding preceding turn_day
returns c = rw (← c.frame_interval-interval.ensures.0, eq-eqb _ _ c.if-time-ne0.false, ← c.year_of_time_before.ensures c.args.format c.carries_year.ensures, ← c.is_x.ensures, ← c.turn_day.ensures, ← c.day_before.ensures, ← c.day_end.ensures)
