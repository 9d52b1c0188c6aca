-- `widths_of` meets its contract: the widths of the runs below one.
use native.Mathlib.Omega.{arith}
use mathlib.Core.Path.{◌≡◌}
use mathlib.Core.Bool.{cond}
use lib.ListN.{get_or}
use Rattle.timecode.proofs.Laws.Runs.{fill_end}
use Rattle.layout.specs.Tables.{full_widths, is_carried, run_widths}
use Rattle.layout.proofs.widths_of.Goals as goal

pub returns : goal.returns
unfolding run_widths
returns c =
    let runs = c.args.runs in
    let n : c.loop-run.run ≡ 20 = omega arith in
    fill_end c.loop-run.widths (λ j. cond (is_carried runs j) (get_or full_widths j 0) 0) 20 c.loop-run.invariant.0 (rw n at c.loop-run.invariant.1)
