-- `put_lines` meets its contract: the lines of the first k records stand behind those that were there.
use native.Mathlib.Omega.{arith}
use mathlib.Core.Path.{◌∙◌}
use lib.ListN.{take}
use Rattle.block.specs.Blocks.{lists}
use Rattle.hearing.specs.Hearing.{lines_start, lines_more}
use Rattle.hearing.proofs.put_lines.Goals as goal

pub loop-k-init : goal.loop-k-init
loop-k-init c = (lines_start _ _ _, omega arith, c.requires.6)

pub loop-k-preserved : goal.loop-k-preserved
loop-k-preserved c =
    let a = c.args in
    let loop = c.loop-k in
    let records = lists a.indexes.now a.years.now a.days.now a.hundredths.now a.controls.now in
    let put = c.put_report-filled.ensures in
    (put.2 ∙ lines_more _ records loop.k _ _ (take a.start a.out.now) _ loop.invariant.0 c.one_more-first.ensures c.more_by-element.ensures, omega (arith, put.0), put.1)
