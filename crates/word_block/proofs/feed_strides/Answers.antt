-- `feed_strides` meets its contract: i symbols are fed to the words.
use borrow.Author.Tests.{lt-ltb, le-ltb}
use native.Mathlib.Omega.{arith}
use Prim.Native.Nat.{◌-◌}
use mathlib.Core.Path.{refl, sym, ◌∙◌}
use lib.ListN.{length}
use Rattle.word_block.specs.Standing.{standing-long}
use Rattle.word_block.specs.WordBlocks.{in_start, in-inside, in-before-run, in-run, in-outside, in-still, in_frame, in-quiet, in-report, in_kept, in-fits, in_end, in-unknown, in-full}
use Rattle.word_block.proofs.feed_strides.Goals as goal

both : {A B C : Type 0} → A × (B × C) → record { value : A; reader_after : B; controls_after : C }
both p = record { value = p.0; reader_after = p.1.0; controls_after = p.1.1 }

pub loop-i-init : goal.loop-i-init
loop-i-init c = in_start c.requires.0 c.requires.1

pub feed_run-i-requires : goal.feed_run-i-requires
feed_run-i-requires c =
    let inside = sym c.feed_inside.ensures.value ∙ c.if-feed_inside.true in
    let g = in-inside c.loop-i.invariant c.loop-i-test.true inside c.feed_inside.ensures.reader_after in
    let before = in-before-run c.loop-i.invariant c.loop-i-test.true inside c.feed_inside.ensures.reader_after in
    (g.ready, g.long, before.0, omega arith, g.accepted, before.1, c.known_in-known.ensures)

pub loop-i-preserved-then-feed_inside : goal.loop-i-preserved-then-feed_inside
loop-i-preserved-then-feed_inside c = in-run (in-inside c.loop-i.invariant c.loop-i-test.true (sym c.feed_inside.ensures.value ∙ c.if-feed_inside.true) c.feed_inside.ensures.reader_after) c.feed_run-i.ensures

pub feed_end-answer-requires : goal.feed_end-answer-requires
feed_end-answer-requires c = ((in-outside c.loop-i.invariant (sym c.feed_inside.ensures.value ∙ c.if-feed_inside.false) c.feed_inside.ensures.reader_after).ready, (in-outside c.loop-i.invariant (sym c.feed_inside.ensures.value ∙ c.if-feed_inside.false) c.feed_inside.ensures.reader_after).long, c.loop-i-test.true, (in-still c.loop-i.invariant (sym c.feed_inside.ensures.value ∙ c.if-feed_inside.false) c.feed_inside.ensures.reader_after), in_frame (in-outside c.loop-i.invariant (sym c.feed_inside.ensures.value ∙ c.if-feed_inside.false) c.feed_inside.ensures.reader_after) c.loop-i-test.true (in-still c.loop-i.invariant (sym c.feed_inside.ensures.value ∙ c.if-feed_inside.false) c.feed_inside.ensures.reader_after) c.requires.0)

pub loop-i-preserved-in-Quiet : goal.loop-i-preserved-in-Quiet
loop-i-preserved-in-Quiet c = (in-quiet (in-outside c.loop-i.invariant (sym c.feed_inside.ensures.value ∙ c.if-feed_inside.false) c.feed_inside.ensures.reader_after) c.loop-i-test.true (in-still c.loop-i.invariant (sym c.feed_inside.ensures.value ∙ c.if-feed_inside.false) c.feed_inside.ensures.reader_after) _ c.feed_end-answer.ensures.value c.feed_end-answer.ensures.reader_after c.in-Quiet.is)

pub returns-then-reports-indexes : goal.returns-then-reports-indexes
returns-then-reports-indexes c = both (rw (in_kept (in-outside c.loop-i.invariant (sym c.feed_inside.ensures.value ∙ c.if-feed_inside.false) c.feed_inside.ensures.reader_after) c.loop-i-test.true (in-still c.loop-i.invariant (sym c.feed_inside.ensures.value ∙ c.if-feed_inside.false) c.feed_inside.ensures.reader_after) _ c.feed_end-answer.ensures.value c.feed_end-answer.ensures.reader_after c.in-Report.is (le-ltb c.loop-i.reports (length c.loop-i.indexes) (omega (arith, c.if-reports-indexes.true)))) (in-full (in-outside c.loop-i.invariant (sym c.feed_inside.ensures.value ∙ c.if-feed_inside.false) c.feed_inside.ensures.reader_after) c.requires.0 c.requires.1 c.requires.2 c.loop-i-test.true c.feed_end-answer.ensures.value c.in-Report.is c.if-reports-indexes.true c.taken_at.ensures))

pub put_report-requires : goal.put_report-requires
put_report-requires c = in-fits c.loop-i.invariant c.requires.2 c.if-reports-indexes.false

pub overflow_add-reports : goal.overflow_add-reports
overflow_add-reports c = omega (arith, (standing-long c.loop-i.invariant.fed.standing).0, (in-fits c.loop-i.invariant c.requires.2 c.if-reports-indexes.false).0, c.well_formed)

pub loop-i-preserved : goal.loop-i-preserved
loop-i-preserved c = (in-report (in-outside c.loop-i.invariant (sym c.feed_inside.ensures.value ∙ c.if-feed_inside.false) c.feed_inside.ensures.reader_after) c.loop-i-test.true (in-still c.loop-i.invariant (sym c.feed_inside.ensures.value ∙ c.if-feed_inside.false) c.feed_inside.ensures.reader_after) _ c.feed_end-answer.ensures.value c.feed_end-answer.ensures.reader_after c.in-Report.is (lt-ltb _ _ (in-fits c.loop-i.invariant c.requires.2 c.if-reports-indexes.false).0) (in-fits c.loop-i.invariant c.requires.2 c.if-reports-indexes.false).0 c.put_report.ensures)

pub returns-in-Refused : goal.returns-in-Refused
returns-in-Refused c = both (rw (in_kept (in-outside c.loop-i.invariant (sym c.feed_inside.ensures.value ∙ c.if-feed_inside.false) c.feed_inside.ensures.reader_after) c.loop-i-test.true (in-still c.loop-i.invariant (sym c.feed_inside.ensures.value ∙ c.if-feed_inside.false) c.feed_inside.ensures.reader_after) _ c.feed_end-answer.ensures.value c.feed_end-answer.ensures.reader_after c.in-Refused.is refl) (in-unknown (in-outside c.loop-i.invariant (sym c.feed_inside.ensures.value ∙ c.if-feed_inside.false) c.feed_inside.ensures.reader_after) c.requires.0 c.requires.1 c.requires.2 c.loop-i-test.true c.feed_end-answer.ensures.value c.in-Refused.is c.taken_at-in-Refused.ensures))

pub returns : goal.returns
returns c = both (in_end c.loop-i.invariant c.requires.0 c.requires.1 c.requires.2 c.loop-i-test.false c.taken_at-2.ensures)
