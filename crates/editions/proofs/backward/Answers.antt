-- `backward` meets its contract: as read and checked, or refused with the lent frame as it was.
use Rattle.std.proofs.lemmas.Result.{err_from_is_err_and}
use mathlib.Core.Path.{refl, sym, ◌∙◌}
use borrow.Author.Tests.{eqb-true}
use lib.Dec.{eqb}
use lib.ListN.{length}
use Rattle.timecode.specs.Formats.{size}
use Rattle.timecode.proofs.Laws.Reading.{accepted-was-written}
use Rattle.timecode.proofs.Laws.Tests.{and_right}
use Rattle.timecode.specs.Editions.{backward_of, backward_leaves}
use Rattle.editions.proofs.backward.Goals as goal

pub returns-then-not-carries_year : goal.returns-then-not-carries_year
unfolding backward_of backward_leaves
returns-then-not-carries_year c = rw (sym c.carries_year.ensures ∙ c.if-not-carries_year.true) (refl, refl)

pub returns-then-not-both_fit : goal.returns-then-not-both_fit
unfolding backward_of backward_leaves
returns-then-not-both_fit c = rw (sym c.carries_year.ensures ∙ c.if-not-carries_year.false, sym c.both_fit.ensures ∙ c.if-not-both_fit.true) (refl, refl)

pub put_backward-requires : goal.put_backward-requires
put_backward-requires c =
    let start = c in
    let f = start.args.format in
    let frame = start.args.frame.now in
    let fit = sym c.both_fit.ensures ∙ c.if-not-both_fit.false in
    let reads = sym c.read.ensures ∙ c.in_ok-reading.was in
    (sym c.carries_year.ensures ∙ c.if-not-carries_year.false, (accepted-was-written f frame _ _ reads).0, eqb-true _ _ (and_right (eqb (length frame) (size f)) _ fit))

pub returns : goal.returns
unfolding backward_of backward_leaves
returns c = rw (sym c.carries_year.ensures ∙ c.if-not-carries_year.false, sym c.both_fit.ensures ∙ c.if-not-both_fit.false, sym c.read.ensures ∙ c.in_ok-reading.was) c.put_backward.ensures

pub returns-in_err-reading : goal.returns-in_err-reading
unfolding backward_of backward_leaves
returns-in_err-reading c =
    let p = err_from_is_err_and c.from_residual.result c.from_residual.ensures.1 in
    rw (p.1, p.2) (rw (sym c.carries_year.ensures ∙ c.if-not-carries_year.false, sym c.both_fit.ensures ∙ c.if-not-both_fit.false, sym c.read.ensures ∙ c.in_err-reading.was) (refl, refl))
