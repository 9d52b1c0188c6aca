-- `forward` meets its contract: as read and checked, or refused with the lent frame as it was.
use Rattle.std.proofs.lemmas.Result.{err_from_is_err_and}
use mathlib.Core.Path.{refl, sym, ◌∙◌}
use borrow.Author.Tests.{eqb-true}
use lib.Dec.{eqb}
use lib.ListN.{length}
use Rattle.timecode.specs.Formats.{size}
use Rattle.timecode.proofs.Laws.Reading.{accepted-was-written}
use Rattle.timecode.proofs.Laws.Tests.{and_right}
use Rattle.timecode.specs.Editions.{check_forward, forward_of, forward_leaves}
use Rattle.editions.proofs.forward.Goals as goal

pub returns-then-not-is_earlier : goal.returns-then-not-is_earlier
unfolding check_forward forward_of forward_leaves
returns-then-not-is_earlier c = rw (sym c.is_earlier.ensures ∙ c.if-not-is_earlier.true) (refl, refl)

pub returns-then-not-both_fit : goal.returns-then-not-both_fit
unfolding check_forward forward_of forward_leaves
returns-then-not-both_fit c = rw (sym c.is_earlier.ensures ∙ c.if-not-is_earlier.false, sym c.both_fit.ensures ∙ c.if-not-both_fit.true) (refl, refl)

pub put_forward-requires : goal.put_forward-requires
put_forward-requires c =
    let start = c in
    let f = start.args.format in
    let frame = start.args.frame.now in
    let fit = sym c.both_fit.ensures ∙ c.if-not-both_fit.false in
    let reads = sym c.read.ensures ∙ c.in_ok-reading.was in
    (sym c.is_earlier.ensures ∙ c.if-not-is_earlier.false, (accepted-was-written f frame _ _ reads).0, eqb-true _ _ (and_right (eqb (length frame) (size f)) _ fit))

pub returns : goal.returns
unfolding check_forward forward_of forward_leaves
returns c = rw (sym c.is_earlier.ensures ∙ c.if-not-is_earlier.false, sym c.both_fit.ensures ∙ c.if-not-both_fit.false, sym c.read.ensures ∙ c.in_ok-reading.was) c.put_forward.ensures

pub returns-in_err-reading : goal.returns-in_err-reading
unfolding check_forward forward_of forward_leaves
returns-in_err-reading c =
    let p = err_from_is_err_and c.from_residual.result c.from_residual.ensures.1 in
    rw (p.1, p.2) (rw (sym c.is_earlier.ensures ∙ c.if-not-is_earlier.false, sym c.both_fit.ensures ∙ c.if-not-both_fit.false, sym c.read.ensures ∙ c.in_err-reading.was) (refl, refl))
