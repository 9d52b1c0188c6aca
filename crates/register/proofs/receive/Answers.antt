-- `receive` meets its contract: each way out is the definition's.
use borrow.Author.Tests.{eq-eqb, ne_eqb, le-leb, lt-leb}
use Rattle.register.specs.Receiving.{receive_of}
use Rattle.register.proofs.receive.Goals as goal

pub returns-then-opens_frame : goal.returns-then-opens_frame
unfolding receive_of
returns-then-opens_frame c = rw (← c.push-newest.ensures, ← c.opens_frame.ensures, c.if-opens_frame.true, ← c.row_before.ensures) c.begun.ensures

pub returns-then-register-eq0 : goal.returns-then-register-eq0
unfolding receive_of
returns-then-register-eq0 c = rw (← c.push-newest.ensures, ← c.opens_frame.ensures, c.if-opens_frame.false, eq-eqb _ _ c.if-register-eq0.true) c.continued.ensures

pub returns-then-n-register : goal.returns-then-n-register
unfolding receive_of
returns-then-n-register c = rw (← c.push-newest.ensures, ← c.opens_frame.ensures, c.if-opens_frame.false, ne_eqb _ _ c.if-register-eq0.false, le-leb _ _ c.if-n-register.true) c.begun-then-n-register.ensures

pub returns-then-count-eq0 : goal.returns-then-count-eq0
unfolding receive_of
returns-then-count-eq0 c = rw (← c.push-newest.ensures, ← c.opens_frame.ensures, c.if-opens_frame.false, ne_eqb _ _ c.if-register-eq0.false, lt-leb _ _ c.if-n-register.false, eq-eqb _ _ c.if-count-eq0.true) c.with_word.ensures

pub returns : goal.returns
unfolding receive_of
returns c = rw (← c.push-newest.ensures, ← c.opens_frame.ensures, c.if-opens_frame.false, ne_eqb _ _ c.if-register-eq0.false, lt-leb _ _ c.if-n-register.false, ne_eqb _ _ c.if-count-eq0.false) c.continued-2.ensures
