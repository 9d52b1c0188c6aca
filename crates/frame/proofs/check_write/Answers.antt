-- `check_write` meets its contract: each way out is the definition's, by what the row gives.
use mathlib.Core.Bool.{cond}
use mathlib.Core.Path.{sym, ap, ◌∙◌}
use borrow.Author.Tests.{eq-eqb, ne_eqb}
use lib.ListN.{length}
use Rattle.timecode.specs.Formats.{size}
use Rattle.timecode.specs.Frames.{write_of}
use Rattle.frame.specs.Exits.{row-widths, row-interval, row-known, row_on, row_carries}
use Rattle.frame.proofs.check_write.Goals as goal

pub returns-then-not-takes : goal.returns-then-not-takes
unfolding write_of
returns-then-not-takes c =
    λ f lent o x e b.
    rw (row-known f c.args.row o c.args.expression c.takes.result e c.takes.ensures ∙ c.if-not-takes.true)

pub returns-then-not-year_carried : goal.returns-then-not-year_carried
unfolding write_of
returns-then-not-year_carried c =
    λ f lent o x e b.
    rw (row-known f c.args.row o c.args.expression c.takes.result e c.takes.ensures ∙ c.if-not-takes.false, sym (c.year_carried.ensures f o.year_is) ∙ c.if-not-year_carried.true)

pub lies_on-requires : goal.lies_on-requires
lies_on-requires c = row-interval c.args.row c.requires

pub returns-then-not-lies_on : goal.returns-then-not-lies_on
unfolding write_of
returns-then-not-lies_on c =
    λ f lent o x e b.
    rw (row-known f c.args.row o c.args.expression c.takes.result e c.takes.ensures ∙ c.if-not-takes.false, sym (c.year_carried.ensures f o.year_is) ∙ c.if-not-year_carried.false, row_on f c.args.row o c.args.time c.args.x c.turn_day-last.result c.lies_on.result x (c.turn_day-last.ensures ∙ ap (cond c.args.x 1) c.last_day_in.ensures) c.lies_on.ensures ∙ c.if-not-lies_on.true)

pub returns-then-not-second_allowed : goal.returns-then-not-second_allowed
unfolding write_of
returns-then-not-second_allowed c =
    λ f lent o x e b.
    rw (row-known f c.args.row o c.args.expression c.takes.result e c.takes.ensures ∙ c.if-not-takes.false, sym (c.year_carried.ensures f o.year_is) ∙ c.if-not-year_carried.false, row_on f c.args.row o c.args.time c.args.x c.turn_day-last.result c.lies_on.result x (c.turn_day-last.ensures ∙ ap (cond c.args.x 1) c.last_day_in.ensures) c.lies_on.ensures ∙ c.if-not-lies_on.false, row_carries f c.args.row o c.args.time c.second_allowed.result c.second_allowed.ensures ∙ c.if-not-second_allowed.true)

pub control_fits-requires : goal.control_fits-requires
control_fits-requires c = rw c.widths_of-widths.ensures (row-widths c.args.row.runs)

pub returns-then-not-control_fits : goal.returns-then-not-control_fits
unfolding write_of
returns-then-not-control_fits c =
    λ f lent o x e b.
    rw (row-known f c.args.row o c.args.expression c.takes.result e c.takes.ensures ∙ c.if-not-takes.false, sym (c.year_carried.ensures f o.year_is) ∙ c.if-not-year_carried.false, row_on f c.args.row o c.args.time c.args.x c.turn_day-last.result c.lies_on.result x (c.turn_day-last.ensures ∙ ap (cond c.args.x 1) c.last_day_in.ensures) c.lies_on.ensures ∙ c.if-not-lies_on.false, row_carries f c.args.row o c.args.time c.second_allowed.result c.second_allowed.ensures ∙ c.if-not-second_allowed.false, sym (c.control_fits.ensures f (c.widths_of-widths.ensures ∙ o.widths_are)) ∙ c.if-not-control_fits.true)

pub returns-then-bytes-row : goal.returns-then-bytes-row
unfolding write_of
returns-then-bytes-row c =
    λ f lent o x e b.
    rw (row-known f c.args.row o c.args.expression c.takes.result e c.takes.ensures ∙ c.if-not-takes.false, sym (c.year_carried.ensures f o.year_is) ∙ c.if-not-year_carried.false, row_on f c.args.row o c.args.time c.args.x c.turn_day-last.result c.lies_on.result x (c.turn_day-last.ensures ∙ ap (cond c.args.x 1) c.last_day_in.ensures) c.lies_on.ensures ∙ c.if-not-lies_on.false, row_carries f c.args.row o c.args.time c.second_allowed.result c.second_allowed.ensures ∙ c.if-not-second_allowed.false, sym (c.control_fits.ensures f (c.widths_of-widths.ensures ∙ o.widths_are)) ∙ c.if-not-control_fits.false, ne_eqb (length lent) (size f) (λ q. c.if-bytes-row.true (b ∙ q ∙ sym o.elements_are)))

pub returns : goal.returns
unfolding write_of
returns c =
    λ f lent o x e b.
    rw (row-known f c.args.row o c.args.expression c.takes.result e c.takes.ensures ∙ c.if-not-takes.false, sym (c.year_carried.ensures f o.year_is) ∙ c.if-not-year_carried.false, row_on f c.args.row o c.args.time c.args.x c.turn_day-last.result c.lies_on.result x (c.turn_day-last.ensures ∙ ap (cond c.args.x 1) c.last_day_in.ensures) c.lies_on.ensures ∙ c.if-not-lies_on.false, row_carries f c.args.row o c.args.time c.second_allowed.result c.second_allowed.ensures ∙ c.if-not-second_allowed.false, sym (c.control_fits.ensures f (c.widths_of-widths.ensures ∙ o.widths_are)) ∙ c.if-not-control_fits.false, eq-eqb (length lent) (size f) (sym b ∙ c.if-bytes-row.false ∙ o.elements_are))
