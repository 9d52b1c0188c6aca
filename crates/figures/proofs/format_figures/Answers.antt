-- `format_figures` meets its contract: the figures of the format's row, or number 1.
use mathlib.Core.Path.{sym, ◌∙◌}
use Rattle.figures.specs.Figures.{format_figures_of}
use Rattle.figures.specs.Ranges.{control-total}
use Rattle.figures.proofs.format_figures.Goals as goal

pub returns-then-takes : goal.returns-then-takes
unfolding format_figures_of
returns-then-takes c =
    let f = c.args.format in
    let row = c.row_of-row.ensures in
    rw (
      sym row.known_is ∙ sym c.takes.ensures ∙ c.if-takes.true,
      c.control_bits.ensures ∙ control-total f c.row_of-row.result.runs row.widths_are,
      row.interval_is,
      row.elements_are,
    )

pub returns-else-takes : goal.returns-else-takes
unfolding format_figures_of
returns-else-takes c =
    let row = c.row_of-row.ensures in
    rw (sym row.known_is ∙ sym c.takes.ensures ∙ c.if-takes.false, c.number_of.ensures)
