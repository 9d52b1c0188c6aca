-- `row_of` meets its contract: the edition's row, with what the expression carries.
use mathlib.Core.Path.{refl, sym, ap, ◌∙◌}
use lib.Bits.{bit_and}
use Rattle.timecode.specs.Formats.{carries_year}
use Rattle.layout.specs.Letters.{carried-widths}
use Rattle.layout.specs.Tables.{run_widths, runs_in, has_year}
use Rattle.layout.proofs.row_of.Goals as goal

pub returns : goal.returns
unfolding carries_year has_year
returns c =
    let f = c.args.format in
    let row = c.row_in-row.ensures f.expression (rw c.has_year.ensures refl) in
    let all = c.row_in-row.result.runs in
    record {
      elements_are = sym row.elements_are;
      interval_is = sym row.interval_is;
      known_is = sym row.expressions_are;
      leap_is = sym row.leap_is;
      year_is = sym row.year_is;
      digits_are = row.digits_are;
      controls_are = row.controls_are;
      years_are = row.years_are;
      marks_are = row.marks_are;
      widths_are = ap (λ n. run_widths (bit_and all n)) (c.runs_in.ensures ∙ ap runs_in c.without_year.ensures) ∙ row.widths_are _ ∙ carried-widths f.letter f.expression;
    }
