-- `read_frame` meets its contract: what offends is refused, else the digits say it.
use mathlib.Core.Path.{sym, ap, subst, ◌∙◌}
use Rattle.timecode.specs.Formats.{carries_leap, carries_year}
use Rattle.timecode.specs.Layout.{decode}
use Rattle.layout.specs.Runs.{code_runs}
use Rattle.layout.specs.Tables.{widths_of}
use Rattle.elements.specs.RunBits.{put_in}
use Rattle.digits.specs.Meaning.{meaning_of}
use Rattle.digits.specs.Splitting.{Digits}
use Rattle.frame.specs.Offences.{offence_in, refused_or}
use Rattle.frame.specs.Exits.{row-widths, row_inside, row-digits, digits_long, is-frame, are-digits, read-refused-or, finds-nothing}
use Rattle.frame.proofs.read_frame.Goals as goal

pub digits_in-digits-requires : goal.digits_in-digits-requires
digits_in-digits-requires c = (c.places_of-places.ensures, row_inside c.args.row c.args.frame.now c.requires)

pub offence_beside-offence-requires : goal.offence_beside-offence-requires
offence_beside-offence-requires c =
    let start = c in
    (c.places_of-places.ensures, start.requires.row_of.marks_are, digits_long _ _ _ c.digits_in-digits.ensures, is-frame start.requires.format _ start.requires.not_x start.requires.long)

pub meaning-requires : goal.meaning-requires
meaning-requires c =
    let start = c in
    let f = start.requires.format in
    let frame = start.args.frame.now in
    let same = c.digits_in-digits.ensures ∙ row-digits f start.args.row frame start.requires.not_x start.requires.row_of in
    let clean = finds-nothing f frame start.requires.is_known start.requires.not_x start.requires.long (sym (λ i. offence_in (put_in (start.requires.long i) (same i)) frame) ∙ sym c.offence_beside-offence.ensures ∙ c.in-None.is) in
    (rw c.widths_of-widths.ensures (row-widths start.args.row.runs), subst Digits (sym same) (are-digits f frame start.requires.is_known start.requires.not_x start.requires.long clean))

pub returns-in-Some : goal.returns-in-Some
returns-in-Some c =
    let start = c in
    let frame = start.args.frame.now in
    λ f k x o n.
    let same = c.digits_in-digits.ensures ∙ row-digits f start.args.row frame x o in
    sym (read-refused-or f frame k x n
    ∙ ap (λ a. refused_or a (meaning_of (carries_leap f) (carries_year f) (widths_of f) (decode (code_runs f) frame))) (sym (λ i. offence_in (put_in (n i) (same i)) frame) ∙ sym c.offence_beside-offence.ensures ∙ c.in-Some.is))

pub returns-in-None : goal.returns-in-None
returns-in-None c =
    let start = c in
    let frame = start.args.frame.now in
    λ f k x o n.
    let same = c.digits_in-digits.ensures ∙ row-digits f start.args.row frame x o in
    let widths = c.widths_of-widths.ensures ∙ o.widths_are in
    c.meaning.ensures
    ∙ (λ i. meaning_of (o.leap_is i) (o.year_is i) (widths i) (same i))
    ∙ sym (read-refused-or f frame k x n
    ∙ ap (λ a. refused_or a (meaning_of (carries_leap f) (carries_year f) (widths_of f) (decode (code_runs f) frame))) (sym (λ i. offence_in (put_in (n i) (same i)) frame) ∙ sym c.offence_beside-offence.ensures ∙ c.in-None.is))
