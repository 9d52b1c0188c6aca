-- What the code's proofs need: the five ranges of control bits in the set of runs that a row carries have as many bits as the layout gives them, and a time in range has hundredths in range.
use Rattle.std.specs.Prelude.{◌≡◌, refl, true, cond, ◌&&◌, List, ℕ, ◌+◌, ◌≤◌, leb, get_or}
use Rattle.std.proofs.Common.{sym, ap, ◌∙◌, arith, leb-true}
use Rattle.timecode.specs.Formats.{last_day, last_hundredth, in_range}
use Rattle.timecode.specs.Frames.{total_width}
use Rattle.timecode.proofs.Laws.Tests.{and_right}
use Rattle.timecode.specs.Layout.{seconds, minutes, hours, days, tenths, hundredths_digit, straight_seconds, control, years, time_fields}
use Rattle.timecode.specs.declared.Format.{Format}
use Rattle.timecode.specs.declared.Time.{Time}
use Rattle.layout.specs.Runs.{code_control, code_fields, code_runs, code-width}
use Rattle.layout.specs.Tables.{is_carried, run_widths, widths_of}

-- nine for each range that is carried
unfoldable pub control_in : ℕ → ℕ
control_in runs = cond (is_carried runs 13) 9 0 + cond (is_carried runs 14) 9 0 + cond (is_carried runs 15) 9 0 + cond (is_carried runs 16) 9 0 + cond (is_carried runs 17) 9 0

-- the widths of the five ranges
abbrev five_of : List ℕ → ℕ
five_of ws = get_or ws 13 0 + get_or ws 14 0 + get_or ws 15 0 + get_or ws 16 0 + get_or ws 17 0

in-widths : (runs : ℕ) → control_in runs ≡ five_of (run_widths runs)
unfolding control_in run_widths
in-widths runs = refl

code-total : (f : Format) → total_width (code_control f) ≡ five_of (widths_of f)
unfolding widths_of code_runs code_fields time_fields seconds minutes hours days tenths hundredths_digit straight_seconds code_control years
code-total f = omega arith

pub control-total : (f : Format) (runs : ℕ) → run_widths runs ≡ widths_of f → control_in runs ≡ total_width (control f)
control-total f runs same = in-widths runs ∙ ap five_of same ∙ sym (code-total f) ∙ code-width f

pub range-hundredths : (t : Time) → in_range last_day t ≡ true → t.hundredths ≤ last_hundredth
unfolding in_range
range-hundredths t h =
    let days = leb t.day last_day in
    let c = leb t.hundredths last_hundredth in
    leb-true t.hundredths last_hundredth (and_right days c (and_right (leb 1 t.day) (days && c) h))
