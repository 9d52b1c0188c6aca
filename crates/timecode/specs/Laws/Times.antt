-- A time that Write takes has digits that fit the format's runs, and the digits that stand in those runs say a time on the format's grid.
use Rattle.std.specs.Prelude.{◌≡◌, List, ℕ, ◌%◌}
use Rattle.timecode.specs.Formats.{interval, OnFormat}
use Rattle.timecode.specs.Frames.{time_in}
use Rattle.timecode.specs.Layout.{time_fields, flatten, time_numbers, all_digits, Small, decode}
use Rattle.timecode.specs.declared.Format.{Format}
use Rattle.timecode.specs.declared.Time.{Time}

-- ---- two times are one

abbrev pub at : ℕ → ℕ → Format
at l e = record { letter = l; expression = e }

abbrev pub FitsLetter : ℕ → Type 0
FitsLetter l = (e : ℕ) (t : Time) → OnFormat (at l e) t → Small (flatten (time_fields (at l e))) (all_digits (time_fields (at l e)) (time_numbers (at l e) t))

abbrev pub Grid : ℕ → Type 0
Grid l = (e : ℕ) (frame : List ℕ) → Small (flatten (time_fields (at l e))) (decode (flatten (time_fields (at l e))) frame) → (time_in (at l e) frame).hundredths % interval (at l e) ≡ 0
