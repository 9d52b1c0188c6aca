-- What the calls leave: the reader that the first line asks for, the lines of the bytes taken, the last line.
use Rattle.stream.specs.declared.Reader.{Reader}
use Rattle.timecode.specs.declared.Refusal.{Refusal}
use Rattle.std.specs.Prelude.{◌≡◌, cond, List, [], ℕ, ◌≤◌, length, take, Result, Ok, Err}
use Rattle.timecode.specs.Answers.{check}
use Rattle.timecode.specs.Stream.{two_frames}
use Rattle.timecode.specs.declared.Refusal.TheVariants.{UnknownFormat}
use Rattle.lines.specs.Text.{counts_line}
use Rattle.stream.specs.Feeding.{fresh_reader}
use Rattle.hearing.specs.Bytes.{after_of, text_of}
use Rattle.listing.specs.Printed.{format_in, is_first_line}
use Rattle.progress.specs.declared.Progress.{Progress}
use Rattle.listing.specs.declared.Listed.{Listed}

-- the reader that the first line asks for, or number 1
unfoldable pub made_from_head : List ℕ → Result Reader Refusal
made_from_head bytes = check Err UnknownFormat (is_first_line bytes) (Ok (fresh_reader (format_in bytes) two_frames))

-- the last line, unless a refusal was it
unfoldable pub ending_of : Progress → List ℕ
ending_of p = cond p.ended [] (counts_line p.elements p.reports)

-- What a call that lists some bytes leaves: the lines of the bytes taken at the start of 65,536 bytes, and the progress after them.
-- It takes all, unless about half of the memory is filled, and at least one. What stands behind the lines is free.
abbrev pub ListsBytes : Progress → List ℕ → Listed → List ℕ → Type 0
ListsBytes p bytes r out =
    (length out ≡ 65536)
    × (r.progress ≡ after_of p (take r.taken bytes))
    × (take r.filled out ≡ text_of p (take r.taken bytes))
    × (r.taken ≤ length bytes)
    × (r.filled ≤ 65536)
    × (r.filled ≤ 32704 → r.taken ≡ length bytes)
    × (1 ≤ length bytes → 1 ≤ r.taken)

-- and one that puts the last line
abbrev pub PutsLastLine : Progress → ℕ → List ℕ → Type 0
PutsLastLine p filled out = (length out ≡ 65536) × (filled ≤ 65536) × (take filled out ≡ ending_of p)
