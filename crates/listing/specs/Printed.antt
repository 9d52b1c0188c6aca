-- Document 01, timeread: what it prints for the bytes of standard input.
use Rattle.std.specs.Prelude.{Bool, cond, ◌&&◌, List, [], ◌∷◌, ◌++◌, ℕ, suc, ◌-◌, eqb, leb, get_or, length, drop}
use Rattle.timecode.specs.Answers.{refusal_number}
use Rattle.timecode.specs.Formats.{known}
use Rattle.timecode.specs.Stream.{two_frames, plain_answers}
use Rattle.timecode.specs.declared.Answer.{Answer}
use Rattle.timecode.specs.declared.Answer.TheVariants.{Quiet, Report}
use Rattle.timecode.specs.declared.Format.{Format}
use Rattle.lines.specs.Text.{report_line, counts_line, refused_line}
use Rattle.characters.specs.ByteSymbols.{feeds_of}

-- ---- the first line: letter, expression digit, newline

abbrev pub format_in : List ℕ → Format
format_in bytes = record { letter = get_or bytes 0 0; expression = get_or bytes 1 0 - 48 }

-- its third byte is the newline, its second a digit, and the format is known
unfoldable pub is_first_line : List ℕ → Bool
is_first_line bytes = leb 3 (length bytes) && (eqb (get_or bytes 2 0) 10 && (leb 48 (get_or bytes 1 0) && known (format_in bytes)))

-- ---- the lines: each report with its element's number, from 1; a refusal, and no other line; at the end the counts

unfoldable pub printed_for : ℕ → ℕ → List Answer → List ℕ
printed_for elements reports [] = counts_line elements reports
printed_for elements reports (Quiet ∷ as') = printed_for (suc elements) reports as'
printed_for elements reports (Report t w ∷ as') = report_line (suc elements) t w ++ printed_for (suc elements) (suc reports) as'
printed_for elements reports (Answer.Refused x ∷ as') = refused_line (refusal_number x)

unfoldable pub printed : List ℕ → List ℕ
printed bytes =
    cond (is_first_line bytes)
    (printed_for 0 0 (plain_answers (format_in bytes) two_frames [] (feeds_of (drop 3 bytes))))
    (refused_line 1)
