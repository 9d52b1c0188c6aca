-- Document 01's example of number 13, that of 1 for a fresh reader and that of 4 for Feed, document 02's 26, and the order of the checks.
use Rattle.std.specs.Prelude.{List, [], ◌∷◌, ℕ}
use Rattle.timecode.specs.Answers.{Outcome, success, refusal_result, answer_result}
use Rattle.timecode.specs.Formats.{D, H}
use Rattle.timecode.specs.Frames.{no_time}
use Rattle.timecode.specs.declared.Format.{Format}
use Rattle.timecode.specs.declared.Refusal.TheVariants.{UnknownFormat, UnknownSymbol, InvalidReader, InvalidSetting}
use Rattle.stream.specs.Feeding.{fresh_register, fresh_reader, made_of, made_result, answer_of}
use Rattle.stream.specs.declared.Reader.{Reader}

abbrev format : ℕ → ℕ → Format
format letter expression = record { letter = letter; expression = expression }

-- a reader with that setting, at that place
abbrev at : Format → ℕ → ℕ → Reader
at f k place = record { format = f; setting = k; place = place; received = fresh_register; time = no_time; control = 0 }

abbrev pub results : List Outcome
results =
    made_result (made_of (format D 0) 2)
    ∷ made_result (made_of (format D 0) 1)
    ∷ made_result (made_of (format H 1) 1)
    ∷ made_result (made_of (format H 1) 2)
    ∷ made_result (made_of (format H 1) 5)
    ∷ made_result (made_of (format H 1) 6)
    ∷ answer_result (answer_of (at (format H 1) 2 60) 0)
    ∷ answer_result (answer_of (at (format D 0) 2 0) 0)
    ∷ answer_result (answer_of (fresh_reader (format H 1) 2) 7)
    ∷ answer_result (answer_of (at (format H 1) 6 60) 7)
    ∷ answer_result (answer_of (at (format H 1) 6 0) 7)
    ∷ answer_result (answer_of (at (format H 1) 1 0) 0)
    ∷ []

abbrev pub expected : List Outcome
expected =
    refusal_result UnknownFormat
    ∷ refusal_result UnknownFormat
    ∷ refusal_result InvalidSetting
    ∷ success []
    ∷ success []
    ∷ refusal_result InvalidSetting
    ∷ refusal_result InvalidReader
    ∷ refusal_result InvalidReader
    ∷ refusal_result UnknownSymbol
    ∷ refusal_result InvalidReader
    ∷ refusal_result InvalidSetting
    ∷ refusal_result InvalidSetting
    ∷ []
