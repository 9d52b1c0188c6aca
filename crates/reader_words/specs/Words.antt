-- The reader as fourteen words in the caller's memory, and what a call leaves there.
use Rattle.timecode.specs.declared.Refusal.{Refusal}
use Rattle.std.specs.Prelude.{cond, List, [], ◌∷◌, ℕ, ◌%◌, ltb, get_or, set, Result, Ok, Err}
use Rattle.timecode.specs.Answers.{refusal_number, answer_result}
use Rattle.timecode.specs.declared.Answer.{Answer}
use Rattle.timecode.specs.declared.Format.{Format}
use Rattle.register.specs.declared.Register.{Register}
use Rattle.stream.specs.Feeding.{fresh_reader, made_of, made_result, feed_of}
use Rattle.stream.specs.declared.Fed.{Fed}
use Rattle.stream.specs.declared.Reader.{Reader}
use Rattle.ffi.specs.Fields.{unless_refused}
use Rattle.ffi.specs.declared.WriteResult.{WriteResult}

-- the letter, the expression, the setting, the place; the register's six; the year, the day, the hundredths and the control word of the row's last frame
unfoldable pub words_for : Reader → List ℕ
words_for r =
    r.format.letter ∷ r.format.expression ∷ r.setting ∷ r.place
    ∷ r.received.count ∷ r.received.newest ∷ r.received.word0 ∷ r.received.word1 ∷ r.received.word2 ∷ r.received.row
    ∷ r.time.year ∷ r.time.day ∷ r.time.hundredths ∷ r.control
    ∷ []

-- A word that is no byte stands for 255, which is no letter, no expression and no setting, so that number 13 or 26 refuses it.
unfoldable pub byte_in : ℕ → ℕ
byte_in word = cond (ltb word 256) word 255

-- the reader in any words
unfoldable pub reader_in : List ℕ → Reader
reader_in words =
    record {
      format = record { letter = byte_in (get_or words 0 0); expression = byte_in (get_or words 1 0) };
      setting = byte_in (get_or words 2 0);
      place = get_or words 3 0;
      received = record {
        count = get_or words 4 0;
        newest = get_or words 5 0;
        word0 = get_or words 6 0;
        word1 = get_or words 7 0;
        word2 = get_or words 8 0;
        row = get_or words 9 0;
      };
      time = record { year = get_or words 10 0 % 256; day = get_or words 11 0 % 65536; hundredths = get_or words 12 0 % 4294967296 };
      control = get_or words 13 0;
    }

-- the caller's words with the reader's put into them: its place and its register, and before them the others
abbrev pub register_into : List ℕ → ℕ → Register → List ℕ
register_into words place h = set (set (set (set (set (set (set words 9 h.row) 8 h.word2) 7 h.word1) 6 h.word0) 5 h.newest) 4 h.count) 3 place

abbrev pub others_into : List ℕ → Reader → List ℕ
others_into words r = set (set (set (set (set (set (set words 0 r.format.letter) 1 r.format.expression) 2 r.setting) 10 r.time.year) 11 r.time.day) 12 r.time.hundredths) 13 r.control

unfoldable pub words_into : List ℕ → Reader → List ℕ
words_into words r = register_into (others_into words r) r.place r.received

-- the struct of making a fresh reader, and the words after it
abbrev pub fresh_result_of : Result Reader Refusal → WriteResult
fresh_result_of (Ok r) = record { number = 0 }
fresh_result_of (Err x) = record { number = refusal_number x }

unfoldable pub fresh_left : Format → ℕ → List ℕ → List ℕ
fresh_left f k words = unless_refused (made_result (made_of f k)) (words_for (fresh_reader f k)) words

-- a Feed's reader and its answer
abbrev pub fed_with : Reader → Answer → Fed
fed_with next answer = record { reader = next; answer = answer }

-- one Feed of the caller's words, and the words after a Feed: a refused one leaves them
abbrev pub feed_words : List ℕ → ℕ → Fed
feed_words words symbol = feed_of (reader_in words) symbol

abbrev pub words_left : Fed → List ℕ → List ℕ
words_left fed words = unless_refused (answer_result fed.answer) (words_into words fed.reader) words
