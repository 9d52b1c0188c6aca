-- What the program's reader is, and what a Feed makes of it, for every reader and symbol.
use Rattle.timecode.specs.declared.Refusal.{Refusal}
use Rattle.timecode.specs.declared.Reading.{Reading}
use Rattle.std.specs.Prelude.{Bool, cond, ◌&&◌, [], ◌∷◌, ℕ, ◌+◌, ◌%◌, leb, eqb, ltb, Result, Ok, Err}
use Rattle.timecode.specs.Answers.{Outcome, success, refusal_result, checks}
use Rattle.timecode.specs.Formats.{is_symbol, known, size}
use Rattle.timecode.specs.Frames.{no_time, read_of}
use Rattle.timecode.specs.Stream.{is_setting}
use Rattle.timecode.specs.declared.Answer.{Answer}
use Rattle.timecode.specs.declared.Answer.TheVariants.{Quiet, Report}
use Rattle.timecode.specs.declared.Format.{Format}
use Rattle.timecode.specs.declared.Time.{Time}
use Rattle.timecode.specs.declared.Refusal.TheVariants.{UnknownFormat, UnknownSymbol, InvalidReader, InvalidSetting}
use Rattle.following.specs.Following.{row_after}
use Rattle.register.specs.Receiving.{receive_of, frame_of}
use Rattle.register.specs.declared.Register.{Register}
use Rattle.stream.specs.declared.Fed.{Fed}
use Rattle.stream.specs.declared.Reader.{Reader}
use Rattle.stream.specs.declared.FrameRow.{FrameRow}

-- no frame under way and no row, and the last symbols spoiled
abbrev pub fresh_register : Register
fresh_register = record { count = 0; newest = 18446744073709551615; word0 = 0; word1 = 0; word2 = 0; row = 0 }

abbrev pub fresh_reader : Format → ℕ → Reader
fresh_reader f k = record { format = f; setting = k; place = 0; received = fresh_register; time = no_time; control = 0 }

-- Making a fresh reader checks 1, 26.
unfoldable pub made_of : Format → ℕ → Result Reader Refusal
made_of f k =
    checks Err
    ((UnknownFormat, known f)  -- 1
    ∷ (InvalidSetting, is_setting k)  -- 26
    ∷ [])
    (Ok (fresh_reader f k))

-- the result of making a reader: document 01 gives no value with it
abbrev pub made_result : Result Reader Refusal → Outcome
made_result (Ok r) = success []
made_result (Err x) = refusal_result x

-- number 13: letter and expression are known, the place is below n
unfoldable pub is_valid : Reader → Bool
is_valid r = known r.format && ltb r.place (size r.format)

abbrev pub with_row : Register → ℕ → Register
with_row h c = record { count = h.count; newest = h.newest; word0 = h.word0; word1 = h.word1; word2 = h.word2; row = c }

abbrev pub with_register : Reader → ℕ → Register → Reader
with_register r place h = record { format = r.format; setting = r.setting; place = place; received = h; time = r.time; control = r.control }

-- the row that ends with the last whole frame, and with a whole frame's reading: accepted, it joins the row; refused, it ends it
abbrev pub frame_row_of : ℕ → Time → ℕ → FrameRow
frame_row_of count time control = record { count = count; time = time; control = control }

abbrev pub row_in : Reader → FrameRow
row_in r = frame_row_of r.received.row r.time r.control

unfoldable pub row_with : Format → FrameRow → Result Reading Refusal → FrameRow
row_with f q (Ok read) = frame_row_of (row_after f q.count q.time read.time) read.time read.control
row_with f q (Err x) = frame_row_of 0 q.time q.control

abbrev pub reader_with_row : Reader → FrameRow → Reader
reader_with_row r q = record { format = r.format; setting = r.setting; place = r.place; received = with_row r.received q.count; time = q.time; control = q.control }

-- the frame is whole
unfoldable pub reader_with_reading : Reader → Result Reading Refusal → Reader
reader_with_reading r (Ok read) = record { format = r.format; setting = r.setting; place = r.place; received = with_row r.received (row_after r.format r.received.row r.time read.time); time = read.time; control = read.control }
reader_with_reading r (Err x) = record { format = r.format; setting = r.setting; place = r.place; received = with_row r.received 0; time = r.time; control = r.control }

unfoldable pub when_whole : Reader → Reader
when_whole r = cond (eqb r.received.count (size r.format)) (reader_with_reading r (read_of r.format (frame_of r.received (size r.format)))) r

-- one symbol more
unfoldable pub with_symbol_of : Reader → ℕ → Reader
with_symbol_of r s = when_whole (with_register r ((r.place + 1) % size r.format) (receive_of r.format (size r.format) r.received s))

-- a symbol of 0 to 3 is accepted; a refused Feed hands back the same reader
unfoldable pub next_of : Reader → ℕ → Reader
next_of r s = cond (is_valid r && (is_setting r.setting && is_symbol s)) (with_symbol_of r s) r

-- the answer to an accepted symbol, from the reader after it alone
unfoldable pub answer_after : Reader → Answer
answer_after r = cond (eqb r.received.count (size r.format) && leb r.setting r.received.row) (Report r.time r.control) Quiet

-- Feed checks 13, 26, 4.
unfoldable pub answer_of : Reader → ℕ → Answer
answer_of r s =
    checks Answer.Refused
    ((InvalidReader, is_valid r)  -- 13
    ∷ (InvalidSetting, is_setting r.setting)  -- 26
    ∷ (UnknownSymbol, is_symbol s)  -- 4
    ∷ [])
    (answer_after (next_of r s))

unfoldable pub feed_of : Reader → ℕ → Fed
feed_of r s = record { reader = next_of r s; answer = answer_of r s }
