-- Document 02, "Whole blocks from the sampler": a block is the list of Feeds of its symbols, up to where it stops.
use Rattle.block.specs.declared.Taken.{Taken}
use Rattle.timecode.specs.declared.Refusal.{Refusal}
use Rattle.std.specs.Prelude.{Bool, cond, ◌&&◌, List, [], ◌∷◌, ◌++◌, map, ℕ, zero, suc, eqb, pos, get_or, length, take, drop, Result, Ok, Err}
use Rattle.timecode.specs.Answers.{Outcome, success, refusal_result, checks}
use Rattle.timecode.specs.Layout.{tabulate}
use Rattle.timecode.specs.Stream.{is_setting}
use Rattle.timecode.specs.declared.Answer.{Answer}
use Rattle.timecode.specs.declared.Answer.TheVariants.{Quiet, Report}
use Rattle.timecode.specs.declared.Refusal.TheVariants.{WrongLength, InvalidReader, InvalidSetting}
use Rattle.timecode.specs.declared.Time.{Time}
use Rattle.stream.specs.Feeding.{is_valid}
use Rattle.stream.specs.Refinement.{answers, reader_after}
use Rattle.stream.specs.declared.Reader.{Reader}
use Rattle.block.specs.declared.FedBlock.{FedBlock}
use Rattle.block.specs.declared.Stop.{Stop}
use Rattle.block.specs.declared.Stop.TheVariants.{AllTaken, UnknownSymbol, NoRoom}

-- a record of the lent list: the index of a symbol in the block, and what its Feed reported
pub record Reported : Type 0 where
  pub index : ℕ
  pub time : Time
  pub control : ℕ

-- how many symbols were taken, what they reported in their order, and why it stopped
pub record Block : Type 0 where
  pub taken : ℕ
  pub reports : List Reported
  pub stop : Stop

abbrev pub stopped : Stop → Block
stopped why = record { taken = 0; reports = []; stop = why }

-- one symbol more in front, with what it reported
abbrev pub with_first : List Reported → Block → Block
with_first rs b = record { taken = suc b.taken; reports = rs ++ b.reports; stop = b.stop }

abbrev pub report_at : ℕ → Time → ℕ → Reported
report_at i t w = record { index = i; time = t; control = w }

-- The Feeds with these answers, the first of them at index i, and room for so many reports: it stops only before the first that is refused or whose report would not fit.
unfoldable pub block_in : ℕ → ℕ → List Answer → Block
block_in i room [] = stopped AllTaken
block_in i room (Quiet ∷ as') = with_first [] (block_in (suc i) room as')
block_in i room (Answer.Refused x ∷ as') = stopped UnknownSymbol
block_in i zero (Report t w ∷ as') = stopped NoRoom
block_in i (suc room) (Report t w ∷ as') = with_first (report_at i t w ∷ []) (block_in (suc i) room as')

-- the block of a reader that passes 13 and 26
abbrev pub block_of : Reader → ℕ → List ℕ → Block
block_of r room ss = block_in 0 room (answers r ss)

-- ---- the lent list of records: a list for each field, all of one length

pub record Lists : Type 0 where
  pub indexes : List ℕ
  pub years : List ℕ
  pub days : List ℕ
  pub hundredths : List ℕ
  pub controls : List ℕ

abbrev pub lists : List ℕ → List ℕ → List ℕ → List ℕ → List ℕ → Lists
lists indexes years days hundredths controls = record { indexes = indexes; years = years; days = days; hundredths = hundredths; controls = controls }

-- room for so many reports
abbrev pub room_in : Lists → ℕ
room_in l = length l.indexes

abbrev pub are_records : Lists → Bool
are_records l = eqb (length l.years) (room_in l) && (eqb (length l.days) (room_in l) && (eqb (length l.hundredths) (room_in l) && eqb (length l.controls) (room_in l)))

-- a field's list afterwards: the reports from its start, and the entries past the last report as they were
unfoldable pub field_left : (Reported → ℕ) → Block → List ℕ → List ℕ
field_left field b entries = map field b.reports ++ drop (length b.reports) entries

abbrev pub index_of : Reported → ℕ
index_of r = r.index

abbrev pub year_of : Reported → ℕ
year_of r = r.time.year

abbrev pub day_of : Reported → ℕ
day_of r = r.time.day

abbrev pub hundredths_of : Reported → ℕ
hundredths_of r = r.time.hundredths

abbrev pub control_of : Reported → ℕ
control_of r = r.control

abbrev pub lists_left : Block → Lists → Lists
lists_left b l = lists (field_left index_of b l.indexes) (field_left year_of b l.years) (field_left day_of b l.days) (field_left hundredths_of b l.hundredths) (field_left control_of b l.controls)

-- ---- what a caller reads from the list afterwards

-- record number k of the lent list
unfoldable pub record_at : Lists → ℕ → Reported
record_at l k = report_at (get_or l.indexes k 0) (record { year = get_or l.years k 0; day = get_or l.days k 0; hundredths = get_or l.hundredths k 0 }) (get_or l.controls k 0)

-- its first n records
abbrev pub records_in : ℕ → Lists → List Reported
records_in n l = tabulate n 0 (record_at l)

-- the answers to n symbols, the first at index i: a report where a record has the index, else Quiet
abbrev pub answers_from : ℕ → ℕ → List Reported → List Answer
answers_from i zero rs = []
answers_from i (suc n) [] = Quiet ∷ answers_from (suc i) n []
answers_from i (suc n) (r ∷ rs) = cond (eqb r.index i) (Report r.time r.control ∷ answers_from (suc i) n rs) (Quiet ∷ answers_from (suc i) n (r ∷ rs))

-- ---- the call

-- The block checks 13, 26, 3; where it refuses, nothing is taken.
unfoldable pub block_for : Reader → List ℕ → Lists → Block
block_for r ss l = cond (is_valid r && (is_setting r.setting && are_records l)) (block_of r (room_in l) ss) (stopped AllTaken)

-- the answer to a block that is not refused
abbrev pub block_taken : ℕ → ℕ → Stop → Result Taken Refusal
block_taken taken reports why = Ok (record { symbols = taken; reports = reports; stop = why })

unfoldable pub block_answer : Reader → List ℕ → Lists → Result Taken Refusal
block_answer r ss l =
    checks Err
    ((InvalidReader, is_valid r)  -- 13
    ∷ (InvalidSetting, is_setting r.setting)  -- 26
    ∷ (WrongLength, are_records l)  -- 3
    ∷ [])
    (block_taken (block_of r (room_in l) ss).taken (length (block_of r (room_in l) ss).reports) (block_of r (room_in l) ss).stop)

-- what the answer says: the symbols taken, the reports put in, and why it stopped (0 all taken, 1 before a symbol above 3, 2 no room)
abbrev pub stop_number : Stop → ℕ
stop_number AllTaken = 0
stop_number UnknownSymbol = 1
stop_number NoRoom = 2

abbrev pub block_result : Result Taken Refusal → Outcome
block_result (Ok b) = success (pos b.symbols ∷ pos b.reports ∷ pos (stop_number b.stop) ∷ [])
block_result (Err x) = refusal_result x

-- the reader after the symbols taken, and the answer
unfoldable pub feed_block_of : Reader → List ℕ → Lists → FedBlock
feed_block_of r ss l = record { reader = reader_after r (take (block_for r ss l).taken ss); answer = block_answer r ss l }
