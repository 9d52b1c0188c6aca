-- A block equals feeding its symbols singly; parts of a block fed one after the other equal the whole; what a refused block leaves; its answers from its records.
use Rattle.std.specs.Prelude.{◌≡◌, List, [], ◌∷◌, ◌++◌, map, ℕ, suc, ◌+◌, ◌<◌, ◌≤◌, get_or, length, take}
use Rattle.timecode.specs.declared.Answer.{Answer}
use Rattle.timecode.specs.declared.Answer.TheVariants.{Quiet, Report}
use Rattle.timecode.specs.declared.Refusal.{Refusal}
use Rattle.timecode.specs.declared.Time.{Time}
use Rattle.stream.specs.Feeding.{answer_of}
use Rattle.stream.specs.Refinement.{answers, reader_after}
use Rattle.stream.specs.declared.Reader.{Reader}
use Rattle.block.specs.Blocks.{Reported, report_at, Block}
use Rattle.block.specs.declared.Stop.{Stop}
use Rattle.block.specs.declared.Stop.TheVariants.{AllTaken, UnknownSymbol, NoRoom}

-- ---- what was taken

-- the reports among some answers, in their order, the first answer at index i
abbrev pub reports_in : ℕ → List Answer → List Reported
reports_in i [] = []
reports_in i (Quiet ∷ as') = reports_in (suc i) as'
reports_in i (Report t w ∷ as') = report_at i t w ∷ reports_in (suc i) as'
reports_in i (Answer.Refused x ∷ as') = reports_in (suc i) as'

-- Why a block stops where it does: all were taken, or the next is refused, or the next reports and no room is left.
abbrev pub StopsFor : Stop → ℕ → List Answer → ℕ → ℕ → Type 0
StopsFor AllTaken room as' taken reports = taken ≡ length as'
StopsFor UnknownSymbol room as' taken reports = (taken < length as') × ((x : Refusal) × ((none : Answer) → get_or as' taken none ≡ Answer.Refused x))
StopsFor NoRoom room as' taken reports = (taken < length as') × (reports ≡ room) × ((t : Time) × (w : ℕ) × ((none : Answer) → get_or as' taken none ≡ Report t w))

-- the answers that were taken: none of them refused, their reports put in, and why no more
pub record Takes (i room : ℕ) (as' : List Answer) (b : Block) : Type 0 where
  pub within : b.taken ≤ length as'
  pub fits : length b.reports ≤ room
  pub reported : b.reports ≡ reports_in i (take b.taken as')
  pub refused_none : (k : ℕ) → k < b.taken → (x : Refusal) (none : Answer) → get_or as' k none ≡ Answer.Refused x → ⊥
  pub stops : StopsFor b.stop room as' b.taken (length b.reports)

-- Why a block stops where it does, in document 02's words.
abbrev pub StopsBefore : Stop → Reader → ℕ → List ℕ → ℕ → ℕ → Type 0
StopsBefore AllTaken r room ss taken reports = taken ≡ length ss
StopsBefore UnknownSymbol r room ss taken reports = (taken < length ss) × (3 < get_or ss taken 0)
StopsBefore NoRoom r room ss taken reports = (taken < length ss) × (reports ≡ room) × ((t : Time) × (w : ℕ) × (answer_of (reader_after r (take taken ss)) (get_or ss taken 0) ≡ Report t w))

-- The block equals feeding its symbols singly: each symbol taken is accepted, the reports are those of their Feeds, in their order, and it stops for the reason that it says.
pub record FedSingly (r : Reader) (room : ℕ) (ss : List ℕ) (b : Block) : Type 0 where
  pub within : b.taken ≤ length ss
  pub fits : length b.reports ≤ room
  pub reported : b.reports ≡ reports_in 0 (answers r (take b.taken ss))
  pub accepted : (k : ℕ) → k < b.taken → get_or ss k 0 ≤ 3
  pub stops : StopsBefore b.stop r room ss b.taken (length b.reports)

-- a block whose first symbol stands at index k of a longer one
abbrev pub moved : ℕ → Reported → Reported
moved k r = report_at (k + r.index) r.time r.control

abbrev pub later : ℕ → Block → Block
later k b = record { taken = b.taken; reports = map (moved k) b.reports; stop = b.stop }

-- a block and the one after it: where the first stopped before its end, nothing follows
abbrev pub followed : Stop → Block → Block → Block
followed AllTaken b c = record { taken = b.taken + c.taken; reports = b.reports ++ c.reports; stop = c.stop }
followed UnknownSymbol b c = b
followed NoRoom b c = b

-- and the same reader
abbrev pub reader_followed : Stop → Reader → Reader → Reader
reader_followed AllTaken first second = second
reader_followed UnknownSymbol first second = first
reader_followed NoRoom first second = first
