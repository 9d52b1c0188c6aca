-- What one listener makes of a frame: it hears the frame with its damages put in.
use Rattle.std.specs.Prelude.{◌≡◌, true, false, ◌&&◌, List, ℕ, ◌+◌, ◌<◌, ◌≤◌, leb, ltb, get_or, length, take}
use Rattle.std.proofs.Common.{lt-ltb, leb-false}
use Rattle.timecode.specs.Stream.{is_setting}
use Rattle.timecode.specs.declared.Time.{Time}
use Rattle.receive_many.specs.ManySymbols.{SymbolsBelow}
use Rattle.stream.specs.Feeding.{is_valid}
use Rattle.stream.specs.Refinement.{answers, reader_after}
use Rattle.listening.specs.Counted.{count_all}
use Rattle.listening.specs.FrameDamages.{PutUpTo, put_small}
use Rattle.listening.specs.declared.Listening.{Listening}

-- the damages from the listener's next one up to `to` have symbols of 0 to 3, and it counted no more than `past`
pub record Listens (l : Listening) (frame : List ℕ) (n past : ℕ) (numbers symbols : List ℕ) (to : ℕ) : Type 0 where
  pub valid : is_valid l.reader ≡ true
  pub setting : is_setting l.reader.setting ≡ true
  pub few_reports : l.counts.reports ≤ past
  pub few_wrong : l.counts.wrong ≤ past
  pub whole : length frame ≡ 100
  pub inside : n ≤ 100
  pub elements : SymbolsBelow frame n
  pub early : past ≤ 1000000000000
  pub left : l.next ≤ to
  pub numbered : to ≤ length numbers
  pub symboled : to ≤ length symbols
  pub small : (i : ℕ) → l.next ≤ i → i < to → get_or symbols i 0 ≤ 3

-- the damages up to the new next one are put in; those lie not behind the frame, and the next one does
pub record HearsFrame (l : Listening) (frame : List ℕ) (n past : ℕ) (sent : Time) (numbers symbols : List ℕ) (to : ℕ) (r : Listening) : Type 0 where
  pub heard : List ℕ
  pub put : PutUpTo past n numbers symbols l.next to frame r.next heard
  pub behind : r.next < to → past + n < get_or numbers r.next 0
  pub reader_is : r.reader ≡ reader_after l.reader (take n heard)
  pub counts_are : r.counts ≡ count_all (past + n) sent l.counts past (answers l.reader (take n heard))

module _ {l : Listening} {frame : List ℕ} {n past : ℕ} {numbers symbols : List ℕ} {to : ℕ} (h : Listens l frame n past numbers symbols to) where
  pub heard-small : {at : ℕ} {new : List ℕ} → PutUpTo past n numbers symbols l.next to frame at new → SymbolsBelow new n
  heard-small p = put_small h.small h.elements p

  -- no damage lies in the frame
  pub none-behind : (ltb l.next to && leb (get_or numbers l.next 0) (past + n)) ≡ false → l.next < to → past + n < get_or numbers l.next 0
  none-behind none b =
      let y : ltb l.next to ≡ true = lt-ltb l.next to b in
      let m : leb (get_or numbers l.next 0) (past + n) ≡ false = rw y at none in
      leb-false (get_or numbers l.next 0) (past + n) m

-- the frame with the damages up to the index `at` was heard
pub hears : {l : Listening} {frame : List ℕ} {n past : ℕ} {sent : Time} {numbers symbols : List ℕ} {to : ℕ} (heard : List ℕ) {at : ℕ} (r : Listening) → PutUpTo past n numbers symbols l.next to frame at heard → (at < to → past + n < get_or numbers at 0)
    → (r.reader ≡ reader_after l.reader (take n heard)) × (r.counts ≡ count_all (past + n) sent l.counts past (answers l.reader (take n heard))) × (r.next ≡ at)
    → HearsFrame l frame n past sent numbers symbols to r
hears heard r put behind is = record { heard = heard; put = rw is.2 put; behind = rw is.2 behind; reader_is = is.0; counts_are = is.1 }
