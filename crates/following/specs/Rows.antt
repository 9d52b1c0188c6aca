-- Accepted frames in a row that end at an index of the list received: the plain machine's window, counted back from its end, so that what is received later changes nothing.
use Rattle.timecode.specs.declared.Refusal.{Refusal}
use Rattle.timecode.specs.declared.Reading.{Reading}
use Rattle.timecode.specs.Answers.{accepted}
use Rattle.std.specs.Prelude.{◌≡◌, Bool, cond, ◌&&◌, leb, take, drop, Result}
use Rattle.std.proofs.Math.Bool.{true}
use mathlib.Core.List.{List, ◌∷◌}
use Prim.Native.Nat.{ℕ, zero, suc, ◌-◌, ◌≤◌}
use Rattle.std.proofs.Math.Dec.{eqb}
use Rattle.std.proofs.Math.ListN.{get_or}
use Rattle.timecode.specs.Formats.{is_x, size}
use Rattle.timecode.specs.Frames.{read_of}
use Rattle.timecode.specs.Stream.{first_in_row, next_in_row}
use Rattle.timecode.specs.declared.Answer.{Answer}
use Rattle.timecode.specs.declared.Answer.TheVariants.{Quiet, Report}
use Rattle.timecode.specs.declared.Format.{Format}
use Rattle.timecode.specs.declared.Time.{Time}

-- the symbol before index e; 3 where there is none
abbrev pub before : List ℕ → ℕ → ℕ
before received e = get_or (3 ∷ received) e 0

-- a frame may begin directly after this symbol: after a mark, in X after any
unfoldable pub leads_frame : Format → ℕ → Bool
leads_frame f s = cond (is_x f) true (eqb s 2)

-- a symbol that begins a frame, directly after the symbol `last`: in X any mark
unfoldable pub opens_frame : Format → ℕ → ℕ → Bool
opens_frame f last s = eqb s 2 && leads_frame f last

-- a frame may begin at index e
unfoldable pub may_begin : Format → List ℕ → ℕ → Bool
may_begin f received e = leads_frame f (before received e)

-- the n symbols before index e
unfoldable pub frame_before : Format → List ℕ → ℕ → List ℕ
frame_before f received e = take (size f) (drop (e - size f) received)

-- m + 1 frames in a row that end before index e
unfoldable pub row_to : Format → List ℕ → ℕ → ℕ → Answer
row_to f received zero e = cond (leb (size f) e) (cond (may_begin f received (e - size f)) (first_in_row (read_of f (frame_before f received e))) Quiet) Quiet
row_to f received (suc m) e = cond (leb (size f) e) (next_in_row f (row_to f received m (e - size f)) (read_of f (frame_before f received e))) Quiet

-- ---- what is appended changes nothing before

pub record NextAccepted (f : Format) (a : Answer) (r : Result Reading Refusal) (t : Time) (w : ℕ) : Type 0 where
  pub time : Time
  pub control : ℕ
  pub was : a ≡ Report time control
  pub is : r ≡ accepted t w

pub record EndsAt (f : Format) (received : List ℕ) (e : ℕ) (t : Time) (w : ℕ) : Type 0 where
  pub long : size f ≤ e
  pub begins : may_begin f received (e - size f) ≡ true
  pub reads : read_of f (frame_before f received e) ≡ accepted t w
