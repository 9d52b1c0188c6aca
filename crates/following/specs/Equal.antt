-- The state that follows one frame answers as the plain machine does, for every setting k and every list of Feeds.
use Rattle.timecode.specs.Answers.{accepted}
use Rattle.std.specs.Prelude.{◌≡◌, cond, List, [], ◌∷◌, ltb, eqb, drop}
use Rattle.std.proofs.Math.Bool.{true}
use Prim.Native.Nat.{ℕ, ◌+◌, ◌-◌, ◌<◌, ◌≤◌}
use Rattle.std.proofs.Math.ListN.{get_or, length}
use Rattle.timecode.specs.Formats.{is_symbol, size}
use Rattle.timecode.specs.Frames.{read_of}
use Rattle.timecode.specs.declared.Answer.{Answer}
use Rattle.timecode.specs.declared.Answer.TheVariants.{Quiet, Report}
use Rattle.timecode.specs.declared.Format.{Format}
use Rattle.timecode.specs.declared.Refusal.TheVariants.{UnknownSymbol}
use Rattle.timecode.specs.declared.Time.{Time}
use Rattle.following.specs.Rows.{before, may_begin, row_to}
use Rattle.following.specs.Following.{Following, following_next, following_answer}

-- the list ends in the first c symbols of an accepted frame, and a frame may begin there
pub record BeginsFrame (f : Format) (received : List ℕ) (c : ℕ) : Type 0 where
  pub frame : List ℕ
  pub time : Time
  pub control : ℕ
  pub accepted : read_of f frame ≡ accepted time control
  pub begins : may_begin f received (length received - c) ≡ true
  pub same : (i : ℕ) → i < c → get_or frame i 0 ≡ get_or received (length received - c + i) 0

-- where the row ends: at the end of the list, or before the frame under way
abbrev pub base : ℕ → ℕ → ℕ → ℕ
base n c l = cond (eqb c n) l (l - c)

-- What the state says of the list. Whatever beginning of an accepted frame the list ends in, that is the frame under way.
pub record Describes (f : Format) (r : Following) (received : List ℕ) : Type 0 where
  pub newest : r.last ≡ before received (length received)
  pub short : length r.frame ≤ size f
  pub inside : length r.frame ≤ length received
  pub part : r.frame ≡ drop (length received - length r.frame) received
  pub begins : 1 ≤ length r.frame → may_begin f received (length received - length r.frame) ≡ true
  pub only : (c : ℕ) → 1 ≤ c → c ≤ size f → c ≤ length received → BeginsFrame f received c → length r.frame ≡ c
  pub idle : length r.frame ≡ 0 → r.row ≡ 0
  pub row_is : (m : ℕ) → m < 5 → row_to f received m (base (size f) (length r.frame) (length received)) ≡ cond (ltb m r.row) (Report r.time r.control) Quiet

-- a list of Feeds: a symbol of 0 to 3 is accepted; another is refused with 4
unfoldable pub following_answers : Format → ℕ → Following → List ℕ → List Answer
following_answers f k r [] = []
following_answers f k r (s ∷ ss) =
    cond (is_symbol s)
    (following_answer f k (following_next f r s) ∷ following_answers f k (following_next f r s) ss)
    (Answer.Refused UnknownSymbol ∷ following_answers f k r ss)
