-- A reader's state as the symbols themselves: the one frame that is under way, from where one may begin, and how many accepted frames in a row end before it.
use Rattle.timecode.specs.declared.Refusal.{Refusal}
use Rattle.timecode.specs.declared.Reading.{Reading}
use Rattle.std.specs.Prelude.{cond, ◌&&◌, List, [], ◌∷◌, ◌++◌, ℕ, ◌+◌, leb, ltb, eqb, length, Result, Ok, Err}
use Rattle.timecode.specs.Formats.{size}
use Rattle.timecode.specs.Frames.{no_time, next_after, read_of}
use Rattle.timecode.specs.declared.Answer.{Answer}
use Rattle.timecode.specs.declared.Answer.TheVariants.{Quiet, Report}
use Rattle.timecode.specs.declared.Format.{Format}
use Rattle.timecode.specs.declared.Time.{Time}
use Rattle.following.specs.Rows.{opens_frame}

-- The newest symbol; the symbols of the frame under way, or none; how many accepted frames, each next after the one before, end right before it, or with it once it is whole, at most 5; the last one's time and control word.
pub record Following : Type 0 where
  pub last : ℕ
  pub frame : List ℕ
  pub row : ℕ
  pub time : Time
  pub control : ℕ

abbrev pub nothing_received : Following
nothing_received = record { last = 3; frame = []; row = 0; time = no_time; control = 0 }

-- one accepted frame more: its time is next after the last one's, or the row begins anew; at most 5 are counted
unfoldable pub row_after : Format → ℕ → Time → Time → ℕ
row_after f c s t = cond (eqb c 0) 1 (cond (next_after f s t) (cond (ltb c 5) (c + 1) 5) 1)

-- the frame is whole: what Read gives for it
unfoldable pub with_reading : Format → Following → ℕ → Result Reading Refusal → Following
with_reading f r s (Ok read) = record { last = s; frame = r.frame ++ (s ∷ []); row = row_after f r.row r.time read.time; time = read.time; control = read.control }
with_reading f r s (Err x) = record { last = s; frame = r.frame ++ (s ∷ []); row = 0; time = r.time; control = r.control }

-- An opening begins a frame, and the row goes on only from a whole one. Any other symbol joins the frame under way; after a whole frame there is none.
unfoldable pub following_next : Format → Following → ℕ → Following
following_next f r s =
    cond (opens_frame f r.last s)
    (record { last = s; frame = s ∷ []; row = cond (eqb (length r.frame) (size f)) r.row 0; time = r.time; control = r.control })
    (cond (eqb (length r.frame) 0)
    (record { last = s; frame = []; row = r.row; time = r.time; control = r.control })
    (cond (leb (size f) (length r.frame))
    (record { last = s; frame = []; row = 0; time = r.time; control = r.control })
    (cond (eqb (length r.frame + 1) (size f))
    (with_reading f r s (read_of f (r.frame ++ (s ∷ []))))
    (record { last = s; frame = r.frame ++ (s ∷ []); row = r.row; time = r.time; control = r.control }))))

-- Report exactly if a frame is whole and k in a row end with it
unfoldable pub following_answer : Format → ℕ → Following → Answer
following_answer f k r = cond (eqb (length r.frame) (size f) && leb k r.row) (Report r.time r.control) Quiet
