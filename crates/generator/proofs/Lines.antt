-- The loop that puts the frames' lines, one frame more at each turn; and the answers of its parts.
use Rattle.timecode.specs.Answers.{done}
use Rattle.std.specs.Prelude.{◌≡◌, refl, List, [], ◌++◌, ℕ, suc, ◌-◌, ◌<◌, ◌≤◌, length, take, Result, Ok, Err}
use Rattle.std.proofs.Common.{sym, ap, ◌∙◌, arith, length-take-le}
use Rattle.std.proofs.Math.Decide.{ℕ_discrete}
use Rattle.timecode.specs.Frames.{step_of}
use Rattle.timecode.specs.declared.Format.{Format}
use Rattle.timecode.specs.declared.Refusal.{Refusal}
use Rattle.timecode.specs.declared.Time.{Time}
use Rattle.frametext.specs.Characters.{frame_line, write_answer, lined, lined_of}
use Rattle.generator.specs.Sending.{begun, begun_of, next_start, start_of, frame_line_for, lines_of}
use Rattle.generator.specs.declared.Start.{Start}
use Rattle.generator.specs.Lines.{stepped_answer, PutSoFar}

-- ---- frame_line's answer is Write's

lined-back : (a : Result Unit Refusal) (k : ℕ) → a ≡ stepped_answer (lined a k)
lined-back (Ok u) k = refl
lined-back (Err x) k = refl

pub taken_is : (f : Format) (t : Time) (w : ℕ) (a : Result ℕ Refusal) → a ≡ lined_of f t w → write_answer f t w ≡ stepped_answer a
unfolding lined_of
taken_is f t w a h = lined-back (write_answer f t w) (length (frame_line f t w)) ∙ ap stepped_answer (sym h)

pub line-put : (f : Format) (t : Time) (w : ℕ) → write_answer f t w ≡ done → frame_line f t w ≡ frame_line_for f t w
unfolding frame_line_for
line-put f t w d = rw d

pub line-none : (f : Format) (t : Time) (w : ℕ) (x : Refusal) → write_answer f t w ≡ Err x → [] ≡ frame_line_for f t w
unfolding frame_line_for
line-none f t w x r = rw r

-- the part of the line that is put
pub part_length : (k : ℕ) (line : List ℕ) → k ≤ 256 → length line ≡ 256 → length (take k line) ≡ k
part_length k line h n = length-take-le k line (omega arith)

-- ---- the checks

pub begun-step : (f : Format) (s : Start) (w given : ℕ) → write_answer f s.time w ≡ done → begun done (step_of f s.time given s.kind) ≡ begun_of f s w given
unfolding begun_of
begun-step f s w given d = rw d

pub begun-refused : (f : Format) (s : Start) (w given : ℕ) (x : Refusal) → write_answer f s.time w ≡ Err x → Err x ≡ begun_of f s w given
unfolding begun_of
begun-refused f s w given x r = rw r

-- ---- the loop

none-put : (frames : ℕ) → 0 ≡ frames - frames
none-put frames = omega arith

pub starts_first : (f : Format) (s : Start) (given frames : ℕ) → s ≡ start_of f s given (frames - frames)
unfolding start_of
starts_first f s given frames = ap (start_of f s given) (none-put frames)

pub put-start : (f : Format) (s : Start) (w given frames : ℕ) (out : List ℕ) → PutSoFar f s w given frames frames s 0 out
unfolding lines_of
put-start f s w given frames out = record { reached = starts_first f s given frames; put = ap (lines_of f s w given) (none-put frames) }

one_more : (frames left : ℕ) → 0 < left → left ≤ frames → frames - (left - 1) ≡ suc (frames - left)
one_more frames left a b = omega arith

next_start_lem : (f : Format) (s : Start) (given k : ℕ) → start_of f s given (suc k) ≡ next_start f (start_of f s given k) given
unfolding start_of
next_start_lem f s given k = refl

next-line : (f : Format) (s : Start) (w given k : ℕ) → lines_of f s w given (suc k) ≡ lines_of f s w given k ++ frame_line_for f (start_of f s given k).time w
unfolding lines_of
next-line f s w given k = refl

pub put-turn : (f : Format) (s : Start) (w given frames left : ℕ) (now now' : Start) (filled filled' : ℕ) (out out' : List ℕ) → 0 < left → left ≤ frames → PutSoFar f s w given frames left now filled out
    → take filled' out' ≡ take filled out ++ frame_line_for f now.time w → now' ≡ next_start f now given → PutSoFar f s w given frames (left - 1) now' filled' out'
put-turn f s w given frames left now now' filled filled' out out' a b h p q =
    record {
      reached = q ∙ rw (one_more frames left a b, next_start_lem f s given (frames - left), h.reached);
      put = p ∙ rw (one_more frames left a b, next-line f s w given (frames - left), h.put, h.reached);
    }

-- where something stands, some frame was put
pub some-put : (frames left filled most : ℕ) → left ≤ frames → (left ≡ frames → filled ≡ 0) → most < filled → left < frames
some-put frames left filled most b h m = go (ℕ_discrete left frames)
  where
    go : Dec (left ≡ frames) → left < frames
    go (yes e) = let n : ⊥ = omega (arith, h e) in absurd n
    go (no n) = omega (arith, n)
