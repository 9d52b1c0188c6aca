-- One element more, at each turn of the loop that puts a frame's line; and Write's answer for a frame of n bytes.
use Rattle.timecode.specs.Answers.{done}
use Rattle.std.specs.Prelude.{◌≡◌, refl, true, false, List, [], ◌∷◌, ◌++◌, ℕ, suc, ◌+◌, ◌<◌, ◌≤◌, get_or, take, drop, Result, Ok, Err}
use Rattle.std.proofs.Math.Path.{sym, ap}
use Rattle.std.proofs.Common.{◌∙◌, append_assoc, add-one, arith, drop_of_length-le, drop-cons, length-take-le, take_at}
use Rattle.std.proofs.Math.ListN.{length}
use Rattle.std.proofs.Math.Seq.{length_front}
use Rattle.timecode.specs.Formats.{size}
use Rattle.timecode.specs.Frames.{written, write_of, write_leaves, left}
use Rattle.timecode.proofs.Laws.Writing.{length-written, leaves}
use Rattle.timecode.specs.declared.Format.{Format}
use Rattle.timecode.specs.declared.Refusal.{Refusal}
use Rattle.timecode.specs.declared.Time.{Time}
use Rattle.lines.specs.Text.{space, newline}
use Rattle.frametext.specs.Characters.{character_of, opens_group, element_text, frame_text, frame_line, write_answer, lined_of}

pub element-spaced : (i s : ℕ) → opens_group i ≡ true → space ∷ character_of s ∷ [] ≡ element_text i s
unfolding element_text
element-spaced i s y = rw y

pub element-plain : (i s : ℕ) → opens_group i ≡ false → character_of s ∷ [] ≡ element_text i s
unfolding element_text
element-plain i s n = rw n

frame-next : (i s : ℕ) (ss : List ℕ) → frame_text i (s ∷ ss) ≡ element_text i s ++ frame_text (suc i) ss
unfolding frame_text
frame-next i s ss = refl

frame-end : (i : ℕ) → frame_text i [] ≡ newline ∷ []
unfolding frame_text
frame-end i = refl

-- what stands, followed by the rest of the frame, is the whole line
pub frame-turn : (before after frame whole : List ℕ) (i : ℕ) → i < length frame → before ++ frame_text i (drop i frame) ≡ whole → after ≡ before ++ element_text i (get_or frame i 0) → after ++ frame_text (i + 1) (drop (i + 1) frame) ≡ whole
frame-turn before after frame whole i h p q =
    rw (q, add-one i) (append_assoc before (element_text i (get_or frame i 0)) (frame_text (suc i) (drop (suc i) frame)))
    ∙ ap (λ (t : List ℕ). before ++ t) (sym (ap (frame_text i) (drop-cons frame i 0 h) ∙ frame-next i (get_or frame i 0) (drop (suc i) frame)))
    ∙ p

pub frame-done : (before frame whole : List ℕ) (i : ℕ) → i ≡ length frame → before ++ frame_text i (drop i frame) ≡ whole → before ++ (newline ∷ []) ≡ whole
frame-done before frame whole i e p =
    ap (λ (t : List ℕ). before ++ t) (sym (ap (frame_text i) (drop_of_length-le frame {i = i} (omega arith)) ∙ frame-end i)) ∙ p

-- ---- Write, lent the first n bytes

-- its answer is the same for every frame of n bytes
pub taken-by-length : (f : Format) (t : Time) (w : ℕ) (lent : List ℕ) → length lent ≡ size f → write_of f t w lent ≡ write_answer f t w
unfolding write_answer write_of
taken-by-length f t w lent n = rw (n, length-written f t w)

length-left : (a : Result Unit Refusal) (new old : List ℕ) → length new ≡ length old → length (left a new old) ≡ length old
length-left (Ok u) new old e = e
length-left (Err x) new old e = refl

module _ (f : Format) (t : Time) (w : ℕ) (lent after : List ℕ) (n : ℕ) (size_is : n ≡ size f) (room : n ≤ length lent) (leaves-it : after ≡ write_leaves f t w (take n lent)) where
  front : length (take n lent) ≡ size f
  front = length-take-le n lent room ∙ size_is

  length-after : length after ≡ length (take n lent)
  unfolding write_leaves
  length-after = ap length leaves-it ∙ length-left (write_of f t w (take n lent)) (written f t w) (take n lent) (length-written f t w ∙ sym front)

  pub part-taken : write_of f t w (take n lent) ≡ write_answer f t w
  part-taken = taken-by-length f t w (take n lent) front

  pub part_length : length (after ++ drop n lent) ≡ length lent
  part_length = length_front lent after n length-after

  pub part-written : write_of f t w (take n lent) ≡ done → take n (after ++ drop n lent) ≡ written f t w
  part-written d = take_at after (drop n lent) n (length-after ∙ length-take-le n lent room) ∙ leaves-it ∙ leaves f t w (take n lent) d

-- ---- the answers

pub line-text : (f : Format) (t : Time) (w : ℕ) (frame : List ℕ) → frame ≡ written f t w → frame_text 0 frame ≡ frame_line f t w
unfolding frame_line
line-text f t w frame e = ap (frame_text 0) e

pub line-done : (f : Format) (t : Time) (w k : ℕ) (line : List ℕ) → write_answer f t w ≡ done → k ≤ length line → take k line ≡ frame_line f t w → Ok k ≡ lined_of f t w
unfolding lined_of
line-done f t w k line d room e = rw d (ap Ok (sym (length-take-le k line room) ∙ ap length e))

pub line_refused : (f : Format) (t : Time) (w : ℕ) (x : Refusal) → write_answer f t w ≡ Err x → Err x ≡ lined_of f t w
unfolding lined_of
line_refused f t w x r = rw r
