-- timeread prints what document 01 says: the parts put while the bytes are read, and the last line, are the whole.
use Rattle.std.specs.Prelude.{◌≡◌, true, false, ◌&&◌, List, [], ◌∷◌, ◌++◌, ℕ, suc, ◌+◌, ◌<◌, eqb, leb, get_or, length, take, drop}
use Rattle.std.proofs.Math.Path.{refl, ap}
use Rattle.std.proofs.Common.{sym, ◌∙◌, append_assoc, append-nil, arith, lt-ltb, le-leb}
use Rattle.std.proofs.Math.ListN.{length-drop}
use Rattle.timecode.specs.Answers.{refusal_number}
use Rattle.timecode.specs.Formats.{known}
use Rattle.timecode.proofs.Laws.Tests.{and_right}
use Rattle.timecode.specs.Stream.{is_setting, two_frames}
use Rattle.timecode.specs.declared.Answer.{Answer}
use Rattle.timecode.specs.declared.Answer.TheVariants.{Quiet, Report}
use Rattle.timecode.specs.declared.Refusal.{Refusal}
use Rattle.timecode.specs.declared.Time.{Time}
use Rattle.lines.specs.Text.{report_line, refused_line, together}
use Rattle.stream.specs.Feeding.{next_of, answer_of, feed_of, fresh_reader}
use Rattle.stream.specs.Refinement.{answers}
use Rattle.stream.proofs.Refinement.{answers-are-plain}
use Rattle.stream.specs.declared.Reader.{Reader}
use Rattle.characters.specs.ByteSymbols.{feeds_of}
use Rattle.characters.proofs.Decoding.{feeds-few}
use Rattle.progress.specs.Progress.{running_at, one_more, answered, answer_line, after_feed, feed_line, after_feeds, text_feeds}
use Rattle.progress.specs.Steps.{step-fed, ended-stays, ended-no-text}
use Rattle.hearing.specs.Bytes.{after_of, text_of, after-parts, text-parts}
use Rattle.listing.specs.Printed.{format_in, is_first_line, printed_for, printed}
use Rattle.listing.specs.Promises.{made_from_head, ending_of}
use Rattle.progress.specs.declared.Progress.{Progress}

-- what is printed from a progress on: the lines of a list of Feeds and the last line
unfoldable pub remaining_for : Progress → List ℕ → List ℕ
remaining_for p ss = text_feeds p ss ++ ending_of (after_feeds p ss)

-- of a list of bytes
abbrev pub remaining_printed : Progress → List ℕ → List ℕ
remaining_printed p bytes = remaining_for p (feeds_of bytes)

-- no 64-bit count comes to its end
pub record Room (p : Progress) (k : ℕ) : Type 0 where
  pub elements_room : p.elements + k < 18446744073709551616
  pub reports_room : p.reports + k < 18446744073709551616

more-is : (k : ℕ) → k + 1 < 18446744073709551616 → one_more k ≡ suc k
unfolding one_more
more-is k h = rw (lt-ltb k 18446744073709551615 (omega arith))

remaining-step : (p : Progress) (s : ℕ) (ss : List ℕ) → remaining_for p (s ∷ ss) ≡ feed_line p s ++ remaining_for (after_feed p s) ss
unfolding remaining_for text_feeds after_feeds
remaining-step p s ss = append_assoc (feed_line p s) (text_feeds (after_feed p s) ss) (ending_of (after_feeds (after_feed p s) ss))

remaining-ended : (p : Progress) (ss : List ℕ) → p.ended ≡ true → remaining_for p ss ≡ []
unfolding remaining_for ending_of
remaining-ended p ss e = rw (← ended-no-text p ss e, ← ended-stays p ss e, e)

remaining-nothing : (p : Progress) → p.ended ≡ false → printed_for p.elements p.reports [] ≡ remaining_for p []
unfolding remaining_for text_feeds after_feeds ending_of printed_for
remaining-nothing p g = rw g

remaining-fed : (p : Progress) (s : ℕ) (ss : List ℕ) → p.ended ≡ false → (a : Answer) → answer_of p.reader s ≡ a → remaining_for p (s ∷ ss) ≡ answer_line (answered p (next_of p.reader s) a).elements a ++ remaining_for (answered p (next_of p.reader s) a) ss
remaining-fed p s ss g a e = let step = step-fed p s g in remaining-step p s ss ∙ rw (step.1, step.0, e)

-- ---- from any progress on, what is printed is what the answers to the rest of the Feeds say

-- of these Feeds, from any progress on
abbrev PrintsAnswers : List ℕ → Type 0
PrintsAnswers ss = (p : Progress) → p.ended ≡ false → Room p (length ss) → printed_for p.elements p.reports (answers p.reader ss) ≡ remaining_for p ss

module _ (e m : ℕ) (as' : List Answer) where
  printed-quiet : printed_for e m (Quiet ∷ as') ≡ printed_for (suc e) m as'
  unfolding printed_for
  printed-quiet = refl

  printed-report : (t : Time) (w : ℕ) → printed_for e m (Report t w ∷ as') ≡ report_line (suc e) t w ++ printed_for (suc e) (suc m) as'
  unfolding printed_for
  printed-report t w = refl

  printed-refused : (x : Refusal) → printed_for e m (Answer.Refused x ∷ as') ≡ refused_line (refusal_number x)
  unfolding printed_for
  printed-refused x = refl

module _ (s : ℕ) (ss : List ℕ) (rest : PrintsAnswers ss) (p : Progress) (g : p.ended ≡ false) (room : Room p (suc (length ss))) where
  abbrev r : Reader
  r = next_of p.reader s

  more : one_more p.elements ≡ suc p.elements
  more = more-is p.elements (omega (arith, room.elements_room))

  reports : one_more p.reports ≡ suc p.reports
  reports = more-is p.reports (omega (arith, room.reports_room))

  fed-answers : (a : Answer) → answer_of p.reader s ≡ a → printed_for p.elements p.reports (answers p.reader (s ∷ ss)) ≡ printed_for p.elements p.reports (a ∷ answers r ss)
  unfolding answers feed_of
  fed-answers a e = ap (λ (x : Answer). printed_for p.elements p.reports (x ∷ answers r ss)) e

  fed-agrees : (a : Answer) → answer_of p.reader s ≡ a → printed_for p.elements p.reports (answers p.reader (s ∷ ss)) ≡ remaining_for p (s ∷ ss)
  fed-agrees Quiet e =
      fed-answers Quiet e
      ∙ printed-quiet p.elements p.reports (answers r ss)
      ∙ rw (← more) (rest (answered p r Quiet) refl (record { elements_room = omega (arith, more, room.elements_room); reports_room = omega (arith, room.reports_room) }))
      ∙ sym (remaining-fed p s ss g Quiet e)
  fed-agrees (Report t w) e =
      fed-answers (Report t w) e
      ∙ printed-report p.elements p.reports (answers r ss) t w
      ∙ rw (← more, ← reports)
      (ap (λ (l : List ℕ). report_line (one_more p.elements) t w ++ l) (rest (answered p r (Report t w)) refl (record { elements_room = omega (arith, more, room.elements_room); reports_room = omega (arith, reports, room.reports_room) })))
      ∙ sym (remaining-fed p s ss g (Report t w) e)
  fed-agrees (Answer.Refused x) e =
      fed-answers (Answer.Refused x) e
      ∙ printed-refused p.elements p.reports (answers r ss) x
      ∙ sym (remaining-fed p s ss g (Answer.Refused x) e ∙ rw (remaining-ended (answered p r (Answer.Refused x)) ss refl) (append-nil (refused_line (refusal_number x))))

nothing-agrees : (p : Progress) → p.ended ≡ false → printed_for p.elements p.reports (answers p.reader []) ≡ remaining_for p []
unfolding answers
nothing-agrees p g = remaining-nothing p g

rest_is : (ss : List ℕ) → PrintsAnswers ss
rest_is [] p g room = nothing-agrees p g
rest_is (s ∷ ss) p g room = fed-agrees s ss (rest_is ss) p g room (answer_of p.reader s) refl

-- ---- the whole

two-frames-set : is_setting two_frames ≡ true
unfolding is_setting
two-frames-set = refl

module _ (bytes : List ℕ) (first : is_first_line bytes ≡ true) (short : length bytes < 18446744073709551616) where
  format-known : known (format_in bytes) ≡ true
  unfolding is_first_line
  format-known =
      and_right (leb 48 (get_or bytes 1 0)) (known (format_in bytes))
      (and_right (eqb (get_or bytes 2 0) 10) (leb 48 (get_or bytes 1 0) && known (format_in bytes))
      (and_right (leb 3 (length bytes)) (eqb (get_or bytes 2 0) 10 && (leb 48 (get_or bytes 1 0) && known (format_in bytes))) first))

  -- After a first line that is so, the lines put while the bytes behind it are read and the last line are what document 01 says.
  pub listing-is-printed : printed bytes ≡ remaining_printed (running_at (fresh_reader (format_in bytes) two_frames) 0 0) (drop 3 bytes)
  unfolding printed
  listing-is-printed =
      rw (first, ← answers-are-plain (format_in bytes) two_frames format-known two-frames-set (feeds_of (drop 3 bytes)))
      (rest_is (feeds_of (drop 3 bytes)) (running_at (fresh_reader (format_in bytes) two_frames) 0 0) refl (record { elements_room = omega (arith, length-drop 3 bytes, feeds-few (drop 3 bytes)); reports_room = omega (arith, length-drop 3 bytes, feeds-few (drop 3 bytes)) }))

-- Any other input prints `refused 1`, and no other line follows.
pub other-line-refused : (bytes : List ℕ) → is_first_line bytes ≡ false → printed bytes ≡ refused_line 1
unfolding printed
other-line-refused bytes n = rw n

-- The first three bytes decide of the first line.
pub begun-by-three : (bytes : List ℕ) → made_from_head (take 3 bytes) ≡ made_from_head bytes
unfolding made_from_head is_first_line
begun-by-three [] = refl
begun-by-three (a ∷ []) = refl
begun-by-three (a ∷ b ∷ []) = refl
begun-by-three (a ∷ b ∷ c ∷ bs) = let long : leb 3 (length (a ∷ b ∷ c ∷ bs)) ≡ true = le-leb 3 (length (a ∷ b ∷ c ∷ bs)) (omega arith) in rw long

-- The bytes may come in parts of any length: what is put for each, and the last line, are the whole.
unfoldable pub parts_printed : Progress → List (List ℕ) → List ℕ
parts_printed p [] = ending_of p
parts_printed p (part ∷ parts) = text_of p part ++ parts_printed (after_of p part) parts

pub parts-are-whole : (p : Progress) (parts : List (List ℕ)) → parts_printed p parts ≡ remaining_printed p (together parts)
unfolding parts_printed remaining_for feeds_of text_feeds after_feeds
parts-are-whole p [] = refl
parts-are-whole p (part ∷ parts) =
    ap (λ (t : List ℕ). text_of p part ++ t) (parts-are-whole (after_of p part) parts)
    ∙ sym (append_assoc (text_of p part) (text_of (after_of p part) (together parts)) (ending_of (after_of (after_of p part) (together parts))))
    ∙ rw (← text-parts p part (together parts), ← after-parts p part (together parts))
