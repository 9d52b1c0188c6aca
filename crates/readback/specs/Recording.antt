-- timeread reads the recording that timewrite prints as exactly the elements of its frames.
use Rattle.timecode.specs.Answers.{done}
use Rattle.std.specs.Prelude.{◌≡◌, refl, true, false, List, [], ◌∷◌, ◌++◌, ℕ, zero, suc, ◌+◌, ◌-◌, ◌%◌, ◌≤◌, leb, length}
use Rattle.std.proofs.Common.{ap, ◌∙◌, append_assoc, arith}
use borrow.Author.Tests.{leb-true, le-leb}
use Rattle.timecode.specs.Formats.{table, known}
use Rattle.timecode.specs.Frames.{Sent, written, are_symbols, elements}
use Rattle.timecode.specs.Laws.Table.{every_format}
use Rattle.timecode.proofs.Laws.Table.{of-every}
use Rattle.timecode.proofs.Laws.Tests.{by-test, and_left, and_right}
use Rattle.timecode.proofs.Laws.Writing.{written-symbols}
use Rattle.timecode.specs.Stream.{two_frames, plain_answers}
use Rattle.timecode.specs.declared.Format.{Format}
use Rattle.lines.specs.Text.{space, newline}
use Rattle.listing.specs.Printed.{format_in, is_first_line, printed_for, printed}
use Rattle.characters.specs.ByteSymbols.{is_skipped, symbol_of_byte, feeds_of}
use Rattle.generator.specs.Sending.{begun_of, lines_of, frames_of}
use Rattle.generator.proofs.Generators.{valid, lines_are}
use Rattle.generator.specs.declared.Start.{Start}
use Rattle.frametext.specs.Characters.{character_of, opens_group, element_text, frame_text, frame_line, first_line, frames_text, recording_text}

-- ---- a character is read as the symbol that it was put for

character-back : (s : ℕ) → s ≤ 3 → (is_skipped (character_of s) ≡ false) × (symbol_of_byte (character_of s) ≡ s)
unfolding character_of is_skipped symbol_of_byte
character-back zero h = (refl, refl)
character-back (suc zero) h = (refl, refl)
character-back (suc (suc zero)) h = (refl, refl)
character-back (suc (suc (suc zero))) h = (refl, refl)
character-back (suc (suc (suc (suc s)))) h = let n : ⊥ = omega arith in absurd n

feeds-fed : (s : ℕ) (rest : List ℕ) → s ≤ 3 → feeds_of (character_of s ∷ rest) ≡ s ∷ feeds_of rest
unfolding feeds_of
feeds-fed s rest h = rw ((character-back s h).0, (character-back s h).1)

feeds-space : (rest : List ℕ) → feeds_of (space ∷ rest) ≡ feeds_of rest
unfolding feeds_of is_skipped
feeds-space rest = refl

feeds-newline : (rest : List ℕ) → feeds_of (newline ∷ rest) ≡ feeds_of rest
unfolding feeds_of is_skipped
feeds-newline rest = refl

feeds-of-element : (i s : ℕ) (rest : List ℕ) → s ≤ 3 → feeds_of (element_text i s ++ rest) ≡ s ∷ feeds_of rest
unfolding element_text
feeds-of-element i s rest h =
    by-test (opens_group i)
    (λ y. rw y (feeds-space (character_of s ∷ rest) ∙ feeds-fed s rest h))
    (λ n. rw n (feeds-fed s rest h))

-- A frame's line is read as its elements, whatever follows.
pub feeds-of-frame : (i : ℕ) (frame rest : List ℕ) → are_symbols frame ≡ true → feeds_of (frame_text i frame ++ rest) ≡ frame ++ feeds_of rest
unfolding frame_text
feeds-of-frame i [] rest h = feeds-newline rest
feeds-of-frame i (s ∷ ss) rest h =
    ap feeds_of (append_assoc (element_text i s) (frame_text (suc i) ss) rest)
    ∙ feeds-of-element i s (frame_text (suc i) ss ++ rest) (leb-true s 3 (and_left (leb s 3) (are_symbols ss) h))
    ∙ ap (λ (t : List ℕ). s ∷ t) (feeds-of-frame (suc i) ss rest (and_right (leb s 3) (are_symbols ss) h))

-- The lines of frames, any times and control words, are read as their elements.
pub feeds-of-frames : (f : Format) (sent : List Sent) → feeds_of (frames_text f sent) ≡ elements f sent
unfolding frames_text elements frame_line feeds_of
feeds-of-frames f [] = refl
feeds-of-frames f (s ∷ ss) =
    feeds-of-frame 0 (written f s.time s.control) (frames_text f ss) (written-symbols f s.time s.control)
    ∙ ap (λ (t : List ℕ). written f s.time s.control ++ t) (feeds-of-frames f ss)

-- ---- the first line

known-digit : (f : Format) → known f ≡ true → f.expression ≤ 7
unfolding every_format table
known-digit f k = leb-true f.expression 7 (of-every (λ g. leb g.expression 7) refl f k)

expression-back : (f : Format) → known f ≡ true → 48 + f.expression % 10 - 48 ≡ f.expression
expression-back f k = omega (arith, known-digit f k)

module _ (f : Format) (k : known f ≡ true) (text : List ℕ) where
  format_back : format_in (first_line f ++ text) ≡ f
  format_back = λ i. record { letter = f.letter; expression = expression-back f k i }

  first-is : is_first_line (first_line f ++ text) ≡ true
  unfolding is_first_line
  first-is =
      rw (format_back, k, le-leb 3 (length (first_line f ++ text)) (omega arith), le-leb 48 (48 + f.expression % 10) (omega arith))

-- What timeread prints of the recording that timewrite prints is the listing of exactly the frames' elements.
pub recording-is-read : (f : Format) (sent : List Sent) → known f ≡ true → printed (recording_text f sent) ≡ printed_for 0 0 (plain_answers f two_frames [] (elements f sent))
unfolding printed recording_text
recording-is-read f sent k = rw (first-is f k (frames_text f sent), format_back f k (frames_text f sent), feeds-of-frames f sent)

-- So of the lines that timewrite prints, once its checks are passed.
pub recording-read : (f : Format) (s : Start) (w given : ℕ) → begun_of f s w given ≡ done → (k : ℕ) → printed (first_line f ++ lines_of f s w given k) ≡ printed_for 0 0 (plain_answers f two_frames [] (elements f (frames_of f s w given k)))
unfolding recording_text
recording-read f s w given b k = rw (lines_are f s w given b k) (recording-is-read f (frames_of f s w given k) (valid f s w given b).format)
