-- The part that Scan is lent; and that the next frame is due behind the place of the one looked at, so that looking on comes to the end.
use Rattle.timecode.specs.declared.Refusal.{Refusal}
use Rattle.timecode.specs.declared.Found.{Found}
use Rattle.timecode.specs.declared.Reading.{Reading}
use Rattle.std.specs.Prelude.{◌≡◌, refl, List, ℕ, ◌+◌, ◌-◌, ◌<◌, ◌≤◌, leb, length, take, drop, Some, None, Result, Ok, Err, Option}
use Rattle.std.proofs.Common.{sym, ap, ◌∙◌, arith, le-leb, take_all}
use Rattle.std.proofs.lemmas.Bool.{lt-leb}
use Rattle.std.proofs.Math.Seq.{take-length}
use Rattle.timecode.specs.Calls.{part_at, scan_of}
use Rattle.timecode.specs.Formats.{size}
use Rattle.timecode.specs.Frames.{read_of}
use Rattle.timecode.proofs.Laws.Marks.{size-positive}
use Rattle.timecode.proofs.Laws.Scanning.{scan-finds-the-lowest}
use Rattle.timecode.proofs.Laws.Tests.{by-test}
use Rattle.timecode.specs.declared.Format.{Format}
use Rattle.scan.specs.Places.{part-at}
use Rattle.due_frames.specs.Due.{reach_of, resumed, resume_at, looked_by, look_at}
use Rattle.due_frames.specs.Moves.{MovesOn}

-- both ways that the part ends
pub reach-within : (due n end : ℕ) (xs : List ℕ) → length xs ≡ end → end - due < n → due ≤ end → take end xs ≡ take (due + n - 1) xs
reach-within due n end xs l h k = ap (λ (m : ℕ). take m xs) (sym l) ∙ take-length xs ∙ sym (take_all (due + n - 1) xs (omega arith))

-- what Scan answered for the part, as a slice has it, decides
pub resume-by : (f : Format) (recording : List ℕ) (a n last : ℕ) (x y : Result (Option Found) Refusal) → n ≡ size f → ((xs : List ℕ) → length xs ≡ length recording → take last xs ≡ take (a + n + n - 1) xs) → x ≡ scan_of f (take (last - 0) (drop 0 recording)) (a + 1) → x ≡ y → resumed y (a + n) ≡ resume_at f recording a
unfolding resume_at reach_of
resume-by f recording a n last x y e reach scanned is =
    let k : last - 0 ≡ last = omega arith in
    let part : take (last - 0) (drop 0 recording) ≡ take (a + size f + size f - 1) recording = rw k (reach recording refl ∙ rw e) in
    let same : scan_of f (take (a + size f + size f - 1) recording) (a + 1) ≡ y = sym (ap (λ (xs : List ℕ). scan_of f xs (a + 1)) part) ∙ sym scanned ∙ is in
    rw (same, e)

-- ---- the frame that is due

pub look-end : (f : Format) (recording : List ℕ) (a : ℕ) → length recording < a + size f → None ≡ look_at f recording a
unfolding look_at
look-end f recording a h = rw (lt-leb (a + size f) (length recording) h)

-- what Read answered for the part, as a slice has it, decides
pub look-by : (f : Format) (recording : List ℕ) (a n : ℕ) (x y : Result Reading Refusal) → n ≡ size f → a + n ≤ length recording → x ≡ read_of f (take (a + n - a) (drop a recording)) → x ≡ y → Some (looked_by y (a + n) (resume_at f recording a)) ≡ look_at f recording a
unfolding look_at
look-by f recording a n x y e room read is =
    let same : read_of f (part_at f recording a) ≡ y = sym (part-at f recording a n e) ∙ sym read ∙ is in
    rw (← e, le-leb (a + n) (length recording) room, same)

-- ---- looking on

resumed-after : (f : Format) (recording : List ℕ) (a : ℕ) (x : Result (Option Found) Refusal) → scan_of f (reach_of f recording a) (a + 1) ≡ x → a < resumed x (a + size f)
resumed-after f recording a (Ok (Some found)) e = let l = (scan-finds-the-lowest f (reach_of f recording a) (a + 1) found.start found.reading.time found.reading.control).0 e in omega (arith, l.found.from)
resumed-after f recording a (Ok None) e = omega (arith, size-positive f)
resumed-after f recording a (Err x) e = omega (arith, size-positive f)

by-looked : (f : Format) (recording : List ℕ) (a : ℕ) (x : Result Reading Refusal) → MovesOn a (Some (looked_by x (a + size f) (resume_at f recording a)))
unfolding resume_at
by-looked f recording a (Ok read) = omega (arith, size-positive f)
by-looked f recording a (Err x) = resumed-after f recording a (scan_of f (reach_of f recording a) (a + 1)) refl

pub moves-on : (f : Format) (recording : List ℕ) (a : ℕ) → MovesOn a (look_at f recording a)
unfolding look_at
moves-on f recording a = by-test (leb (a + size f) (length recording)) (λ y. rw y (by-looked f recording a (read_of f (part_at f recording a)))) (λ n. rw n tt)
