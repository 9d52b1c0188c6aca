-- Whole streams of a generator, joined at any element and damaged at some places: what the plain machine with the setting m + 1 answers to each element.
use Rattle.std.specs.Prelude.{◌≡◌, false, List, ℕ, ◌+◌, ◌<◌, ◌≤◌}
use Rattle.std.proofs.Math.ListN.{get_or, length}
use Rattle.timecode.specs.Formats.{member}
use Rattle.timecode.specs.Frames.{Sent, elements}
use Rattle.timecode.specs.declared.Format.{Format}

-- the symbols are the generator's elements from start on, but perhaps at the places
pub record StreamPart (f : Format) (sent : List Sent) (start : ℕ) (places symbols : List ℕ) : Type 0 where
  pub inside : start + length symbols ≤ length (elements f sent)
  pub same : (k : ℕ) → k < length symbols → member k places ≡ false → get_or symbols k 0 ≡ get_or (elements f sent) (start + k) 0
