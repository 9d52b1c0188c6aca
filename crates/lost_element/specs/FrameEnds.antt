-- How the frames of a format end: the last mark, in X the four 3s, alike in all of them, and before these another symbol.
use Rattle.std.specs.Prelude.{Bool, ◌&&◌, ◌+◌}
use Rattle.std.proofs.Math.Bool.{not}
use Rattle.timecode.specs.Frames.{covered}
use Rattle.timecode.specs.Laws.Tests.{every_below}
use Rattle.timecode.specs.Layout.{runs}
use Rattle.timecode.specs.declared.Format.{Format}

-- in X a bit stands at 20, and none from 21 to 24
abbrev pub four_free : Format → Bool
four_free f = covered (runs f) 20 && every_below 4 (λ i. not (covered (runs f) (21 + i)))
