-- Where the marks of a written frame stand, and of an accepted one: a frame begins with a mark and ends with what its format says.
use Rattle.std.specs.Prelude.{◌≡◌, false, ◌-◌}
use Rattle.timecode.specs.Formats.{size}
use Rattle.timecode.specs.Frames.{covered}
use Rattle.timecode.specs.Layout.{runs, filler, ending}
use Rattle.timecode.specs.declared.Format.{Format}

-- no digit or bit takes the last element
abbrev pub EndsSo : Format → Type 0
EndsSo f = (covered (runs f) (size f - 1) ≡ false) × (filler f (size f - 1) ≡ ending f)
