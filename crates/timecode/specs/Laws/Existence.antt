-- There are generators: of every format, from every time that Write takes, with any control words that it takes, of any length; and each goes on by any step.
use Rattle.std.specs.Prelude.{List, [], ◌∷◌, ℕ}
use Rattle.timecode.specs.Frames.{second_added, following, Sent}
use Rattle.timecode.specs.Laws.Stepping.{length_for}
use Rattle.timecode.specs.declared.Format.{Format}
use Rattle.timecode.specs.declared.Time.{Time}

-- the step with 366 given, on a day with a second added, which takes every time
abbrev pub after : Format → Time → Time
after f t = following f t (length_for f t 366) second_added

-- frames from t on, with these control words, stepping so
unfoldable pub frames : Format → Time → List ℕ → List Sent
frames f t [] = []
frames f t (w ∷ ws) = record { time = t; control = w } ∷ frames f (after f t) ws
