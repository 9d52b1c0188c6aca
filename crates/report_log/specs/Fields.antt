-- Fields written and read, by induction over a list of any fields: what is written is read as it was, and what is read was written so.
use Rattle.std.specs.Prelude.{◌≡◌, List, [], ◌∷◌, ℕ, ◌^◌, ◌<◌, take}
use Rattle.report_log.specs.Log.{Field, map_of, changed_of, size_of, read_fields}

-- each number fits its width
abbrev pub Fit : List Field → Type 0
Fit [] = Unit
Fit (f ∷ fs) = (f.now < 256 ^ f.width) × Fit fs

-- a field that is still to be read
abbrev pub reset : Field → Field
reset f = record { width = f.width; before = f.before; now = f.before }

abbrev pub resets : List Field → List Field
resets [] = []
resets (f ∷ fs) = reset f ∷ resets fs

-- ---- the map's lowest bit, and the bits above

-- what the fields read from some bytes are
pub record Read (fs : List Field) (m : ℕ) (bytes : List ℕ) : Type 0 where
  pub map_is : map_of (read_fields fs m bytes) ≡ m
  pub changed_is : changed_of (read_fields fs m bytes) ≡ take (size_of fs m) bytes
