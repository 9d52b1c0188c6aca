-- Numbers in bytes, stated once over the width: as many bytes as the width, and back.
use Rattle.std.specs.Prelude.{List, ℕ, ◌<◌, get_or}

-- every element is a byte
abbrev pub Bytes : List ℕ → Type 0
Bytes bs = (i : ℕ) → get_or bs i 0 < 256
