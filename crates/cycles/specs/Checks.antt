-- The checks of encoding and decoding taken apart: what a call that was done has passed, and what a refused one is refused with.
use Rattle.std.specs.Prelude.{◌≡◌, true, ℕ, ◌*◌}
use Rattle.timecode.specs.Formats.{size}
use Rattle.timecode.specs.declared.Format.{Format}
use Rattle.cycles.specs.Cycles.{is_modulated, is_cycle_count}

pub record Checked (f : Format) (M symbols cycles : ℕ) : Type 0 where
  pub format : is_modulated f ≡ true
  pub count : is_cycle_count M ≡ true
  pub elements : symbols ≡ size f
  pub all : cycles ≡ size f * M
