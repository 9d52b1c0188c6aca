use Rattle.listeners.specs.Indexes.{every_index}
use Rattle.timecode.specs.Stream.{is_setting}
use Prim.Native.Nat.{◌-◌}
use lib.ListN.{get_or, length}
use mathlib.Core.Path.{◌≡◌}
use Rattle.listeners.proofs.settings_fit.Given as goal

abbrev pub invariant-loop-setting : goal.invariant-loop-setting
invariant-loop-setting l = (every_index (λ i. is_setting (get_or l.settings i 0)) (length l.settings - 0) 0 ≡ every_index (λ i. is_setting (get_or l.settings i 0)) (length l.settings - l.setting-index) l.setting-index)
