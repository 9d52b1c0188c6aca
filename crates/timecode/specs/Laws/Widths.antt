-- The classifier's settings: 5, 5, 5 give document 01's symbols, classes of at most 14 percent never meet, a symbol is given exactly where period and width are in its class, and the deviation is within the setting.
use Rattle.std.specs.Prelude.{◌≡◌, ℕ, ◌+◌, ◌*◌, ◌≤◌, get_or}
use Rattle.timecode.specs.Calls.{classes}
use Rattle.timecode.specs.declared.WidthClass.{WidthClass}
use Rattle.timecode.specs.declared.WidthSettings.{WidthSettings}

-- ---- the classes

-- the class of a symbol below 3
abbrev pub class_of : WidthSettings → ℕ → WidthClass
class_of s i = get_or (classes s) i (record { symbol = 3; centre = 0; setting = 0 })

-- what holds of each class of settings in range
pub record ClassOf (c : WidthClass) (i : ℕ) : Type 0 where
  pub symbol_is : c.symbol ≡ i
  pub centre_is : c.centre ≡ 20 + 30 * i
  pub small : c.setting ≤ 14
