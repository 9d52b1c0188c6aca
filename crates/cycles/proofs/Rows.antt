-- Worked rows: the elements at M = 10, other runs, the order of the refusals and number 25's index.
use Rattle.std.specs.Prelude.{◌≡◌, refl, [], ◌∷◌, map, replicate, Err}
use Rattle.timecode.specs.Formats.{known, row_of, look_up, table, size}
use Rattle.timecode.specs.declared.Refusal.TheVariants.{UnknownFormat, WrongLength, UnknownSymbol, InvalidCycleCount, UnknownCycle}
use Rattle.cycles.specs.Cycles.{is_modulated, is_cycle_count, check_frame, highs, element, same, symbol_in, unspoiled, encode_of, first_improper, decode_of}
use Rattle.cycles.specs.Rows.{zero10, one10, mark10, format}

pub elements : map (element 10) (0 ∷ 1 ∷ 2 ∷ []) ≡ zero10 ∷ one10 ∷ mark10 ∷ []
unfolding element highs
elements = refl

-- all low, all high, a one that begins low, a zero that returns to high, and seven high cycles
pub other-runs : map (symbol_in 10) (replicate 10 2 ∷ replicate 10 1 ∷ (2 ∷ 1 ∷ 1 ∷ 1 ∷ 1 ∷ 1 ∷ 2 ∷ 2 ∷ 2 ∷ 2 ∷ []) ∷ (1 ∷ 1 ∷ 2 ∷ 2 ∷ 2 ∷ 2 ∷ 2 ∷ 2 ∷ 2 ∷ 1 ∷ []) ∷ (1 ∷ 1 ∷ 1 ∷ 1 ∷ 1 ∷ 1 ∷ 1 ∷ 2 ∷ 2 ∷ 2 ∷ []) ∷ []) ≡ replicate 5 3
unfolding symbol_in same element highs
other-runs = refl

-- E, and G with expression 0, are 1 whatever else is wrong; then comes 24
pub format-first : map (λ f. encode_of f 15 (4 ∷ []) []) (format 69 1 ∷ format 71 0 ∷ format 71 1 ∷ []) ≡ Err UnknownFormat ∷ Err UnknownFormat ∷ Err InvalidCycleCount ∷ []
unfolding encode_of check_frame is_modulated is_cycle_count known row_of look_up table
format-first = refl

pub counts : map (λ M. encode_of (format 65 0) M [] []) (0 ∷ 5 ∷ 10 ∷ 15 ∷ 100 ∷ 110 ∷ 4294967295 ∷ [])
    ≡ Err InvalidCycleCount ∷ Err InvalidCycleCount ∷ Err WrongLength ∷ Err InvalidCycleCount ∷ Err WrongLength ∷ Err InvalidCycleCount ∷ Err InvalidCycleCount ∷ []
unfolding encode_of check_frame is_modulated is_cycle_count known size row_of look_up table
counts = refl

-- 4 for symbol 3; 25 with the first index, though another cycle is improper too
pub spoiled-symbol : encode_of (format 65 0) 10 (3 ∷ replicate 99 0) (replicate 1000 9) ≡ Err UnknownSymbol
unfolding encode_of check_frame is_modulated is_cycle_count known size row_of look_up table unspoiled
spoiled-symbol = refl

pub first-improper : decode_of (format 66 7) 10 (1 ∷ 1 ∷ 2 ∷ 2 ∷ 2 ∷ 2 ∷ 2 ∷ 3 ∷ replicate 992 0) (replicate 100 9) ≡ Err (UnknownCycle 7)
unfolding decode_of check_frame is_modulated is_cycle_count known size row_of look_up table first_improper
first-improper = refl
