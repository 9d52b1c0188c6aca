-- Document 02, "Modified Manchester input": a frame as clock cycles, and clock cycles as a frame.
use Rattle.timecode.specs.declared.Refusal.{Refusal}
use Rattle.std.specs.Prelude.{Bool, true, false, cond, ◌&&◌, ◌||◌, List, [], ◌∷◌, ◌++◌, ℕ, suc, ◌*◌, ◌-◌, ◌/◌, ◌%◌, leb, eqb, length, take, drop, replicate, Result, Err}
use Rattle.timecode.specs.Answers.{check, Check, checks, done}
use Rattle.timecode.specs.Calls.{within}
use Rattle.timecode.specs.Formats.{member, A, B, G, known, size}
use Rattle.timecode.specs.Frames.{left}
use Rattle.timecode.specs.Layout.{tabulate}
use Rattle.timecode.specs.declared.Format.{Format}
use Rattle.timecode.specs.declared.Refusal.TheVariants.{UnknownFormat, WrongLength, UnknownSymbol, InvalidCycleCount, UnknownCycle}

-- ---- what both calls ask

-- a format of A, B or G, with every expression that is known
unfoldable pub is_modulated : Format → Bool
is_modulated f = known f && member f.letter (A ∷ B ∷ G ∷ [])

-- M, the clock cycles of an element: a multiple of 10 from 10 to 100
unfoldable pub is_cycle_count : ℕ → Bool
is_cycle_count M = within 10 100 M && eqb (M % 10) 0

-- 1, 24, and 3 for a frame of so many symbols and so many cycles, before the answer
abbrev pub cycle_checks : Format → ℕ → ℕ → ℕ → List Check
cycle_checks f M symbols cycles =
    (UnknownFormat, is_modulated f)  -- 1
    ∷ (InvalidCycleCount, is_cycle_count M)  -- 24
    ∷ (WrongLength, eqb symbols (size f) && eqb cycles (size f * M))  -- 3
    ∷ []

unfoldable pub check_frame : Format → ℕ → ℕ → ℕ → Result Unit Refusal → Result Unit Refusal
check_frame f M symbols cycles answer = checks Err (cycle_checks f M symbols cycles) answer

-- ---- an element

-- A cycle is two half levels in a byte: 01 is high, 10 is low.
abbrev pub high : ℕ
high = 1

abbrev pub low : ℕ
low = 2

-- how many high cycles begin an element: M/5 of a zero, M/2 of a one, 4M/5 of a mark
unfoldable pub highs : ℕ → ℕ → ℕ
highs M s = cond (eqb s 0) (M / 5) (cond (eqb s 1) (M / 2) (4 * M / 5))

-- M cycles: high ones, then low ones
unfoldable pub element : ℕ → ℕ → List ℕ
element M s = replicate (highs M s) high ++ replicate (M - highs M s) low

-- ---- encoding

-- the cycles of symbols, element after element
unfoldable pub cycles_of : ℕ → List ℕ → List ℕ
cycles_of M [] = []
cycles_of M (s ∷ ss) = element M s ++ cycles_of M ss

-- no symbol is above 2
unfoldable pub unspoiled : List ℕ → Bool
unspoiled [] = true
unspoiled (s ∷ ss) = leb s 2 && unspoiled ss

unfoldable pub encode_of : Format → ℕ → List ℕ → List ℕ → Result Unit Refusal
encode_of f M frame lent = check_frame f M (length frame) (length lent) (check Err UnknownSymbol (unspoiled frame) done)  -- 4

-- the lent cycles afterwards
unfoldable pub encode_leaves : Format → ℕ → List ℕ → List ℕ → List ℕ
encode_leaves f M frame lent = left (encode_of f M frame lent) (cycles_of M frame) lent

-- ---- decoding

unfoldable pub same : List ℕ → List ℕ → Bool
same [] [] = true
same [] (y ∷ ys) = false
same (x ∷ xs) [] = false
same (x ∷ xs) (y ∷ ys) = eqb x y && same xs ys

-- the symbol whose element these cycles are; 3 for any other run
unfoldable pub symbol_in : ℕ → List ℕ → ℕ
symbol_in M cs =
    cond (same cs (element M 0)) 0
    (cond (same cs (element M 1)) 1
    (cond (same cs (element M 2)) 2 3))

-- the M cycles of element i
abbrev pub cycles_at : ℕ → List ℕ → ℕ → List ℕ
cycles_at M cs i = take M (drop (i * M) cs)

-- n symbols, each of its own M cycles
unfoldable pub symbols_in : ℕ → ℕ → List ℕ → List ℕ
symbols_in M n cs = tabulate n 0 (λ i. symbol_in M (cycles_at M cs i))

abbrev pub is_proper : ℕ → Bool
is_proper c = eqb c high || eqb c low

-- the first index of a cycle that is neither high nor low; the length where there is none
unfoldable pub first_improper : List ℕ → ℕ
first_improper [] = 0
first_improper (c ∷ cs) = cond (is_proper c) (suc (first_improper cs)) 0

unfoldable pub decode_of : Format → ℕ → List ℕ → List ℕ → Result Unit Refusal
decode_of f M cycles lent = check_frame f M (length lent) (length cycles) (check Err (UnknownCycle (first_improper cycles)) (leb (length cycles) (first_improper cycles)) done)  -- 25

-- the lent frame afterwards
unfoldable pub decode_leaves : Format → ℕ → List ℕ → List ℕ → List ℕ
decode_leaves f M cycles lent = left (decode_of f M cycles lent) (symbols_in M (size f) cycles) lent
