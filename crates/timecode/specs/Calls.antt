-- Document 01, "Classifier, difference, scan, program": what the classifier, Difference and Scan answer.
use Rattle.timecode.specs.declared.Found.{Found}
use Rattle.timecode.specs.declared.Refusal.{Refusal}
use Rattle.std.specs.Prelude.{◌≡◌, Bool, true, false, cond, ◌&&◌, List, [], ◌∷◌, ◌++◌, map, ℕ, zero, suc, ◌+◌, ◌*◌, ◌-◌, ◌<◌, ◌≤◌, leb, eqb, ℤ, pos, ◌+ℤ◌, ◌-ℤ◌, ◌*ℤ◌, get_or, length, take, drop, Result, Ok, Err, Option}
use Rattle.timecode.specs.Answers.{Check, check, checks, accepted, done, found_frame, none_found}
use Rattle.timecode.specs.Formats.{is_x, known, size, last_day, day_length, in_range}
use Rattle.timecode.specs.Frames.{left, read_of}
use Rattle.timecode.specs.Stream.{lead}
use Rattle.timecode.specs.declared.Format.{Format}
use Rattle.timecode.specs.declared.Pulse.{Pulse}
use Rattle.timecode.specs.declared.Reading.{Reading}
use Rattle.timecode.specs.declared.Refusal.TheVariants.{UnknownFormat, InvalidTime, WrongLength, InvalidInterval, StartPastEnd, InvalidWidthSetting}
use Rattle.timecode.specs.declared.Time.{Time}
use Rattle.timecode.specs.declared.WidthClass.{WidthClass}
use Rattle.timecode.specs.declared.WidthSettings.{WidthSettings}

-- ---- Classifier, with document 02's width settings and deviation

-- x is from a to b, ends included
abbrev pub within : ℕ → ℕ → ℕ → Bool
within a b x = leb a x && leb x b

-- number 10: T, the nominal element interval, is 100 to 10,000,000 counter ticks
unfoldable pub is_interval : ℕ → Bool
is_interval T = within 100 10000000 T

-- number 16: each setting is 1 to 14 percent of T
unfoldable pub are_width_settings : WidthSettings → Bool
are_width_settings s = within 1 14 s.zeros && (within 1 14 s.ones && within 1 14 s.marks)

-- the classes, each with its symbol, its centre and its setting
abbrev class : ℕ → ℕ → ℕ → WidthClass
class symbol centre setting = record { symbol = symbol; centre = centre; setting = setting }

unfoldable pub classes : WidthSettings → List WidthClass
classes s = class 0 20 s.zeros ∷ class 1 50 s.ones ∷ class 2 80 s.marks ∷ []

-- 100w is at most that percentage of T from the class's centre
abbrev pub in_class : WidthClass → ℕ → ℕ → Bool
in_class c T width = within ((c.centre - c.setting) * T) ((c.centre + c.setting) * T) (100 * width)

-- a pulse in a class has its symbol, and as deviation 100w less the centre's part of T, with its sign
abbrev pub pulse_in : WidthClass → ℕ → ℕ → Pulse
pulse_in c T width = record { symbol = c.symbol; deviation = pos (100 * width) -ℤ pos (c.centre * T) }

abbrev pub spoiled_pulse : Pulse
spoiled_pulse = record { symbol = 3; deviation = pos 0 }

unfoldable pub pulse_among : List WidthClass → ℕ → ℕ → Pulse
pulse_among [] T width = spoiled_pulse
pulse_among (c ∷ cs) T width = cond (in_class c T width) (pulse_in c T width) (pulse_among cs T width)

-- 100p is from 95T to 105T
abbrev pub is_period : ℕ → ℕ → Bool
is_period T period = within (95 * T) (105 * T) (100 * period)

-- With such a period a pulse is that of its width's class; all else is spoiled.
unfoldable pub pulse_of : WidthSettings → ℕ → ℕ → ℕ → Pulse
pulse_of s T width period = cond (is_period T period) (pulse_among (classes s) T width) spoiled_pulse

-- one pulse: 10, then 16
abbrev pub pulse_checks : WidthSettings → ℕ → List Check
pulse_checks s T =
    (InvalidInterval, is_interval T)  -- 10
    ∷ (InvalidWidthSetting, are_width_settings s)  -- 16
    ∷ []

unfoldable pub classify_of : WidthSettings → ℕ → ℕ → ℕ → Result Pulse Refusal
classify_of s T width period = checks Err (pulse_checks s T) (Ok (pulse_of s T width period))

-- pulse by pulse
unfoldable pub pulses_of : WidthSettings → ℕ → List ℕ → List ℕ → List Pulse
pulses_of s T [] periods = []
pulses_of s T (w ∷ ws) [] = []
pulses_of s T (w ∷ ws) (p ∷ ps) = pulse_of s T w p ∷ pulses_of s T ws ps

-- over lists 10, 16, then 3: all four of one length
abbrev pub pulse_list_checks : WidthSettings → ℕ → List ℕ → List ℕ → List ℕ → List ℤ → List Check
pulse_list_checks s T widths periods symbols deviations =
    pulse_checks s T
    ++ ((WrongLength, eqb (length widths) (length symbols) && (eqb (length periods) (length symbols) && eqb (length deviations) (length symbols)))  -- 3
    ∷ [])

unfoldable pub classify_list_of : WidthSettings → ℕ → List ℕ → List ℕ → List ℕ → List ℤ → Result Unit Refusal
classify_list_of s T widths periods symbols deviations = checks Err (pulse_list_checks s T widths periods symbols deviations) done

-- the lent symbols and the lent deviations afterwards
unfoldable pub symbols_left : WidthSettings → ℕ → List ℕ → List ℕ → List ℕ → List ℤ → List ℕ
symbols_left s T widths periods symbols deviations = left (classify_list_of s T widths periods symbols deviations) (map (λ p. p.symbol) (pulses_of s T widths periods)) symbols

unfoldable pub deviations_left : WidthSettings → ℕ → List ℕ → List ℕ → List ℕ → List ℤ → List ℤ
deviations_left s T widths periods symbols deviations = left (classify_list_of s T widths periods symbols deviations) (map (λ p. p.deviation) (pulses_of s T widths periods)) deviations

-- Document 01's symbol, with its own tolerances: with 100p from 95T to 105T, 100w from 15T to 25T gives 0, 45T to 55T gives 1, 75T to 85T gives 2; all else 3.
unfoldable pub symbol_before : ℕ → ℕ → ℕ → ℕ
symbol_before T width period =
    cond (within (95 * T) (105 * T) (100 * period))
    (cond (within (15 * T) (25 * T) (100 * width)) 0
    (cond (within (45 * T) (55 * T) (100 * width)) 1
    (cond (within (75 * T) (85 * T) (100 * width)) 2 3)))
    3

-- the settings that give it
abbrev pub five_percent : WidthSettings
five_percent = record { zeros = 5; ones = 5; marks = 5 }

-- ---- Difference: 8,640,000 times the days' difference, plus the c's; number 2 for a range, never for a grid. It passes over the years.

unfoldable pub difference_of : Time → Time → Result ℤ Refusal
difference_of t u =
    check Err InvalidTime (in_range last_day t && in_range last_day u)  -- 2
    (Ok (pos day_length *ℤ (pos t.day -ℤ pos u.day) +ℤ (pos t.hundredths -ℤ pos u.hundredths)))

-- ---- Scan

-- the part from a to a + n
unfoldable pub part_at : Format → List ℕ → ℕ → List ℕ
part_at f recording a = take (size f) (drop a recording)

-- the lead of a frame that begins at a: element a - 1 is a mark; an X frame needs none
unfoldable pub lead_at : Format → List ℕ → ℕ → Bool
lead_at f recording a = cond (is_x f) true (eqb (get_or recording (a - 1) 0) 2)

-- a is found where its lead stands and the frame beginning at a is accepted; else the places after it are looked at
abbrev pub found : Bool → Result Reading Refusal → ℕ → Result (Option Found) Refusal → Result (Option Found) Refusal
found true (Ok read) a after = found_frame a read.time read.control
found true (Err r) a after = after
found false reading a after = after

-- the lowest of k places, a the first of them
unfoldable pub lowest_of : Format → List ℕ → ℕ → ℕ → Result (Option Found) Refusal
lowest_of f recording zero a = none_found
lowest_of f recording (suc k) a = found (lead_at f recording a) (read_of f (part_at f recording a)) a (lowest_of f recording k (suc a))

-- at least 1 (in X 0), so that there is room for the lead, and at least the start
unfoldable pub first_place : Format → ℕ → ℕ
first_place f start = cond (leb (lead f) start) start (lead f)

-- Scan checks 1, 12; a frame at a has room where a + n is at most the recording's length.
abbrev pub scan_checks : Format → List ℕ → ℕ → List Check
scan_checks f recording start =
    (UnknownFormat, known f)  -- 1
    ∷ (StartPastEnd, leb start (length recording))  -- 12
    ∷ []

unfoldable pub scan_of : Format → List ℕ → ℕ → Result (Option Found) Refusal
scan_of f recording start = checks Err (scan_checks f recording start) (lowest_of f recording (length recording + 1 - (first_place f start + size f)) (first_place f start))

-- element a - 1 is a mark, except in X, and the frame beginning at a is accepted
pub record FrameAt (f : Format) (recording : List ℕ) (a : ℕ) (t : Time) (w : ℕ) : Type 0 where
  pub lead_stands : lead_at f recording a ≡ true
  pub frame : read_of f (part_at f recording a) ≡ accepted t w

-- a is at least 1 (in X 0) and at least the start, and a frame is found there
pub record FoundAt (f : Format) (recording : List ℕ) (start a : ℕ) (t : Time) (w : ℕ) : Type 0 where
  pub first : lead f ≤ a
  pub from : start ≤ a
  pub fits : FrameAt f recording a t w

-- Scan passes its checks
pub record Looks (f : Format) (recording : List ℕ) (start : ℕ) : Type 0 where
  pub format : known f ≡ true
  pub inside : start ≤ length recording

-- the lowest such a
pub record LowestAt (f : Format) (recording : List ℕ) (start a : ℕ) (t : Time) (w : ℕ) : Type 0 where
  pub looks : Looks f recording start
  pub found : FoundAt f recording start a t w
  pub none_before : (b : ℕ) (u : Time) (v : ℕ) → b < a → FoundAt f recording start b u v → ⊥

-- there is no such a
pub record NowhereAt (f : Format) (recording : List ℕ) (start : ℕ) : Type 0 where
  pub looks : Looks f recording start
  pub none : (a : ℕ) (t : Time) (w : ℕ) → FoundAt f recording start a t w → ⊥
