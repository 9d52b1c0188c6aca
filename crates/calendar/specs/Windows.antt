-- Document 02, "Test windows by date": a calendar, which keeps each moment as one number, and adding a window to it.
use Rattle.calendar.specs.declared.WindowKeys.{WindowKeys}
use Rattle.timecode.specs.declared.Refusal.{Refusal}
use Rattle.std.specs.Prelude.{◌&&◌, List, [], ◌∷◌, ℕ, ◌+◌, ◌*◌, ◌/◌, ◌%◌, ltb, take, set, replicate, Result, Ok, Err}
use Rattle.timecode.specs.Answers.{Check, checks, done}
use Rattle.timecode.specs.declared.Refusal.TheVariants.{InvalidTime, InvalidYear, InvalidWindow, InvalidDate}
use Rattle.timecode.specs.declared.Time.{Time}
use Rattle.calendar.specs.Dates.{is_year, has_date, day_number}
use Rattle.calendar.specs.Moments.{earlier, is_hundredth}
use Rattle.calendar.specs.declared.Added.{Added}
use Rattle.calendar.specs.declared.Calendar.{Calendar}
use Rattle.calendar.specs.declared.DateTime.{DateTime}
use Rattle.calendar.specs.declared.Window.{Window}

-- ---- a moment as one number, its key

unfoldable pub key_of : Time → ℕ
key_of t = (t.year * 65536 + t.day) * 4294967296 + t.hundredths

-- the moment of a key, whatever bits stand above it
unfoldable pub time_of : ℕ → Time
time_of k = record { year = k / 4294967296 / 65536 % 256; day = k / 4294967296 % 65536; hundredths = k % 4294967296 }

-- ---- the windows of a calendar; a count over 32 counts as 32

unfoldable pub windows_in : List ℕ → List ℕ → List Window
windows_in [] es = []
windows_in (s ∷ ss) [] = []
windows_in (s ∷ ss) (e ∷ es) = record { start = time_of s; end = time_of e } ∷ windows_in ss es

abbrev pub windows_of : Calendar → List Window
windows_of c = windows_in (take c.count c.starts) (take c.count c.ends)

-- to which nothing was added
abbrev pub empty_calendar : Calendar
empty_calendar = record { count = 0; starts = replicate 32 0; ends = replicate 32 0 }

-- ---- adding

abbrev pub moment_of : DateTime → Time
moment_of d = record { year = d.date.year; day = day_number d.date; hundredths = d.hundredths }

abbrev pub window_of : DateTime → DateTime → Window
window_of s e = record { start = moment_of s; end = moment_of e }

-- each number of the start and of the end, before the next number
abbrev pub window_checks : ℕ → DateTime → DateTime → List Check
window_checks count s e =
    (InvalidYear, is_year s.date.year && is_year e.date.year)  -- 17
    ∷ (InvalidTime, is_hundredth s.hundredths && is_hundredth e.hundredths)  -- 2
    ∷ (InvalidDate, has_date s.date && has_date e.date)  -- 22
    ∷ (InvalidWindow, ltb count 32 && earlier (moment_of s) (moment_of e))  -- 21
    ∷ []

unfoldable pub add_answer : ℕ → DateTime → DateTime → Result Unit Refusal
add_answer count s e = checks Err (window_checks count s e) done

abbrev pub with_window : Calendar → Window → Calendar
with_window c w = record { count = c.count + 1; starts = set c.starts c.count (key_of w.start); ends = set c.ends c.count (key_of w.end) }

-- a refusal hands back the calendar as it was
abbrev pub add_by : Result Unit Refusal → Calendar → Window → Added
add_by (Ok u) c w = record { calendar = with_window c w; answer = done }
add_by (Err r) c w = record { calendar = c; answer = Err r }

unfoldable pub add_of : Calendar → DateTime → DateTime → Added
add_of c s e = add_by (add_answer c.count s e) c (window_of s e)

abbrev pub keys : ℕ → ℕ → Result WindowKeys Refusal
keys start end = Ok (record { start = start; end = end })

-- the two keys of a window that is taken, or the refusal
abbrev pub keyed_by : Result Unit Refusal → Window → Result WindowKeys Refusal
keyed_by (Ok u) w = keys (key_of w.start) (key_of w.end)
keyed_by (Err r) w = Err r
