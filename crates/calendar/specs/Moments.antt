-- Document 02, "Test windows by date": moments in their order, windows, which of them hold a time, and what follows it.
use Rattle.calendar.specs.declared.Asked.{Asked}
use Rattle.timecode.specs.declared.Refusal.{Refusal}
use Rattle.std.specs.Prelude.{Bool, cond, not, ◌&&◌, List, [], ◌∷◌, ℕ, ◌+◌, ◌*◌, leb, ltb, eqb, ℤ, pos, Result, Ok, Err, Option, Some, None}
use Rattle.timecode.specs.Answers.{Outcome, success, refusal_result, time_values, checks}
use Rattle.timecode.specs.Formats.{last_hundredth}
use Rattle.timecode.specs.declared.Refusal.TheVariants.{InvalidTime, InvalidYear, InvalidDate}
use Rattle.timecode.specs.declared.Time.{Time}
use Rattle.calendar.specs.Dates.{is_year, has_day}
use Rattle.calendar.specs.declared.Window.{Window}

-- moments are ordered by year, day, then hundredth
unfoldable pub earlier : Time → Time → Bool
earlier t u =
    cond (eqb t.year u.year)
    (cond (eqb t.day u.day)
    (ltb t.hundredths u.hundredths)
    (ltb t.day u.day))
    (ltb t.year u.year)

-- the start belongs to a window and the end does not
unfoldable pub holds : Window → Time → Bool
holds w t = not (earlier t w.start) && earlier t w.end

-- bit 0 the first added
unfoldable pub mask_of : List Window → Time → ℕ
mask_of [] t = 0
mask_of (w ∷ ws) t = cond (holds w t) 1 0 + 2 * mask_of ws t

-- the starts and ends
unfoldable pub edges_of : List Window → List Time
edges_of [] = []
edges_of (w ∷ ws) = w.start ∷ w.end ∷ edges_of ws

-- the earlier of a moment and what was found
abbrev pub first_of : Time → Option Time → Option Time
first_of e (Some m) = cond (earlier e m) (Some e) (Some m)
first_of e None = Some e

-- a moment counts only after the time
unfoldable pub nearer : Time → Time → Option Time → Option Time
nearer t e found = cond (earlier t e) (first_of e found) found

unfoldable pub next_of : Time → List Time → Option Time
next_of t [] = None
next_of t (e ∷ es) = nearer t e (next_of t es)

-- number 2
abbrev pub is_hundredth : ℕ → Bool
is_hundredth c = leb c last_hundredth

-- the answer of a calendar that is asked
abbrev pub asked : ℕ → Option Time → Result Asked Refusal
asked mask next = Ok (record { mask = mask; next = next })

-- what windows answer a time
unfoldable pub ask_of : List Window → Time → Result Asked Refusal
ask_of ws t =
    checks Err
    ((InvalidYear, is_year t.year)  -- 17
    ∷ (InvalidTime, is_hundredth t.hundredths)  -- 2
    ∷ (InvalidDate, has_day t.year t.day)  -- 22
    ∷ [])
    (asked (mask_of ws t) (next_of t (edges_of ws)))

-- ---- what the answer says: the mask, and the moment of the next start or end where there is one

abbrev pub next_values : Option Time → List ℤ
next_values (Some t) = time_values t []
next_values None = []

abbrev pub asked_result : Result Asked Refusal → Outcome
asked_result (Ok a) = success (pos a.mask ∷ next_values a.next)
asked_result (Err x) = refusal_result x
