-- The demands, stated over the definitions and proved for every format, time, control word, list and length.
use Rattle.std.specs.Prelude.{◌≡◌, refl, true, false, List, [], ◌∷◌, ◌++◌, ℕ, suc, ◌-◌, ◌/◌, ◌%◌, ◌^◌, ◌<◌, ◌≤◌, ℤ, get_or, length, take, drop, replicate, ◌↔◌, ◌⊎◌, Ok, Err, None}
use Rattle.std.proofs.Common.{sym, ap, ◌∙◌, subst, inl, inr, arith}
use Rattle.std.proofs.lemmas.List.{length-replicate}
use Rattle.std.proofs.Math.Nat.{zero-mod}
use Rattle.timecode.specs.Answers.{refusal_number, accepted, done}
use Rattle.timecode.specs.Calls.{classify_list_of, symbols_left, deviations_left}
use Rattle.timecode.specs.Editions.{with_year, without_year, time_in_year, nine_bits, forward_of, forward_leaves, backward_of, backward_leaves}
use Rattle.timecode.specs.Formats.{member, is_x, row_of, known, size, interval, carries_year, last_hundredth, day_length, year_carried, on_format, carries_leap, second_carried}
use Rattle.timecode.specs.Frames.{new_year, turn_day, year_lengths, length_in, usual, kinds, day_end, same_day, next_day, step_of, Follows, next_after, step_back_of, Precedes, write_of, write_leaves, read_of, Sent, Generator, sent_at, day_before, year_of_time_before, following, preceding, on_day, time_in, frame_checks, digit_checks}
use Rattle.timecode.specs.Laws.Back.{length_before}
use Rattle.timecode.proofs.Laws.Back.{step_back, checks-alike, back_step, back-on-format, follows-precedes, precedes-follows, any-length-back}
use Rattle.timecode.proofs.Laws.Checks.{accepted-taken, by-reading, all-refused-up-to}
use Rattle.timecode.proofs.Laws.Editions.{forward-done, forward-leaves, forward-reads, forward-back, back-forward, forward-keeps, backward-keeps, backward-year, with-without}
use Rattle.timecode.specs.Laws.Existence.{frames}
use Rattle.timecode.proofs.Laws.Existence.{length-frames, control-at, first-time, generator, goes_on}
use Rattle.timecode.proofs.Laws.Reading.{accepted-was-written, elements-up-to}
use Rattle.timecode.specs.Laws.Stepping.{length_for, Went, Lands}
use Rattle.timecode.proofs.Laws.Stepping.{step-on-format, next-follows, follows_next, usual-end, step-answers, year-range, day-end-range, refuses-alike, length-in, never-refuses-length, any-length, went, lands, year_is}
use Rattle.timecode.proofs.Laws.Table.{x-no-year, x-no-control}
use Rattle.timecode.proofs.Laws.Times.{last-range, year-none, only-day, is-on-format, is_carried, none-added, one-added}
use Rattle.timecode.proofs.Laws.Writing.{written-is-accepted, taken, takes, leaves}
use Rattle.timecode.specs.Layout.{second, minute, hour, filler, runs, control, number_in}
use Rattle.timecode.specs.declared.Format.{Format}
use Rattle.timecode.specs.declared.Reading.{Reading}
use Rattle.timecode.specs.declared.Refusal.TheVariants.{InvalidYearLength}
use Rattle.timecode.specs.declared.Refusal.{Refusal}
use Rattle.timecode.specs.declared.Time.{Time}
use Rattle.timecode.specs.declared.WidthSettings.{WidthSettings}
-- Theorems that stand whole in Laws, passed on.
-- Two times that follow one are the same, or day 1 and day 366 at midnight, or 23:59:59 or 23:59:60 and midnight in A, B or G.
pub use Rattle.timecode.proofs.Laws.Stepping.{two-that-follow}
-- Two that are not the same are written at least seven elements apart, whatever the control words.
pub use Rattle.timecode.proofs.Laws.Successors.{two-that-follow-are-apart}
-- Scan answers the lowest place, at least 1 (in X 0) and at least the start, where a mark stands before (in X anything or nothing) and Read accepts; None exactly if there is none.
pub use Rattle.timecode.proofs.Laws.Scanning.{scan-finds-the-lowest, scan-finds-none}
-- The classifier: settings 5, 5, 5 give document 01's symbols; no width is in two classes; a symbol below 3 is given exactly where the period and the width are in its class, whatever the order in which they are asked.
pub use Rattle.timecode.proofs.Laws.Widths.{as_before, classes-never-meet, pulse-in-its-class, symbol-exactly}
-- The deviation lies within the setting, that of a spoiled element is 0, and 32 bits hold every one.
pub use Rattle.timecode.proofs.Laws.Widths.{deviation-within, spoiled-without-deviation, deviation-bound}
use Rattle.timecode.specs.Demands.{Writes}

-- ---- Demand 1: a refusal leaves lent memory with the contents it had. Write, the converters and the classifier over lists set lent memory; Read, Step, Difference, the classifier for one pulse and Scan set none.

pub refused-write-leaves : (f : Format) (t : Time) (w : ℕ) (lent : List ℕ) (r : Refusal) → write_of f t w lent ≡ Err r → write_leaves f t w lent ≡ lent
unfolding write_leaves
refused-write-leaves f t w lent r h = rw h

pub refused-forward-leaves : (f : Format) (frame : List ℕ) (year : ℕ) (lent : List ℕ) (r : Refusal) → forward_of f frame year lent ≡ Err r → forward_leaves f frame year lent ≡ lent
unfolding forward_leaves
refused-forward-leaves f frame year lent r h = rw h

pub refused-backward-leaves : (f : Format) (frame lent : List ℕ) (r : Refusal) → backward_of f frame lent ≡ Err r → backward_leaves f frame lent ≡ lent
unfolding backward_leaves
refused-backward-leaves f frame lent r h = rw h

pub refused-list-leaves : (s : WidthSettings) (T : ℕ) (widths periods symbols : List ℕ) (deviations : List ℤ) (r : Refusal) → classify_list_of s T widths periods symbols deviations ≡ Err r
    → (symbols_left s T widths periods symbols deviations ≡ symbols) × (deviations_left s T widths periods symbols deviations ≡ deviations)
unfolding symbols_left deviations_left
refused-list-leaves s T widths periods symbols deviations r h = (rw h, rw h)

-- ---- Demand 2: a frame is accepted exactly when some time and control word are written so, and those are then the reading.

pub accepted-exactly-when-written : (f : Format) (bytes : List ℕ) (t : Time) (w : ℕ) → (read_of f bytes ≡ accepted t w) ↔ Writes f t w bytes
accepted-exactly-when-written f bytes t w = (
  λ h.
      let p = accepted-was-written f bytes t w h in
      record { takes_them = λ lent n. takes f t w lent p.0 n; leaves_them = λ lent n. leaves f t w lent (takes f t w lent p.0 n) ∙ p.1 },
  λ writes.
      let lent : List ℕ = replicate (size f) 0 in
      let n : length (replicate {A = ℕ} (size f) 0) ≡ size f = length-replicate (size f) 0 in
      let done = writes.takes_them lent n in
      ap (read_of f) (sym (writes.leaves_them lent n) ∙ leaves f t w lent done) ∙ written-is-accepted f t w (taken f t w lent done).0,
)

-- Read refuses exactly if no time and control word are written as those bytes.
pub refused-exactly-when-unwritten : (f : Format) (bytes : List ℕ) → ((r : Refusal) × (read_of f bytes ≡ Err r)) ↔ ((t : Time) (w : ℕ) → Writes f t w bytes → ⊥)
refused-exactly-when-unwritten f bytes = (
  λ refused t w writes. accepted-taken t w refused.0 (sym refused.1 ∙ (accepted-exactly-when-written f bytes t w).1 writes),
  λ none. by-reading (read_of f bytes) (λ x h. (x, h)) (λ t w h. absurd (none t w ((accepted-exactly-when-written f bytes t w).0 h))),
)

-- Read refuses with numbers up to 8 alone, never with 14.
pub read-refuses-up-to-8 : (f : Format) (frame : List ℕ) (r : Refusal) → read_of f frame ≡ Err r → refusal_number r ≤ 8
unfolding read_of
read-refuses-up-to-8 f frame r =
    all-refused-up-to 8 (frame_checks f frame) _ r refl
    (elements-up-to (filler f) (runs f) frame 0 _ r
    (all-refused-up-to 8 (digit_checks f frame) _ r refl
    (λ h. absurd (accepted-taken (time_in f frame) (number_in frame (control f)) r (sym h)))))

-- The added second is written and read as 23:59:60 and SBS 86,400.
pub added-second-is-the-61st : (c : ℕ) → day_length ≤ c → c ≤ last_hundredth → (hour c ≡ 23) × (minute c ≡ 59) × (second c ≡ 60) × (c / 100 ≡ 86400)
added-second-is-the-61st c a b = let d = one-added c a b in (d.2, d.1, d.0, omega arith)

-- Before it seconds, minutes and hours are those of 86,400 seconds.
pub other-seconds-are-usual : (c : ℕ) → c < day_length → (hour c ≡ c / 100 / 60 / 60) × (minute c ≡ c / 100 / 60 % 60) × (second c ≡ c / 100 % 60)
other-seconds-are-usual c h = let d = none-added c h in (d.2, d.1, d.0)

-- ---- Generators. What demand 3 says of them stands in Demand3.

-- Generators there are: of every format, from every first time and with all control words that Write takes.
pub generators-exist : (f : Format) (t : Time) (ws : List ℕ) → ((j : ℕ) → j < length ws → (lent : List ℕ) → length lent ≡ size f → write_of f t (get_or ws j 0) lent ≡ done)
    → (sent : List Sent) × Generator f sent × (length sent ≡ length ws) × (0 < length ws → (sent_at sent 0).time ≡ t) × ((j : ℕ) → (sent_at sent j).control ≡ get_or ws j 0)
generators-exist f t ws h = (
  frames f t ws,
  generator f t ws (λ j b. (taken f t (get_or ws j 0) (replicate (size f) 0) (h j b (replicate (size f) 0) (length-replicate (size f) 0))).0),
  length-frames f t ws,
  first-time f t ws,
  control-at f t ws,
)

-- Each goes on with any time that follows its last one, so with any year length and kind that Step takes, and with any control word that Write takes.
pub generators-go-on : (f : Format) (sent : List Sent) (s : Sent) → Generator f sent → 0 < length sent → Follows f (sent_at sent (length sent - 1)).time s.time
    → ((lent : List ℕ) → length lent ≡ size f → write_of f (sent_at sent 0).time s.control lent ≡ done) → Generator f (sent ++ (s ∷ []))
generators-go-on f sent s = goes_on sent s f

-- ---- Step, for every kind of day: a step is a time that Write takes; next after is some step; the times that follow one, and how they differ.

pub step-stays-on-format : (f : Format) (t u : Time) → Follows f t u → (on_format f u ≡ true) × (second_carried f u ≡ true) × (year_carried f u.year ≡ true)
step-stays-on-format f t u s = let o = step-on-format f t u s in (is-on-format f u o, is_carried f u o, o.year_is)

-- D, E, H and X step as usual for every kind.
pub step-as-usual-without-leap : (f : Format) (t : Time) (given kind : ℕ) → carries_leap f ≡ false → member kind kinds ≡ true → step_of f t given kind ≡ step_of f t given usual
unfolding step_of on_day following
step-as-usual-without-leap f t given kind m h = rw (h, usual-end f kind m, usual-end f usual m)

pub next-after-exactly-when-some-step : (f : Format) (t u : Time) → (next_after f t u ≡ true) ↔ Follows f t u
next-after-exactly-when-some-step f t u = (next-follows f t u, follows_next f t u)

-- Up to three times follow one: the next frame of its day, and the first of the day after in a year of 365 or 366 days.
pub three-may-follow : (f : Format) (t u : Time) → Follows f t u → (u ≡ same_day f t) ⊎ ((u ≡ next_day f t 365) ⊎ (u ≡ next_day f t 366))
three-may-follow f t u s = go (lands f t length s.1 u w) (year_is length w.length_is)
  where
    length : ℕ
    length = length_for f t s.0

    w : Went f t length s.1 (following f t length s.1) u
    w = went f t s.0 s.1 u s.2

    go : Lands f t length s.1 u → (length ≡ 365) ⊎ (length ≡ 366) → (u ≡ same_day f t) ⊎ ((u ≡ next_day f t 365) ⊎ (u ≡ next_day f t 366))
    go (inl p) y = inl (sym p.0)
    go (inr p) (inl y) = inr (inl (sym p.0 ∙ ap (next_day f t) y))
    go (inr p) (inr y) = inr (inr (sym p.0 ∙ ap (next_day f t) y))

-- Two of them: two-that-follow and two-that-follow-are-apart, above.

-- ---- Step back, for every format, time, year length and kind of day that the first call takes: a step and then a step back returns the time, and so does the other order.

pub step-then-back : (f : Format) (t u : Time) (given kind : ℕ) → step_of f t given kind ≡ Ok u → step_back_of f u given kind ≡ Ok t
step-then-back f t u given kind = step_back f t given kind u

pub back-then-step : (f : Format) (t u : Time) (given kind : ℕ) → step_back_of f u given kind ≡ Ok t → step_of f t given kind ≡ Ok u
back-then-step f t u given kind = back_step f u given kind t

-- The checks are the step's: both refuse the same, with the same number.
pub back-refuses-as-step : (f : Format) (t : Time) (given kind : ℕ) (r : Refusal) → (step_back_of f t given kind ≡ Err r) ↔ (step_of f t given kind ≡ Err r)
unfolding step_of step_back_of
back-refuses-as-step f t given kind r = (
  λ h. refuses-alike f t after kind (preceding f t before kind) r (sym (checks-alike f t given kind (Ok (preceding f t before kind))) ∙ h) (Ok (following f t after kind)),
  λ h. checks-alike f t given kind (Ok (preceding f t before kind)) ∙ refuses-alike f t after kind (following f t after kind) r h (Ok (preceding f t before kind)),
)
  where
    before : ℕ
    before = length_before f t given

    after : ℕ
    after = length_for f t given

-- Day 1, c 0 goes to the last frame of the year before, whose length is the one given, or where the format carries the year its own; in X to the last frame of day 1.
pub first-frame-back-to-last : (f : Format) (year given kind : ℕ) → known f ≡ true → year_carried f year ≡ true → member given year_lengths ≡ true → member kind kinds ≡ true
    → step_back_of f (new_year year) given kind
    ≡ Ok (record { year = year_of_time_before f (new_year year); day = turn_day f (length_in f (year_of_time_before f (new_year year)) given); hundredths = day_end f kind - interval f })
unfolding step_back_of preceding day_before
first-frame-back-to-last f year given kind k y l m =
    let length = length-in f (year_of_time_before f (new_year year)) given l in
    step-answers f (new_year year) (length_before f (new_year year) given) kind k
    (record { year_is = y; first = omega arith; within_year = omega (arith, last-range f year); last = omega arith; below = omega arith; grid = zero-mod (interval f); carried = λ n. omega arith })
    length (year-range (length_before f (new_year year) given) length).0 m (omega (arith, day-end-range f kind))
    (Ok (record { year = year_of_time_before f (new_year year); day = turn_day f (length_before f (new_year year) given); hundredths = day_end f kind - interval f }))

-- Next after, read backwards, is some step back.
pub next-after-backwards : (f : Format) (t u : Time) → (next_after f t u ≡ true) ↔ Precedes f t u
next-after-backwards f t u = (λ h. follows-precedes f t u (next-follows f t u h), λ h. follows_next f t u (precedes-follows f t u h))

-- A step back is a time that Write takes.
pub back-stays-on-format : (f : Format) (t u : Time) → Precedes f t u → (on_format f t ≡ true) × (second_carried f t ≡ true) × (year_carried f t.year ≡ true)
back-stays-on-format f t u s = let o = back-on-format f t u s in (is-on-format f t o, is_carried f t o, o.year_is)

-- D, E, H and X step back as usual for every kind.
pub back-as-usual-without-leap : (f : Format) (t : Time) (given kind : ℕ) → carries_leap f ≡ false → member kind kinds ≡ true → step_back_of f t given kind ≡ step_back_of f t given usual
unfolding step_back_of on_day preceding
back-as-usual-without-leap f t given kind m h = rw (h, usual-end f kind m, usual-end f usual m)

-- A generator received in reverse: each frame's time is a step back of the one that was sent after it.
pub generators-run-backwards : (f : Format) (sent : List Sent) → Generator f sent → (j : ℕ) → suc j < length sent → Precedes f (sent_at sent j).time (sent_at sent (suc j)).time
generators-run-backwards f sent g j h = follows-precedes f (sent_at sent j).time (sent_at sent (suc j)).time (g.steps j h)

-- ---- The year. Demand 2, demand 3 and the theorems on both steps hold for every format, so for those with the year too.

-- Where the format carries the year, both steps take the year's own length and ignore one given.
pub given-length-ignored : (f : Format) (t : Time) (a b kind : ℕ) → carries_year f ≡ true → (step_of f t a kind ≡ step_of f t b kind) × (step_back_of f t a kind ≡ step_back_of f t b kind)
given-length-ignored f t a b kind y = (any-length f t a b kind y, any-length-back f t a b kind y)

-- So 11 never occurs there.
pub year-length-never-refused : (f : Format) (t : Time) (given kind : ℕ) → carries_year f ≡ true → step_of f t given kind ≡ Err InvalidYearLength → ⊥
year-length-never-refused = never-refuses-length

-- No false year with one element replaced: Demand3.no-false-year-with-one-replaced.

-- ---- X. Demand 2, demand 3 and the theorems on both steps hold for every format, so for X too.

-- What Read gives of an X frame: day 1 always, no year, no control bits.
pub x-is-day-1 : (f : Format) (bytes : List ℕ) (t : Time) (w : ℕ) → is_x f ≡ true → read_of f bytes ≡ accepted t w → (t.year ≡ 0) × (t.day ≡ 1) × (w ≡ 0)
x-is-day-1 f bytes t w x h =
    let v = (accepted-was-written f bytes t w h).0 in
    let room : w < 2 ^ 0 = rw (x-no-control f v.format x) at v.room in
    (year-none f t.year v.time.year_is (x-no-year f x), only-day f t v.time x, omega arith)

-- After every time of X comes one of day 1, and before it.
pub x-steps-to-day-1 : (f : Format) (t u : Time) → is_x f ≡ true → (Follows f t u → u.day ≡ 1) × (Precedes f t u → t.day ≡ 1)
x-steps-to-day-1 f t u x = (λ s. only-day f u (step-on-format f t u s) x, λ s. only-day f t (back-on-format f t u s) x)

-- ---- Converters. What they read, where they are done, stands in the frame that they leave.

-- Forward keeps every element but 50 to 58, so the 18 later control bits in place; the frame is read as the same day and hundredths in the year given.
pub forward-keeps-the-rest : (f : Format) (frame : List ℕ) (year : ℕ) (lent : List ℕ) → forward_of f frame year lent ≡ done
    → (take 50 (forward_leaves f frame year lent) ≡ take 50 frame) × (drop 59 (forward_leaves f frame year lent) ≡ drop 59 frame)
forward-keeps-the-rest = forward-keeps

pub forward-is-read : (f : Format) (frame : List ℕ) (year : ℕ) (lent : List ℕ) → forward_of f frame year lent ≡ done
    → (t : Time) × (w : ℕ) × (read_of f frame ≡ accepted t w) × (read_of (with_year f) (forward_leaves f frame year lent) ≡ accepted (time_in_year t year) (w / nine_bits))
forward-is-read f frame year lent h =
    let d = forward-done f frame year lent h in
    (d.time, d.word, d.reads, ap (read_of (with_year f)) (forward-leaves f frame year lent h d) ∙ forward-reads f frame year d)

-- Backward keeps every element but 50 to 58, and leaves these zero.
pub backward-keeps-the-rest : (f : Format) (frame lent : List ℕ) → backward_of f frame lent ≡ done
    → (take 50 (backward_leaves f frame lent) ≡ take 50 frame) × (drop 59 (backward_leaves f frame lent) ≡ drop 59 frame) × (take 9 (drop 50 (backward_leaves f frame lent)) ≡ replicate 9 0)
backward-keeps-the-rest f frame lent h =
    let g = with-without f (backward-year f frame lent h) in
    subst (λ (x : Format). backward_of x frame lent ≡ done
    → (take 50 (backward_leaves x frame lent) ≡ take 50 frame) × (drop 59 (backward_leaves x frame lent) ≡ drop 59 frame) × (take 9 (drop 50 (backward_leaves x frame lent)) ≡ replicate 9 0))
    g.1 (backward-keeps (without_year f) frame lent g.0) h

-- Forward and back gives the same frame,
pub forward-then-back : (f : Format) (frame : List ℕ) (year : ℕ) (lent again : List ℕ) → forward_of f frame year lent ≡ done → length again ≡ size f
    → (backward_of (with_year f) (forward_leaves f frame year lent) again ≡ done) × (backward_leaves (with_year f) (forward_leaves f frame year lent) again ≡ frame)
forward-then-back = forward-back

-- and so do back and forward, with the year that was dropped.
pub back-then-forward : (f : Format) (frame lent again : List ℕ) (t : Time) (w : ℕ) → read_of f frame ≡ accepted t w → backward_of f frame lent ≡ done → length again ≡ size f
    → (forward_of (without_year f) (backward_leaves f frame lent) t.year again ≡ done) × (forward_leaves (without_year f) (backward_leaves f frame lent) t.year again ≡ frame)
unfolding size row_of
back-then-forward f frame lent again t w reads h n =
    let g = with-without f (backward-year f frame lent h) in
    subst (λ (x : Format). read_of x frame ≡ accepted t w → backward_of x frame lent ≡ done
    → (forward_of (without_year f) (backward_leaves x frame lent) t.year again ≡ done) × (forward_leaves (without_year f) (backward_leaves x frame lent) t.year again ≡ frame))
    g.1 (λ r d. back-forward (without_year f) frame lent again t w g.0 r d n) reads h
