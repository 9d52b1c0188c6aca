-- Each struct's number and fields are those of its answer's result; the calendar refuses with no index, so the structs leave out no value.
use Rattle.calendar.specs.declared.Asked.{Asked}
use Rattle.timecode.specs.declared.Refusal.{Refusal}
use Rattle.std.specs.Prelude.{◌≡◌, refl, ◌&&◌, [], ◌∷◌, ℕ, ltb, pos, Result, Ok, Err, Option, Some, None}
use Rattle.timecode.specs.Answers.{time_values, written_result}
use Rattle.timecode.proofs.Laws.Tests.{by-test}
use Rattle.timecode.specs.declared.Time.{Time}
use Rattle.calendar.specs.Dates.{is_year, has_day, has_date, date_of, day_of, dated_result, counted_result}
use Rattle.calendar.specs.Moments.{earlier, is_hundredth, asked_result, asked}
use Rattle.calendar.specs.Windows.{moment_of, add_answer}
use Rattle.calendar.specs.declared.Date.{Date}
use Rattle.calendar.specs.declared.DateTime.{DateTime}
use Rattle.ffi.specs.Fields.{values_in}
use Rattle.ffi.proofs.Fields.{refusal-numbered}
use Rattle.ffi.specs.Indexes.{refused_values}
use Rattle.calendar_words.specs.CalendarStructs.{date_result_of, day_result_of, windows_result, ask_result_of}

pub date-number : (a : Result Date Refusal) → (date_result_of a).number ≡ (dated_result a).number
date-number (Ok d) = refl
date-number (Err x) = refl

pub date-values : (a : Result Date Refusal) → pos (date_result_of a).date.year ∷ pos (date_result_of a).date.month ∷ pos (date_result_of a).date.day ∷ [] ≡ values_in (dated_result a) (pos 0 ∷ pos 0 ∷ pos 0 ∷ [])
date-values (Ok d) = refl
date-values (Err x) = rw (refusal-numbered x)

pub day-number : (a : Result ℕ Refusal) → (day_result_of a).number ≡ (counted_result a).number
day-number (Ok d) = refl
day-number (Err x) = refl

pub day-values : (a : Result ℕ Refusal) → pos (day_result_of a).day ∷ [] ≡ values_in (counted_result a) (pos 0 ∷ [])
day-values (Ok d) = refl
day-values (Err x) = rw (refusal-numbered x)

windows-number : (mask : ℕ) (next : Option Time) → (windows_result mask next).number ≡ 0
windows-number mask (Some t) = refl
windows-number mask None = refl

pub ask-number : (a : Result Asked Refusal) → (ask_result_of a).number ≡ (asked_result a).number
ask-number (Ok a) = windows-number a.mask a.next
ask-number (Err x) = refl

-- the mask, and with follows the moment of the next start or end
pub ask-values : (mask : ℕ) (t : Time) → pos (ask_result_of (asked mask (Some t))).mask ∷ time_values (ask_result_of (asked mask (Some t))).next [] ≡ (asked_result (asked mask (Some t))).values
ask-values mask t = refl

pub ask-values-none : (mask : ℕ) → pos (ask_result_of (asked mask None)).mask ∷ [] ≡ (asked_result (asked mask None)).values
ask-values-none mask = refl

abbrev pub flag : Option Time → ℕ
flag (Some t) = 1
flag None = 0

pub ask-follows : (mask : ℕ) (f : Option Time) → (ask_result_of (asked mask f)).follows ≡ flag f
ask-follows mask (Some t) = refl
ask-follows mask None = refl

pub date-no-index : (year day : ℕ) → refused_values (dated_result (date_of year day)) ≡ []
unfolding date_of
date-no-index year day = by-test (is_year year) (λ a. rw a (by-test (has_day year day) (λ b. rw b) (λ b. rw b))) (λ a. rw a)

pub day-no-index : (d : Date) → refused_values (counted_result (day_of d)) ≡ []
unfolding day_of
day-no-index d = by-test (is_year d.year) (λ a. rw a (by-test (has_date d) (λ b. rw b) (λ b. rw b))) (λ a. rw a)

pub add-no-index : (count : ℕ) (s e : DateTime) → refused_values (written_result (add_answer count s e)) ≡ []
unfolding add_answer
add-no-index count s e =
    by-test (is_year s.date.year && is_year e.date.year)
    (λ a. rw a (by-test (is_hundredth s.hundredths && is_hundredth e.hundredths) (λ b. rw b (by-test (has_date s.date && has_date e.date) (λ d. rw d (by-test (ltb count 32 && earlier (moment_of s) (moment_of e)) (λ g. rw g) (λ g. rw g))) (λ d. rw d))) (λ b. rw b)))
    (λ a. rw a)
