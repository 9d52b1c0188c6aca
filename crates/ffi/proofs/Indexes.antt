-- Read, the converters and decoding alone refuse with 5, 6 or 25: a struct without an index leaves out no value of a refusal.
use Rattle.timecode.specs.declared.Refusal.{Refusal}
use Rattle.timecode.specs.declared.Found.{Found}
use Rattle.timecode.specs.declared.Reading.{Reading}
use Rattle.std.specs.Prelude.{◌≡◌, refl, Bool, true, false, ◌&&◌, List, [], ℕ, zero, suc, ◌+◌, ◌*◌, ◌-◌, leb, eqb, ℤ, length, Result, Ok, Err, Option}
use Rattle.cycles.specs.Cycles.{is_modulated, is_cycle_count, check_frame, unspoiled, encode_of}
use Rattle.timecode.specs.Answers.{written_result, stepped_result, subtracted_result, classified_result, scanned_result}
use Rattle.timecode.specs.Calls.{is_interval, are_width_settings, classify_of, classify_list_of, difference_of, found, lead_at, lowest_of, scan_of, part_at, first_place}
use Rattle.timecode.specs.Formats.{known, size, last_day, year_carried, in_range, on_format, second_carried}
use Rattle.timecode.specs.Frames.{length_in, in_year, year_of_time_before, on_day, control_fits, step_of, step_back_of, write_of, read_of}
use Rattle.timecode.proofs.Laws.Tests.{by-test}
use Rattle.timecode.specs.declared.Format.{Format}
use Rattle.timecode.specs.declared.Time.{Time}
use Rattle.timecode.specs.declared.WidthSettings.{WidthSettings}
use Rattle.ffi.specs.Indexes.{refused_values}

pub write-no-index : (f : Format) (t : Time) (w : ℕ) (lent : List ℕ) → refused_values (written_result (write_of f t w lent)) ≡ []
unfolding write_of
write-no-index f t w lent = by-test (known f) (λ a. rw a (by-test (year_carried f t.year) (λ y. rw y (by-test (on_format f t) (λ b. rw b (by-test (second_carried f t) (λ d. rw d (by-test (control_fits f w) (λ g. rw g (by-test (eqb (length lent) (size f)) (λ h. rw h) (λ h. rw h))) (λ g. rw g))) (λ d. rw d))) (λ b. rw b))) (λ y. rw y))) (λ a. rw a)

pub step-no-index : (f : Format) (t : Time) (year kind : ℕ) → refused_values (stepped_result (step_of f t year kind)) ≡ []
unfolding step_of
step-no-index f t year kind = by-test (known f) (λ a. rw a (by-test (year_carried f t.year) (λ y. rw y (by-test (on_format f t) (λ b. rw b (by-test (second_carried f t) (λ d. rw d (by-test (in_year t (length_in f t.year year)) (λ g. rw g (by-test (on_day f t kind) (λ h. rw h) (λ h. rw h))) (λ g. rw g))) (λ d. rw d))) (λ b. rw b))) (λ y. rw y))) (λ a. rw a)

pub step-back-no-index : (f : Format) (t : Time) (year kind : ℕ) → refused_values (stepped_result (step_back_of f t year kind)) ≡ []
unfolding step_back_of
step-back-no-index f t year kind = by-test (known f) (λ a. rw a (by-test (year_carried f t.year) (λ y. rw y (by-test (on_format f t) (λ b. rw b (by-test (second_carried f t) (λ d. rw d (by-test (in_year t (length_in f (year_of_time_before f t) year)) (λ g. rw g (by-test (on_day f t kind) (λ h. rw h) (λ h. rw h))) (λ g. rw g))) (λ d. rw d))) (λ b. rw b))) (λ y. rw y))) (λ a. rw a)

pub difference-no-index : (t u : Time) → refused_values (subtracted_result (difference_of t u)) ≡ []
unfolding difference_of
difference-no-index t u = by-test (in_range last_day t && in_range last_day u) (λ a. rw a) (λ a. rw a)

pub classify-no-index : (s : WidthSettings) (T width period : ℕ) → refused_values (classified_result (classify_of s T width period)) ≡ []
unfolding classify_of
classify-no-index s T width period = by-test (is_interval T) (λ a. rw a (by-test (are_width_settings s) (λ b. rw b) (λ b. rw b))) (λ a. rw a)

pub classify-list-no-index : (s : WidthSettings) (T : ℕ) (widths periods symbols : List ℕ) (deviations : List ℤ) → refused_values (written_result (classify_list_of s T widths periods symbols deviations)) ≡ []
unfolding classify_list_of
classify-list-no-index s T widths periods symbols deviations =
    by-test (is_interval T)
    (λ a.
    rw a
    (by-test (are_width_settings s)
    (λ b. rw b (by-test (eqb (length widths) (length symbols) && (eqb (length periods) (length symbols) && eqb (length deviations) (length symbols))) (λ d. rw d) (λ d. rw d)))
    (λ b. rw b)))
    (λ a. rw a)

pub encode-no-index : (f : Format) (M : ℕ) (frame lent : List ℕ) → refused_values (written_result (encode_of f M frame lent)) ≡ []
unfolding encode_of check_frame
encode-no-index f M frame lent = by-test (is_modulated f) (λ a. rw a (by-test (is_cycle_count M) (λ b. rw b (by-test (eqb (length frame) (size f) && eqb (length lent) (size f * M)) (λ d. rw d (by-test (unspoiled frame) (λ e. rw e) (λ e. rw e))) (λ d. rw d))) (λ b. rw b))) (λ a. rw a)

found-no-index : (b : Bool) (r : Result Reading Refusal) (a : ℕ) (after : Result (Option Found) Refusal) → refused_values (scanned_result after) ≡ [] → refused_values (scanned_result (found b r a after)) ≡ []
found-no-index true (Ok read) a after h = refl
found-no-index true (Err x) a after h = h
found-no-index false (Ok read) a after h = h
found-no-index false (Err x) a after h = h

lowest-no-index : (f : Format) (recording : List ℕ) (k a : ℕ) → refused_values (scanned_result (lowest_of f recording k a)) ≡ []
unfolding lowest_of
lowest-no-index f recording zero a = refl
lowest-no-index f recording (suc k) a = found-no-index (lead_at f recording a) (read_of f (part_at f recording a)) a (lowest_of f recording k (suc a)) (lowest-no-index f recording k (suc a))

pub scan-no-index : (f : Format) (recording : List ℕ) (start : ℕ) → refused_values (scanned_result (scan_of f recording start)) ≡ []
unfolding scan_of
scan-no-index f recording start =
    by-test (known f)
    (λ a.
    rw a
    (by-test (leb start (length recording))
    (λ b. rw b (lowest-no-index f recording (length recording + 1 - (first_place f start + size f)) (first_place f start)))
    (λ b. rw b)))
    (λ a. rw a)
