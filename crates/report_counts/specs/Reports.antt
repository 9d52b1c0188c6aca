-- The reports of a whole recording, as the answers to the list of Feeds that it is; and how often a symbol stands in it.
use Rattle.timecode.specs.declared.Refusal.{Refusal}
use Rattle.std.specs.Prelude.{Bool, true, false, List, [], ◌∷◌, reverse, ℕ, suc, ◌+◌, eqb, Option, Some, None, Result, Ok, Err}
use Rattle.timecode.specs.declared.Answer.{Answer}
use Rattle.timecode.specs.declared.Answer.TheVariants.{Quiet, Report}
use Rattle.timecode.specs.declared.Format.{Format}
use Rattle.stream.specs.Feeding.{next_of, answer_of, made_of}
use Rattle.stream.specs.Refinement.{answers}
use Rattle.stream.specs.declared.Reader.{Reader}
use Rattle.report_counts.specs.declared.Reported.{Reported}

-- a recording as it stands, or backwards
abbrev pub directed : Bool → List ℕ → List ℕ
directed true ss = reverse ss
directed false ss = ss

-- the answer to one Feed, with the reader after it, or what comes later
abbrev pub reported_by : Answer → ℕ → Reader → Option Reported → Option Reported
reported_by (Report t w) i next later = Some (record { index = i; time = t; reader = next })
reported_by Quiet i next later = later
reported_by (Answer.Refused x) i next later = later

-- the first report that a list of Feeds brings, the first of them at index i
unfoldable pub first_report : Reader → ℕ → List ℕ → Option Reported
first_report r i [] = None
first_report r i (s ∷ ss) = reported_by (answer_of r s) i (next_of r s) (first_report (next_of r s) (suc i) ss)

-- 1 for a report
abbrev pub is_report : Answer → ℕ
is_report (Report t w) = 1
is_report Quiet = 0
is_report (Answer.Refused x) = 0

unfoldable pub reports_among : List Answer → ℕ
reports_among [] = 0
reports_among (a ∷ as') = is_report a + reports_among as'

-- how many reports a list of Feeds brings
unfoldable pub reports_of : Reader → List ℕ → ℕ
reports_of r ss = reports_among (answers r ss)

-- from a fresh reader of setting 2; none in a format that there is not
abbrev pub reports_from : Result Reader Refusal → List ℕ → ℕ
reports_from (Ok r) ss = reports_of r ss
reports_from (Err x) ss = 0

unfoldable pub reports_in : Format → List ℕ → ℕ
reports_in f ss = reports_from (made_of f 2) ss

-- how often a symbol stands in a list
abbrev pub count_if : Bool → ℕ
count_if true = 1
count_if false = 0

unfoldable pub times_of : ℕ → List ℕ → ℕ
times_of s [] = 0
times_of s (x ∷ xs) = count_if (eqb x s) + times_of s xs
