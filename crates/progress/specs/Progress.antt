-- What timeread keeps from one read to the next, what each Feed makes of it, and what is printed meanwhile.
use Rattle.std.specs.Prelude.{true, false, cond, List, [], ◌∷◌, ◌++◌, ℕ, zero, suc, ltb}
use Rattle.timecode.specs.Answers.{refusal_number}
use Rattle.timecode.specs.declared.Answer.{Answer}
use Rattle.timecode.specs.declared.Answer.TheVariants.{Quiet, Report}
use Rattle.lines.specs.Text.{report_line, refused_line}
use Rattle.stream.specs.Feeding.{next_of, answer_of}
use Rattle.stream.specs.declared.Reader.{Reader}
use Rattle.progress.specs.declared.Progress.{Progress}

-- no refusal yet
abbrev pub running_at : Reader → ℕ → ℕ → Progress
running_at r elements reports = record { reader = r; elements = elements; reports = reports; ended = false }

-- a count of 64 bits stays at its end
unfoldable pub one_more : ℕ → ℕ
one_more k = cond (ltb k 18446744073709551615) (suc k) k

-- a count so many times more
unfoldable pub more_by : ℕ → ℕ → ℕ
more_by zero e = e
more_by (suc k) e = more_by k (one_more e)

-- an answer, with the reader that came with it; a refusal ends the listing
abbrev pub answered : Progress → Reader → Answer → Progress
answered p r Quiet = running_at r (one_more p.elements) p.reports
answered p r (Report t w) = running_at r (one_more p.elements) (one_more p.reports)
answered p r (Answer.Refused x) = record { reader = r; elements = p.elements; reports = p.reports; ended = true }

-- the line of an answer, if any
abbrev pub answer_line : ℕ → Answer → List ℕ
answer_line element Quiet = []
answer_line element (Report t w) = report_line element t w
answer_line element (Answer.Refused x) = refused_line (refusal_number x)

-- one Feed more: after the end it changes nothing
unfoldable pub after_feed : Progress → ℕ → Progress
after_feed p s = cond p.ended p (answered p (next_of p.reader s) (answer_of p.reader s))

unfoldable pub feed_line : Progress → ℕ → List ℕ
feed_line p s = cond p.ended [] (answer_line (after_feed p s).elements (answer_of p.reader s))

-- a list of Feeds
unfoldable pub after_feeds : Progress → List ℕ → Progress
after_feeds p [] = p
after_feeds p (s ∷ ss) = after_feeds (after_feed p s) ss

unfoldable pub text_feeds : Progress → List ℕ → List ℕ
text_feeds p [] = []
text_feeds p (s ∷ ss) = feed_line p s ++ text_feeds (after_feed p s) ss
