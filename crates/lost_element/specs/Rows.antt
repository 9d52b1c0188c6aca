-- Worked windows of four frames from 00:00:00 on with one element lost or put in: each place that AfterLoss and AfterPutIn name does occur, and the places beside it do not.
use Rattle.std.specs.Prelude.{List, [], ◌∷◌, ℕ, ◌*◌, take, drop}
use Rattle.timecode.specs.Formats.{H, X, interval}
use Rattle.timecode.specs.Frames.{Sent, elements}
use Rattle.timecode.specs.Layout.{control}
use Rattle.timecode.specs.Stream.{plain_answer}
use Rattle.timecode.specs.declared.Answer.{Answer}
use Rattle.timecode.specs.declared.Answer.TheVariants.{Quiet, Report}
use Rattle.timecode.specs.declared.Format.{Format}
use Rattle.lost_element.specs.LostElement.{left_out, put_in}

abbrev x2 : Format
x2 = record { letter = X; expression = 2 }

abbrev h1 : Format
h1 = record { letter = H; expression = 1 }

-- a frame of day 1 at c
abbrev frame_at : ℕ → Sent
frame_at c = record { time = record { year = 0; day = 1; hundredths = c }; control = 0 }

-- n elements after the first `start` of four frames
abbrev consecutive : Format → ℕ → ℕ → List ℕ
consecutive f start n = take n (drop start (elements f (frame_at 0 ∷ frame_at (interval f) ∷ frame_at (2 * interval f) ∷ frame_at (3 * interval f) ∷ [])))

-- c of the time reported; 1, which is no frame's, where none is
abbrev pub hundredths_of : Answer → ℕ
hundredths_of (Report t w) = t.hundredths
hundredths_of Quiet = 1
hundredths_of (Answer.Refused r) = 1

unfoldable pub windows : List Answer
windows =
    -- X with k = 2: lost are the element before the window and the one behind it, but not a frame's first mark
    plain_answer x2 2 (left_out 0 (consecutive x2 24 51))
    ∷ plain_answer x2 2 (left_out 50 (consecutive x2 0 51))
    ∷ plain_answer x2 2 (left_out 25 (consecutive x2 0 51))
    -- a mark put in for the first, and a 3 among the last four, but not before these and no other symbol
    ∷ plain_answer x2 2 (put_in 0 2 (consecutive x2 1 49))
    ∷ plain_answer x2 2 (put_in 46 3 (consecutive x2 0 49))
    ∷ plain_answer x2 2 (put_in 49 3 (consecutive x2 0 49))
    ∷ plain_answer x2 2 (put_in 45 3 (consecutive x2 0 49))
    ∷ plain_answer x2 2 (put_in 46 1 (consecutive x2 0 49))
    -- with k = 3
    ∷ plain_answer x2 3 (left_out 0 (consecutive x2 24 76))
    ∷ plain_answer x2 3 (put_in 71 3 (consecutive x2 0 74))
    -- H: the last mark lost, with the next frame's first in its place, but not the first frame's first mark; a mark put in for the one before the window, and for the last
    ∷ plain_answer h1 2 (left_out 120 (consecutive h1 59 122))
    ∷ plain_answer h1 2 (left_out 1 (consecutive h1 59 122))
    ∷ plain_answer h1 2 (put_in 0 2 (consecutive h1 60 120))
    ∷ plain_answer h1 2 (put_in 120 2 (consecutive h1 59 120))
    ∷ []
