-- Document 02, "One element lost or put in", for every setting k: what holds of a list of Feeds from fresh and the list of their answers.
-- It holds of any answers that are the plain machine's (Streams.one-lost-or-put-in).
use Rattle.std.specs.Prelude.{◌≡◌, cond, List, ◌∷◌, ◌++◌, ◌⊎◌, ℕ, suc, ◌+◌, ◌*◌, ◌-◌, ◌<◌, ◌≤◌, get_or, length, take, drop}
use Rattle.timecode.specs.Formats.{is_x, size}
use Rattle.timecode.specs.Frames.{written, Sent, Generator, elements, sent_at}
use Rattle.timecode.specs.Stream.{lead, window_length, last_of, elements_of, IsElement, elements_up_to}
use Rattle.timecode.specs.declared.Answer.{Answer}
use Rattle.timecode.specs.declared.Answer.TheVariants.{Report}
use Rattle.timecode.specs.declared.Format.{Format}
use Rattle.timecode.specs.declared.Time.{Time}

-- the list with one element left out, the one after its first d
abbrev pub left_out : ℕ → List ℕ → List ℕ
left_out d xs = take d xs ++ drop (d + 1) xs

-- the list with one symbol put in after its first d
abbrev pub put_in : ℕ → ℕ → List ℕ → List ℕ
put_in d s xs = take d xs ++ (s ∷ drop d xs)

-- how many symbols at a frame's end are the same in every frame: the last mark, in X the four 3s
unfoldable pub alike_at_end : Format → ℕ
alike_at_end f = cond (is_x f) 4 1

-- A frame of the generator fills the last n, element for element, and t and w are its time and its control word.
pub record FillsLast (f : Format) (sent : List Sent) (received : List ℕ) (frame : ℕ) (t : Time) (w : ℕ) : Type 0 where
  pub inside : frame < length sent
  pub whole : last_of (size f) received ≡ written f (sent_at sent frame).time (sent_at sent frame).control
  pub time : t ≡ (sent_at sent frame).time
  pub control : w ≡ (sent_at sent frame).control

-- Of e symbols received, the generator's elements after its first `start` with the one after d of them left out, the last brings a report: which frame is reported, and where the lost element can have lain.
-- The frame ended with element number start + e, and what was lost is a later one or, except in X, its last mark, in whose place the next frame's first mark stands; or it ended with number start + e + 1, and what was lost came before the window. So of the window itself nothing but its last mark can be lost.
abbrev pub PlaceOfLoss : Format → ℕ → ℕ → ℕ → ℕ → ℕ → Type 0
PlaceOfLoss f k start d e frame = ((e ≤ d + lead f) × (start + e ≡ size f * suc frame)) ⊎ ((d + window_length f k ≤ e) × (start + e + 1 ≡ size f * suc frame))

pub record AfterLoss (f : Format) (k : ℕ) (sent : List Sent) (start d e : ℕ) (received : List ℕ) (t : Time) (w : ℕ) : Type 0 where
  pub frame : ℕ
  pub fills : FillsLast f sent received frame t w
  pub place : PlaceOfLoss f k start d e frame

-- The same with one symbol put in after d of them.
-- The frame ended with element number start + e, which was not received yet, and the symbol stands among those that end every frame alike or comes later; or it ended with number start + e - 1, and the symbol came before the first frame's second.
abbrev pub PlaceOfSymbol : Format → ℕ → ℕ → ℕ → ℕ → ℕ → Type 0
PlaceOfSymbol f k start d e frame = ((e ≤ d + alike_at_end f) × (start + e ≡ size f * suc frame)) ⊎ ((d + window_length f k ≤ e + lead f) × (start + e ≡ size f * suc frame + 1))

pub record AfterPutIn (f : Format) (k : ℕ) (sent : List Sent) (start d e : ℕ) (received : List ℕ) (t : Time) (w : ℕ) : Type 0 where
  pub frame : ℕ
  pub fills : FillsLast f sent received frame t w
  pub place : PlaceOfSymbol f k start d e frame

-- ---- the sentences. Feeds and answers are counted from 0; `none` stands for an answer past the last, which nothing asks for.

pub record OneLostOrPutIn (f : Format) (k : ℕ) (ss : List ℕ) (answers : List Answer) (none : Answer) : Type 0 where
  -- However the elements before were: if the last kn + 1 elements (in X kn) are consecutive ones of a generator with exactly one left out, a time reported is the generator's for the frame that fills the last n.
  pub one_lost : (sent : List Sent) → Generator f sent → (i : ℕ) → IsElement ss i → (before : List ℕ) (start d : ℕ) → d ≤ window_length f k → start + (window_length f k + 1) ≤ length (elements f sent)
      → elements_up_to ss i ≡ before ++ left_out d (take (window_length f k + 1) (drop start (elements f sent)))
      → (t : Time) (w : ℕ) → get_or answers i none ≡ Report t w → AfterLoss f k sent start d (window_length f k) (elements_up_to ss i) t w
  -- The same if they are consecutive ones with exactly one symbol put in, whichever and anywhere.
  pub one_put_in : (sent : List Sent) → Generator f sent → (i : ℕ) → IsElement ss i → (before : List ℕ) (start d s : ℕ) → d < window_length f k → start + (window_length f k - 1) ≤ length (elements f sent)
      → elements_up_to ss i ≡ before ++ put_in d s (take (window_length f k - 1) (drop start (elements f sent)))
      → (t : Time) (w : ℕ) → get_or answers i none ≡ Report t w → AfterPutIn f k sent start d (window_length f k) (elements_up_to ss i) t w
  -- The same of every report of a whole stream of a generator, joined at any element, refused Feeds among it, with one element left out
  pub one_lost_in_stream : (sent : List Sent) → Generator f sent → (start d : ℕ) → d < length (drop start (elements f sent)) → elements_of ss ≡ left_out d (drop start (elements f sent))
      → (i : ℕ) → IsElement ss i → (t : Time) (w : ℕ) → get_or answers i none ≡ Report t w → AfterLoss f k sent start d (length (elements_up_to ss i)) (elements_up_to ss i) t w
  -- or one symbol put in.
  pub one_put_in_stream : (sent : List Sent) → Generator f sent → (start d s : ℕ) → d ≤ length (drop start (elements f sent)) → elements_of ss ≡ put_in d s (drop start (elements f sent))
      → (i : ℕ) → IsElement ss i → (t : Time) (w : ℕ) → get_or answers i none ≡ Report t w → AfterPutIn f k sent start d (length (elements_up_to ss i)) (elements_up_to ss i) t w
