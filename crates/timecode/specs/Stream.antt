-- Document 01, "Stream reader", with document 02's setting k: the plain machine, fed one symbol and a list of them.
use Rattle.timecode.specs.declared.Refusal.{Refusal}
use Rattle.timecode.specs.Answers.{accepted}
use Rattle.std.specs.Prelude.{◌≡◌, Bool, true, false, cond, ◌&&◌, List, [], ◌∷◌, ◌++◌, ℕ, zero, suc, ◌+◌, ◌*◌, ◌-◌, ◌<◌, ◌≤◌, leb, ltb, eqb, get_or, length, take, drop, replicate, Result, Ok, Err}
use Rattle.timecode.specs.Formats.{member, is_symbol, is_x, size}
use Rattle.timecode.specs.Frames.{next_after, read_of}
use Rattle.timecode.specs.declared.Answer.{Answer}
use Rattle.timecode.specs.declared.Answer.TheVariants.{Quiet, Report}
use Rattle.timecode.specs.declared.Format.{Format}
use Rattle.timecode.specs.declared.Reading.{Reading}
use Rattle.timecode.specs.declared.Refusal.TheVariants.{UnknownSymbol}
use Rattle.timecode.specs.declared.Time.{Time}

-- ---- the setting k: a report needs k accepted frames in a row

-- k is 2 to 5
unfoldable pub is_setting : ℕ → Bool
is_setting k = leb 2 k && leb k 5

-- document 01's reader asks for two frames
abbrev pub two_frames : ℕ
two_frames = 2

-- the marks before a window's first frame: how many, and that they stand there; X needs none
unfoldable pub lead : Format → ℕ
lead f = cond (is_x f) 0 1

unfoldable pub opens : Format → List ℕ → Bool
opens f window = cond (is_x f) true (eqb (get_or window 0 0) 2)

-- the window: kn + 1 symbols, in X kn
unfoldable pub window_length : Format → ℕ → ℕ
window_length f k = k * size f + lead f

-- frame j of a window, from 0: the n symbols after the mark and the frames before
unfoldable pub frame_in : Format → List ℕ → ℕ → List ℕ
frame_in f window j = take (size f) (drop (lead f + size f * j) window)

-- The first frame of a row: where it is accepted, the answer carries what Read gives for it.
abbrev pub first_in_row : Result Reading Refusal → Answer
first_in_row (Ok read) = Report read.time read.control
first_in_row (Err r) = Quiet

-- One frame more: where it is accepted, its time next after the one before, the answer carries what Read gives for it.
unfoldable pub next_in_row : Format → Answer → Result Reading Refusal → Answer
next_in_row f (Report t v) (Ok read) = cond (next_after f t read.time) (Report read.time read.control) Quiet
next_in_row f (Report t v) (Err r) = Quiet
next_in_row f Quiet reading = Quiet
next_in_row f (Answer.Refused r) reading = Quiet

-- the window's first k frames, all accepted, each time next after the one before: what Read gives for the last
unfoldable pub in_row : Format → List ℕ → ℕ → Answer
in_row f window zero = Quiet
in_row f window (suc zero) = first_in_row (read_of f (frame_in f window 0))
in_row f window (suc (suc m)) = next_in_row f (in_row f window (suc m)) (read_of f (frame_in f window (suc m)))

-- a symbol 2, except in X, and k such frames
unfoldable pub window_answer : Format → ℕ → List ℕ → Answer
window_answer f k window = cond (opens f window) (in_row f window k) Quiet

-- Document 01's two frames: Report if both are accepted and the second's time is next after the first's; it carries what Read gives for the second.
-- It is the row of two (Laws.Windows.two-frames).
unfoldable pub confirm : Format → Result Reading Refusal → Result Reading Refusal → Answer
confirm f (Ok read) (Ok second) = cond (next_after f read.time second.time) (Report second.time second.control) Quiet
confirm f (Ok read) (Err r) = Quiet
confirm f (Err r) second = Quiet

-- the last n of a list
unfoldable pub last_of : ℕ → List ℕ → List ℕ
last_of n xs = drop (length xs - n) xs

-- the answer to the newest of the symbols received
unfoldable pub plain_answer : Format → ℕ → List ℕ → Answer
plain_answer f k received = cond (leb (window_length f k) (length received)) (window_answer f k (last_of (window_length f k) received)) Quiet

-- The plain machine holds the list of the symbols that it accepted, oldest first, and gives an answer.
pub record Plain : Type 0 where
  pub received : List ℕ
  pub answer : Answer

-- A symbol of 0 to 3 joins the end of the list; one above 3 is refused with 4, and the list stays.
unfoldable pub plain_feed : Format → ℕ → List ℕ → ℕ → Plain
plain_feed f k received s =
    cond (is_symbol s)
    (record { received = received ++ (s ∷ []); answer = plain_answer f k (received ++ (s ∷ [])) })
    (record { received = received; answer = Answer.Refused UnknownSymbol })

-- the answers to a list of Feeds, and the list received after them
unfoldable pub plain_answers : Format → ℕ → List ℕ → List ℕ → List Answer
plain_answers f k received [] = []
plain_answers f k received (s ∷ ss) = (plain_feed f k received s).answer ∷ plain_answers f k (plain_feed f k received s).received ss

unfoldable pub plain_received : Format → ℕ → List ℕ → List ℕ → List ℕ
plain_received f k received [] = received
plain_received f k received (s ∷ ss) = plain_received f k (plain_feed f k received s).received ss

-- the elements of a list of Feeds: the symbols that are accepted
abbrev pub elements_of : List ℕ → List ℕ
elements_of [] = []
elements_of (s ∷ ss) = cond (is_symbol s) (s ∷ elements_of ss) (elements_of ss)

-- ---- the words of demand 3. Feeds, elements and answers are counted from 0.

-- Feed number i is refused; or its symbol is an element.
abbrev pub IsRefused : List ℕ → ℕ → Type 0
IsRefused ss i = (i < length ss) × (3 < get_or ss i 0)

abbrev pub IsElement : List ℕ → ℕ → Type 0
IsElement ss i = (i < length ss) × (get_or ss i 0 ≤ 3)

-- It is the newest element: what was fed after it was refused.
abbrev pub IsNewest : List ℕ → ℕ → Type 0
IsNewest ss i = IsElement ss i × ((j : ℕ) → i < j → j < length ss → 3 < get_or ss j 0)

-- the elements of the Feeds up to number i, itself counted
abbrev pub elements_up_to : List ℕ → ℕ → List ℕ
elements_up_to ss i = elements_of (take (suc i) ss)

-- frames 0 to k - 1, one after another
abbrev pub joined : (ℕ → List ℕ) → ℕ → List ℕ
joined frames zero = []
joined frames (suc k) = joined frames k ++ frames k

-- The list ends in a mark, except in X, and k accepted frames, each time next after the one before. The last one's time and control word are t and w.
pub record EndsInFrames (f : Format) (k : ℕ) (received : List ℕ) (t : Time) (w : ℕ) : Type 0 where
  pub before : List ℕ
  pub frames : ℕ → List ℕ
  pub times : ℕ → Time
  pub controls : ℕ → ℕ
  pub received_is : received ≡ before ++ (replicate (lead f) 2 ++ joined frames k)
  pub accepted : (j : ℕ) → j < k → read_of f (frames j) ≡ accepted (times j) (controls j)
  pub next : (j : ℕ) → suc j < k → next_after f (times j) (times (suc j)) ≡ true
  pub last_time : (j : ℕ) → suc j ≡ k → times j ≡ t
  pub last_control : (j : ℕ) → suc j ≡ k → controls j ≡ w

-- both lists have a window, and it is the same
pub record SameWindow (f : Format) (k : ℕ) (xs ys : List ℕ) : Type 0 where
  pub first_long : window_length f k ≤ length xs
  pub second_long : window_length f k ≤ length ys
  pub same : last_of (window_length f k) xs ≡ last_of (window_length f k) ys

-- the first list is the second with the elements at the places replaced by others, and no more
pub record ReplacedAt (places xs ys : List ℕ) : Type 0 where
  pub as_long : length xs ≡ length ys
  pub same : (j : ℕ) → j < length ys → member j places ≡ false → get_or xs j 0 ≡ get_or ys j 0

-- those of the places that are among the n from a on, counted from a
abbrev pub places_within : ℕ → ℕ → List ℕ → List ℕ
places_within a n [] = []
places_within a n (p ∷ ps) = cond (leb a p && ltb p (a + n)) ((p - a) ∷ places_within a n ps) (places_within a n ps)
