-- Demand 3 with the setting k, of the program's reader: from a fresh reader of any format and setting, the answers to any list of Feeds are the plain machine's.
use Rattle.std.specs.Prelude.{◌≡◌, ℕ, ◌%◌, length}
use mathlib.Core.List.{List, [], ◌∷◌}
use Rattle.timecode.specs.Formats.{size}
use Rattle.timecode.specs.declared.Answer.{Answer}
use Rattle.timecode.specs.declared.Format.{Format}
use Rattle.following.specs.Following.{Following}
use Rattle.following.specs.Equal.{Describes}
use Rattle.register.specs.Contents.{Shows}
use Rattle.stream.specs.Feeding.{feed_of}
use Rattle.stream.specs.declared.Reader.{Reader}

-- ---- a list of Feeds: each takes the reader that the Feed before gave back

unfoldable pub answers : Reader → List ℕ → List Answer
answers r [] = []
answers r (s ∷ ss) = (feed_of r s).answer ∷ answers (feed_of r s).reader ss

unfoldable pub reader_after : Reader → List ℕ → Reader
reader_after r [] = r
reader_after r (s ∷ ss) = reader_after (feed_of r s).reader ss

-- ---- the reader's fields are the state that follows one frame

pub record Shown (f : Format) (r : Reader) (x : Following) : Type 0 where
  pub same_format : r.format ≡ f
  pub shows : Shows r.received x.frame
  pub last_is : r.received.newest % 4 ≡ x.last
  pub row_is : r.received.row ≡ x.row
  pub time_is : r.time ≡ x.time
  pub control_is : r.control ≡ x.control

-- the reader has the format and the setting, its place is the number of elements modulo n, and its fields are a state that describes them
pub record Receives (f : Format) (k : ℕ) (r : Reader) (received : List ℕ) : Type 0 where
  pub setting_is : r.setting ≡ k
  pub place_is : r.place ≡ length received % size f
  pub state : Following
  pub shown : Shown f r state
  pub describes : Describes f state received
