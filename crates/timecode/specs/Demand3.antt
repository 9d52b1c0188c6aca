-- Demand 3 and document 01's sentences after it, for every setting k of document 02: one record of what holds of a list of Feeds from fresh and the list of their answers.
-- It holds of any answers that are the plain machine's.
use Rattle.std.specs.Prelude.{◌≡◌, ◌↔◌, get_or, drop}
use mathlib.Core.List.{List, ◌++◌}
use Prim.Native.Nat.{ℕ, suc, ◌+◌, ◌*◌, ◌-◌, ◌/◌, ◌<◌, ◌≤◌}
use Rattle.std.proofs.Math.ListN.{length, take}
use Rattle.timecode.specs.Formats.{size}
use Rattle.timecode.specs.Frames.{Sent, Generator, elements, sent_at, EndsFrame}
use Rattle.timecode.specs.Stream.{lead, window_length, plain_answer, elements_of, IsRefused, IsElement, IsNewest, elements_up_to, EndsInFrames, ReplacedAt, places_within}
use Rattle.timecode.specs.declared.Answer.{Answer}
use Rattle.timecode.specs.declared.Answer.TheVariants.{Quiet, Report}
use Rattle.timecode.specs.declared.Format.{Format}
use Rattle.timecode.specs.declared.Refusal.{Refusal}
use Rattle.timecode.specs.declared.Refusal.TheVariants.{UnknownSymbol}
use Rattle.timecode.specs.declared.Time.{Time}

-- ---- the sentences. `none` stands for an answer past the last, which nothing asks for.

pub record Demand3 (f : Format) (k : ℕ) (ss : List ℕ) (answers : List Answer) (none : Answer) : Type 0 where
  -- With every Feed of the list there is an answer.
  pub each_answered : length answers ≡ length ss
  -- Feed refuses a symbol above 3, with 4,
  pub refuses_above_3 : (i : ℕ) → IsRefused ss i → get_or answers i none ≡ Answer.Refused UnknownSymbol
  -- and no other.
  pub refuses_no_other : (i : ℕ) → IsElement ss i → (x : Refusal) → get_or answers i none ≡ Answer.Refused x → ⊥
  -- A refused Feed reports nothing,
  pub refused_reports_nothing : (i : ℕ) → IsRefused ss i → (t : Time) (w : ℕ) → get_or answers i none ≡ Report t w → ⊥
  -- and its symbol counts as no element: the elements alone decide what an element is answered.
  pub elements_decide : (i : ℕ) → IsElement ss i → get_or answers i none ≡ plain_answer f k (elements_up_to ss i)
  -- However the elements before were spoiled, lost or made up: a time is reported with an element exactly when the last kn + 1 elements are a mark and k accepted frames (in X the last kn are k accepted frames), each time next after the one before. The report is the last one's time and control word.
  pub reports_exactly_when : (i : ℕ) → i < length ss → (t : Time) (w : ℕ) → (get_or answers i none ≡ Report t w) ↔ (IsElement ss i × EndsInFrames f k (elements_up_to ss i) t w)
  -- If the last kn + 1 came intact from a generator, a frame's last mark and the k frames after it (in X k frames), the last one's time is reported, with its control word.
  pub intact_window_reports : (sent : List Sent) → Generator f sent → (i : ℕ) → IsElement ss i → (before : List ℕ) (q : ℕ) → lead f ≤ size f * q → q + k ≤ length sent
      → elements_up_to ss i ≡ before ++ take (window_length f k) (drop (size f * q - lead f) (elements f sent))
      → get_or answers i none ≡ Report (sent_at sent (q + k - 1)).time (sent_at sent (q + k - 1)).control
  -- If they are any consecutive ones of a generator with at most k - 1 replaced by another symbol, a time is reported only where a frame of that generator has just ended, and it is that frame's.
  pub no_false_time : (sent : List Sent) → Generator f sent → (i : ℕ) → IsElement ss i → (before window places : List ℕ) (start : ℕ) → start + window_length f k ≤ length (elements f sent)
      → ReplacedAt places window (take (window_length f k) (drop start (elements f sent))) → length places < k
      → elements_up_to ss i ≡ before ++ window
      → (t : Time) (w : ℕ) → get_or answers i none ≡ Report t w → EndsFrame f sent (start + window_length f k) t
  -- The same of every answer to a whole stream of a generator, joined at any element, refused Feeds among it, with at most k - 1 replaced of the kn + 1 elements (in X kn) that end there.
  pub no_false_time_in_stream : (sent : List Sent) → Generator f sent → (places : List ℕ) (start : ℕ) → ReplacedAt places (elements_of ss) (drop start (elements f sent))
      → (i : ℕ) → IsElement ss i → length (places_within (length (elements_up_to ss i) - window_length f k) (window_length f k) places) < k
      → (t : Time) (w : ℕ) → get_or answers i none ≡ Report t w → EndsFrame f sent (start + length (elements_up_to ss i)) t
  -- In an undamaged stream joined at index i of a frame, the first report comes with element (k + 1)n - i, counted from 1 (in X where i is not 0);
  pub first_report_exactly : (sent : List Sent) → Generator f sent → (q i : ℕ) → i < size f → 0 < i + lead f → q + k < length sent → ss ≡ drop (size f * q + i) (elements f sent)
      → ((j : ℕ) → suc j < suc k * size f - i → get_or answers j none ≡ Quiet)
      × (get_or answers (suc k * size f - i - 1) none ≡ Report (sent_at sent (q + k)).time (sent_at sent (q + k)).control)
  -- joined at a frame's last mark, with the last of the k frames after it, element kn + 1; in X joined at a frame's first element, with element kn;
  pub first_report_from_lead : (sent : List Sent) → Generator f sent → (q : ℕ) → lead f ≤ size f * q → q + k ≤ length sent → ss ≡ drop (size f * q - lead f) (elements f sent)
      → ((j : ℕ) → suc j < window_length f k → get_or answers j none ≡ Quiet)
      × (get_or answers (window_length f k - 1) none ≡ Report (sent_at sent (q + k - 1)).time (sent_at sent (q + k - 1)).control)
  -- so, joined at any element, within (k + 1)n elements, in X within (k + 1)n - 1, which is 74 for k = 2; it is of the frame that ends there.
  pub first_report_within : (sent : List Sent) → Generator f sent → (start : ℕ) → start / size f + k < length sent → ss ≡ drop start (elements f sent)
      → (i : ℕ) × (q : ℕ) × (suc i < suc k * size f + lead f) × (q < length sent) × (start + suc i ≡ size f * suc q) × ((j : ℕ) → j < i → get_or answers j none ≡ Quiet)
      × (get_or answers i none ≡ Report (sent_at sent q).time (sent_at sent q).control)

-- Two readers fed ss and rs, and both the same symbols after these: the newest elements of ss and rs got the same answer (Laws.Machine.newest-exists: where there are elements one is the newest), and so did, refusals too, the symbols after these.
pub record SameAnswers (ss rs : List ℕ) (first second : List Answer) (none : Answer) : Type 0 where
  pub to_newest : (i j : ℕ) → IsNewest ss i → IsNewest rs j → get_or first i none ≡ get_or second j none
  pub after : drop (length ss) first ≡ drop (length rs) second

-- ---- they hold of the plain machine
