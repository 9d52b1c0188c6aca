-- A window of its lead and m + 1 frames, each accepted and each time next after the one before: with the setting m + 1 it reports exactly then. Document 01's window is the case m = 1.
use Rattle.timecode.specs.declared.Refusal.{Refusal}
use Rattle.timecode.specs.Answers.{accepted}
use Rattle.std.specs.Prelude.{◌≡◌, refl, Bool, true, false, List, length, get_or, drop, Result, Ok, Err}
use Rattle.std.proofs.Common.{sym, ◌∙◌, subst, subst₂, not-suc-le-zero, eqb-true, eq-eqb, get_or-take, get_or-drop}
use Rattle.std.proofs.Math.Path.{ap, ap₂}
use Rattle.std.proofs.Math.Bool.{cond}
use Prim.Native.Nat.{ℕ, zero, suc, ◌+◌, ◌*◌, ◌-◌, ◌<◌, ◌≤◌}
use Rattle.std.proofs.Math.Nat.{mul-le-mul_left}
use native.Mathlib.Omega.{arith}
use Rattle.std.proofs.Math.Decide.{ℕ_discrete}
use Rattle.std.proofs.Math.ListN.{length-drop}
use Rattle.std.proofs.Math.Seq.{length-take-le}
use Rattle.timecode.specs.Formats.{is_x, size}
use Rattle.timecode.specs.Frames.{Follows, next_after, read_of}
use Rattle.timecode.proofs.Laws.Checks.{quiet-no-report}
use Rattle.timecode.proofs.Laws.Marks.{size-positive, accepted-first, accepted-last}
use Rattle.timecode.proofs.Laws.Stepping.{next-follows, follows_next}
use Rattle.timecode.proofs.Laws.Tests.{by-test}
use Rattle.timecode.specs.Stream.{two_frames, lead, opens, window_length, frame_in, first_in_row, next_in_row, in_row, window_answer, confirm}
use Rattle.timecode.specs.declared.Answer.{Answer}
use Rattle.timecode.specs.declared.Answer.TheVariants.{Quiet, Report}
use Rattle.timecode.specs.declared.Format.{Format}
use Rattle.timecode.specs.declared.Reading.{Reading}
use Rattle.timecode.specs.declared.Time.{Time}
use Rattle.timecode.specs.Laws.Windows.{long, Confirmed, time_of, control_of, Next}

-- the marks before a frame: one, in X none
pub lead-one : (f : Format) → is_x f ≡ false → lead f ≡ 1
unfolding lead
lead-one f n = rw n

pub lead-none : (f : Format) → is_x f ≡ true → lead f ≡ 0
unfolding lead
lead-none f x = rw x

pub lead-small : (f : Format) → lead f ≤ 1
lead-small f = by-test (is_x f) (λ x. omega (arith, lead-none f x)) (λ n. omega (arith, lead-one f n))

-- a window opens with a mark, in X with anything
pub opens-marked : (f : Format) (window : List ℕ) → is_x f ≡ false → opens f window ≡ true → get_or window 0 0 ≡ 2
unfolding opens
opens-marked f window n h = eqb-true (get_or window 0 0) 2 (rw n at h)

pub opens-so : (f : Format) (window : List ℕ) → (is_x f ≡ false → get_or window 0 0 ≡ 2) → opens f window ≡ true
unfolding opens
opens-so f window h = by-test (is_x f) (λ x. rw x) (λ n. rw n (eq-eqb (get_or window 0 0) 2 (h n)))

pub window-long : (f : Format) (m : ℕ) → window_length f (suc m) ≡ long f m
unfolding window_length
window-long f m = omega arith

accepted-is : (r : Result Reading Refusal) (t : Time) (w : ℕ) → r ≡ accepted t w → r ≡ accepted (time_of r) (control_of r)
accepted-is r t w h = h ∙ ap (λ (x : Result Reading Refusal). accepted (time_of x) (control_of x)) (sym h)

first-accepted : (r : Result Reading Refusal) (t : Time) (w : ℕ) → first_in_row r ≡ Report t w → r ≡ accepted t w
first-accepted (Ok read) t w h = let p : read.time ≡ t = cc in let q : read.control ≡ w = cc in ap₂ accepted p q
first-accepted (Err r) t w h = quiet-no-report t w h

picked : (b : Bool) (a : Answer) (t : Time) (w : ℕ) → cond b a Quiet ≡ Report t w → (b ≡ true) × (a ≡ Report t w)
picked true a t w h = (refl, h)
picked false a t w h = quiet-no-report t w h

next : (f : Format) (a : Answer) (r : Result Reading Refusal) (t : Time) (w : ℕ) → next_in_row f a r ≡ Report t w → Next f a r t w
unfolding next_in_row
next f (Report s v) (Ok read) t w h =
    let y = picked (next_after f s read.time) (Report read.time read.control) t w h in
    let same = y.1 in
    let p : read.time ≡ t = cc in
    let q : read.control ≡ w = cc in
    record { before = s; control_before = v; was = refl; is = ap₂ accepted p q; follows = next-follows f s t (rw (← p) y.0) }
next f (Report s v) (Err r) t w h = quiet-no-report t w h
next f Quiet r t w h = quiet-no-report t w h
next f (Answer.Refused x) r t w h = quiet-no-report t w h

module _ (f : Format) (window : List ℕ) where
  abbrev read_at : ℕ → Result Reading Refusal
  read_at j = read_of f (frame_in f window j)

  record Row (m : ℕ) : Type 0 where
    reads : (j : ℕ) → j ≤ m → read_at j ≡ accepted (time_of (read_at j)) (control_of (read_at j))
    follows : (j : ℕ) → j < m → Follows f (time_of (read_at j)) (time_of (read_at (suc j)))

  row : (m : ℕ) (t : Time) (w : ℕ) → in_row f window (suc m) ≡ Report t w → Row m × (read_at m ≡ accepted t w)
  unfolding in_row
  row zero t w h =
      let a = first-accepted (read_at 0) t w h in (
        record {
          reads = λ j b. let p : j ≡ 0 = omega arith in rw p (accepted-is (read_at 0) t w a);
          follows = λ j b. absurd (not-suc-le-zero b);
        },
        a,
      )
  row (suc m) t w h =
      let x = next f (in_row f window (suc m)) (read_at (suc m)) t w h in
      let y = row m x.before x.control_before x.was in (
        record { reads = λ j b. reads y.0 x.is j b (ℕ_discrete j (suc m)); follows = λ j b. follows y.0 y.1 x.is x.follows j b (ℕ_discrete j m) },
        x.is,
      )
    where
      reads : Row m → read_at (suc m) ≡ accepted t w → (j : ℕ) → j ≤ suc m → Dec (j ≡ suc m) → read_at j ≡ accepted (time_of (read_at j)) (control_of (read_at j))
      reads r a j b (yes p) = rw p (accepted-is (read_at (suc m)) t w a)
      reads r a j b (no n) = r.reads j (omega arith)

      follows : Row m → {s : Time} {v : ℕ} → read_at m ≡ accepted s v → read_at (suc m) ≡ accepted t w → Follows f s t → (j : ℕ) → j < suc m → Dec (j ≡ m) → Follows f (time_of (read_at j)) (time_of (read_at (suc j)))
      follows r {s} {v} a c g j b (yes p) = rw p (rw (ap time_of a, ap time_of c) g)
      follows r {s} {v} a c g j b (no n) = r.follows j (omega arith)

  row-report : (m : ℕ) → Row m → in_row f window (suc m) ≡ Report (time_of (read_at m)) (control_of (read_at m))
  unfolding in_row next_in_row
  row-report zero r = ap first_in_row (r.reads 0 (omega arith))
  row-report (suc m) r =
      ap (λ (a : Answer). next_in_row f a (read_at (suc m))) (row-report m (record { reads = λ j b. r.reads j (omega arith); follows = λ j b. r.follows j (omega arith) }))
      ∙ ap (next_in_row f (Report (time_of (read_at m)) (control_of (read_at m)))) (r.reads (suc m) (omega arith))
      ∙ ap (λ (b : Bool). cond b (Report (time_of (read_at (suc m))) (control_of (read_at (suc m)))) Quiet) (follows_next f (time_of (read_at m)) (time_of (read_at (suc m))) (r.follows m (omega arith)))

-- the window reports exactly when it is confirmed
module _ (f : Format) (m : ℕ) (window : List ℕ) (t : Time) (w : ℕ) where
  pub window-confirmed : window_answer f (suc m) window ≡ Report t w → Confirmed f m window t w
  unfolding window_answer
  window-confirmed h =
      let x = picked (opens f window) (in_row f window (suc m)) t w h in
      let y = row f window m t w x.1 in
      record {
        times = λ j. time_of (read_at f window j);
        controls = λ j. control_of (read_at f window j);
        begins = x.0;
        reads = y.0.reads;
        follows = y.0.follows;
        last_time = ap time_of y.1;
        last_control = ap control_of y.1;
      }

  module _ (c : Confirmed f m window t w) where
    pub confirmed-window : window_answer f (suc m) window ≡ Report t w
    unfolding window_answer
    confirmed-window =
        let time : (j : ℕ) → j ≤ m → time_of (read_at f window j) ≡ c.times j = λ j b. ap time_of (c.reads j b) in
        let r : Row f window m =
        record {
          reads = λ j b. accepted-is (read_at f window j) (c.times j) (c.controls j) (c.reads j b);
          follows = λ j b. rw (time j (omega arith), time (suc j) b) (c.follows j b);
        } in
        rw c.begins
        (row-report f window m r
        ∙ ap₂ (λ (x : Time) (y : ℕ). Report x y) (time m (omega arith) ∙ c.last_time) (ap control_of (c.reads m (omega arith)) ∙ c.last_control))

    pub last-reads : read_of f (frame_in f window m) ≡ accepted t w
    last-reads = subst₂ (λ (x : Time) (y : ℕ). read_of f (frame_in f window m) ≡ accepted x y) c.last_time c.last_control (c.reads m (omega arith))

-- ---- an answer that is no report is Quiet

or_quiet : (b : Bool) (a : Answer) → (((t : Time) (w : ℕ) → a ≡ Report t w → ⊥) → a ≡ Quiet) → ((t : Time) (w : ℕ) → cond b a Quiet ≡ Report t w → ⊥) → cond b a Quiet ≡ Quiet
or_quiet true a quiet n = quiet n
or_quiet false a quiet n = refl

first-quiet : (r : Result Reading Refusal) → ((t : Time) (w : ℕ) → first_in_row r ≡ Report t w → ⊥) → first_in_row r ≡ Quiet
first-quiet (Ok read) n = absurd (n read.time read.control refl)
first-quiet (Err r) n = refl

next-quiet : (f : Format) (a : Answer) (r : Result Reading Refusal) → ((t : Time) (w : ℕ) → next_in_row f a r ≡ Report t w → ⊥) → next_in_row f a r ≡ Quiet
unfolding next_in_row
next-quiet f (Report s v) (Ok read) n = or_quiet (next_after f s read.time) (Report read.time read.control) (λ z. absurd (z read.time read.control refl)) n
next-quiet f (Report s v) (Err r) n = refl
next-quiet f Quiet r n = refl
next-quiet f (Answer.Refused x) r n = refl

row-quiet : (f : Format) (window : List ℕ) (k : ℕ) → ((t : Time) (w : ℕ) → in_row f window k ≡ Report t w → ⊥) → in_row f window k ≡ Quiet
unfolding in_row
row-quiet f window zero n = refl
row-quiet f window (suc zero) n = first-quiet (read_of f (frame_in f window 0)) n
row-quiet f window (suc (suc m)) n = next-quiet f (in_row f window (suc m)) (read_of f (frame_in f window (suc m))) n

pub window-quiet : (f : Format) (k : ℕ) (window : List ℕ) → ((t : Time) (w : ℕ) → window_answer f k window ≡ Report t w → ⊥) → window_answer f k window ≡ Quiet
unfolding window_answer
window-quiet f k window n = or_quiet (opens f window) (in_row f window k) (row-quiet f window k) n

-- ---- k = 2 is document 01's machine

row-of-two : (f : Format) (first second : Result Reading Refusal) → next_in_row f (first_in_row first) second ≡ confirm f first second
unfolding next_in_row confirm
row-of-two f (Ok read) (Ok second) = refl
row-of-two f (Ok read) (Err r) = refl
row-of-two f (Err r) second = refl

pub two-frames : (f : Format) (window : List ℕ) → window_answer f two_frames window ≡ cond (opens f window) (confirm f (read_of f (frame_in f window 0)) (read_of f (frame_in f window 1))) Quiet
unfolding window_answer in_row
two-frames f window = ap (λ (a : Answer). cond (opens f window) a Quiet) (row-of-two f (read_of f (frame_in f window 0)) (read_of f (frame_in f window 1)))

-- ---- the frames of a window

module _ (f : Format) (m : ℕ) (window : List ℕ) (s : length window ≡ long f m) where
  pub length-frame-in : (j : ℕ) → j ≤ m → length (frame_in f window j) ≡ size f
  unfolding frame_in
  length-frame-in j b = length-take-le (size f) (drop (lead f + size f * j) window) (omega (arith, length-drop (lead f + size f * j) window, mul-le-mul_left (size f) b))

pub at-frame : (f : Format) (window : List ℕ) (j i : ℕ) → i < size f → get_or (frame_in f window j) i 0 ≡ get_or window (lead f + size f * j + i) 0
unfolding frame_in
at-frame f window j i h = get_or-take (size f) (drop (lead f + size f * j) window) i 0 h ∙ get_or-drop (lead f + size f * j) window i 0

-- ---- the marks of a confirmed window: each frame begins with one, and except in X pairs stand at n j, n j + 1

module _ (f : Format) (m : ℕ) (window : List ℕ) (t : Time) (w : ℕ) (c : Confirmed f m window t w) where
  pub first_of : (j : ℕ) → j ≤ m → get_or window (lead f + size f * j) 0 ≡ 2
  first_of j b =
      let u : lead f + size f * j + 0 ≡ lead f + size f * j = omega arith in
      rw u at (sym (at-frame f window j 0 (size-positive f)) ∙ accepted-first f (frame_in f window j) (c.times j) (c.controls j) (c.reads j b))

  pub last_of : is_x f ≡ false → (j : ℕ) → j ≤ m → get_or window (size f * suc j) 0 ≡ 2
  last_of n j b =
      let u : lead f + size f * j + (size f - 1) ≡ size f * suc j = omega (arith, size-positive f, lead-one f n) in
      rw u at (sym (at-frame f window j (size f - 1) (omega (arith, size-positive f))) ∙ accepted-last f (frame_in f window j) (c.times j) (c.controls j) n (c.reads j b))

  pub before_of : is_x f ≡ false → (j : ℕ) → j ≤ m → get_or window (size f * j) 0 ≡ 2
  before_of n zero b = let u : 0 ≡ size f * 0 = omega arith in subst (λ (k : ℕ). get_or window k 0 ≡ 2) u (opens-marked f window n c.begins)
  before_of n (suc j) b = last_of n j (omega arith)
