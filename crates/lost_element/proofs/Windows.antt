-- A confirmed window of a generator's elements with one left out or one symbol put in: the frame that fills its last n is the generator's, whole.
-- Marks tell where the generator's frames begin in it. No time needs to be next after another for that.
use Rattle.std.specs.Prelude.{◌≡◌, false, List, ◌⊎◌, ℕ, zero, suc, ◌+◌, ◌*◌, ◌-◌, ◌/◌, ◌%◌, ◌<◌, ◌≤◌, length, get_or}
use Rattle.std.proofs.Common.{sym, ap, ◌∙◌, inl, inr, add-zero, arith, ext_get_or}
use Rattle.std.proofs.Math.Nat.{div-add-mod, lt_of_mul-lt-mul_left, add-mul-mod_self_left}
use Rattle.std.proofs.Math.Decide.{ℕ_discrete, dec_lt}
use Rattle.timecode.specs.Formats.{is_x, size}
use Rattle.timecode.specs.Frames.{written, read_of, Sent, Generator, elements, sent_at, Valid}
use Rattle.timecode.specs.Laws.Generators.{frame_of}
use Rattle.timecode.proofs.Laws.Generators.{length-elements, element-at, sent-valid, frame-reads, marks, x-marks, pair}
use Rattle.timecode.proofs.Laws.Marks.{size-positive, size-large, first-mark, last-element, ends-marked}
use Rattle.timecode.proofs.Laws.Reading.{accepted-was-written}
use Rattle.timecode.proofs.Laws.Table.{two-sizes, size-range}
use Rattle.timecode.proofs.Laws.Tests.{by-test}
use Rattle.timecode.specs.Laws.Windows.{long, Confirmed, time_of, control_of}
use Rattle.timecode.proofs.Laws.Windows.{lead-one, lead-none, lead-small, length-frame-in, at-frame, first_of, before_of}
use Rattle.timecode.proofs.Laws.Writing.{length-written}
use Rattle.timecode.specs.Stream.{lead, frame_in}
use Rattle.timecode.specs.declared.Format.{Format}
use Rattle.timecode.specs.declared.Time.{Time}
use Rattle.lost_element.proofs.FrameEnds.{alike-range, no-mark-early, ends-alike, end-begins}
use Rattle.lost_element.specs.LostElement.{alike_at_end}
use Rattle.lost_element.specs.Windows.{LostFrom, PutInFrom, LastIs, LostAt, PutInAt}

multiple : (n k : ℕ) → k % n ≡ 0 → k ≡ n * (k / n)
multiple n k h = omega (arith, div-add-mod k n)

module _ (f : Format) (sent : List Sent) (gen : Generator f sent) where
  -- a mark stands before a frame, in X at its first place; frame q itself may be past the last
  mark-before : (q : ℕ) → q ≤ length sent → lead f ≤ size f * q → size f * q - lead f < length (elements f sent) → get_or (elements f sent) (size f * q - lead f) 0 ≡ 2
  mark-before q b l h =
      by-test (is_x f)
      (λ x.
      let u : size f * q - lead f ≡ size f * q + 0 = omega (arith, lead-none f x) in
      let c : q < length sent = lt_of_mul-lt-mul_left (size f) (omega (arith, length-elements f sent, lead-none f x)) in
      rw u (element-at f sent q 0 c (size-positive f) ∙ first-mark f (sent_at sent q).time (sent_at sent q).control (sent-valid f sent gen q c)))
      (λ n. last n q b l)
    where
      last : is_x f ≡ false → (q : ℕ) → q ≤ length sent → lead f ≤ size f * q → get_or (elements f sent) (size f * q - lead f) 0 ≡ 2
      last n zero b l = let z : ⊥ = omega (arith, lead-one f n) in absurd z
      last n (suc q) b l =
          let u : size f * suc q - lead f ≡ size f * q + (size f - 1) = omega (arith, lead-one f n, size-positive f) in
          rw u (element-at f sent q (size f - 1) b (omega (arith, size-positive f)) ∙ last-element f (sent_at sent q).time (sent_at sent q).control (sent-valid f sent gen q b) ∙ ends-marked f n)

  -- no mark stands two places before a frame, except in X
  no-mark-there : (k : ℕ) → is_x f ≡ false → (k + 2) % size f ≡ 0 → get_or (elements f sent) k 0 ≡ 2 → ⊥
  no-mark-there k n h x = out (marks f sent gen k x n) h
    where
      out : (k % size f ≡ 0) ⊎ (k % 10 ≡ 9) → (k + 2) % size f ≡ 0 → ⊥
      out = two-sizes (λ n. (k % n ≡ 0) ⊎ (k % 10 ≡ 9) → (k + 2) % n ≡ 0 → ⊥) sixty hundred f n
        where
          sixty : (k % 60 ≡ 0) ⊎ (k % 10 ≡ 9) → (k + 2) % 60 ≡ 0 → ⊥
          sixty (inl a) b = omega arith
          sixty (inr a) b = omega arith

          hundred : (k % 100 ≡ 0) ⊎ (k % 10 ≡ 9) → (k + 2) % 100 ≡ 0 → ⊥
          hundred (inl a) b = omega arith
          hundred (inr a) b = omega arith

-- ---- a confirmed window

module _ (f : Format) (m : ℕ) (sent : List Sent) (gen : Generator f sent) (window : List ℕ) (s : length window ≡ long f m) (t : Time) (w : ℕ) (c : Confirmed f m window t w) where
  -- where the marks before frame j are the generator's, a frame of it begins there
  aligned : (j : ℕ) → j ≤ m → (p : ℕ) → ((i : ℕ) → i ≤ lead f → get_or window (size f * j + i) 0 ≡ get_or (elements f sent) (p + i) 0) → (p + lead f) % size f ≡ 0
  aligned j b p same =
      let u : lead f + size f * j ≡ size f * j + lead f = omega arith in
      let first : get_or (elements f sent) (p + lead f) 0 ≡ 2 = sym (same (lead f) (omega arith)) ∙ rw u at (first_of f m window t w c j b) in
      by-test (is_x f)
      (λ x. x-marks f sent gen (p + lead f) first x)
      (λ n.
      let l = lead-one f n in
      let v : size f * j ≡ size f * j + 0 = omega arith in
      let before : get_or (elements f sent) (p + 0) 0 ≡ 2 = sym (same 0 (omega arith)) ∙ rw v at (before_of f m window t w c n j b) in
      let before-it : get_or (elements f sent) p 0 ≡ 2 = rw (add-zero p) at before in
      let after-it : get_or (elements f sent) (p + 1) 0 ≡ 2 = rw l at first in
      rw l (pair f n p (marks f sent gen p before-it n) (marks f sent gen (p + 1) after-it n)))

  -- the last frame was written
  last-valid : Valid f (c.times m) (c.controls m)
  last-valid = (accepted-was-written f (frame_in f window m) (c.times m) (c.controls m) (c.reads m (omega arith))).0

  last_written : (i : ℕ) → i < size f → get_or (written f (c.times m) (c.controls m)) i 0 ≡ get_or window (lead f + size f * m + i) 0
  last_written i h = ap (λ (x : List ℕ). get_or x i 0) (accepted-was-written f (frame_in f window m) (c.times m) (c.controls m) (c.reads m (omega arith))).1 ∙ at-frame f window m i h

  -- it is the generator's frame j if it is so up to the end that all frames have
  last_is : (j : ℕ) → j < length sent → ((i : ℕ) → i + alike_at_end f < size f → get_or window (lead f + size f * m + i) 0 ≡ get_or (elements f sent) (size f * j + i) 0) → LastIs f m sent window t w j
  last_is j b same = record { inside = b; whole = whole; time = sym c.last_time ∙ right.0; control = sym c.last_control ∙ right.1 }
    where
      at : (i : ℕ) → i < size f → Dec (i + alike_at_end f < size f) → get_or (frame_in f window m) i 0 ≡ get_or (frame_of f (sent_at sent j)) i 0
      at i h (yes z) = at-frame f window m i h ∙ same i z ∙ element-at f sent j i b h
      at i h (no z) =
          at-frame f window m i h
          ∙ sym (last_written i h)
          ∙ ends-alike f (c.times m) (c.controls m) (sent_at sent j).time (sent_at sent j).control last-valid (sent-valid f sent gen j b) i h (omega arith)

      whole : frame_in f window m ≡ frame_of f (sent_at sent j)
      whole =
          let n = length-frame-in f m window s m (omega arith) in
          ext_get_or 0 (frame_in f window m) (frame_of f (sent_at sent j)) (n ∙ sym (length-written f (sent_at sent j).time (sent_at sent j).control))
          (λ i x. let h : i < size f = omega (arith, length-frame-in f m window s m (omega arith)) in at i h (dec_lt (i + alike_at_end f) (size f)))

      right : (c.times m ≡ (sent_at sent j).time) × (c.controls m ≡ (sent_at sent j).control)
      right = let read = sym (c.reads m (omega arith)) ∙ ap (read_of f) whole ∙ frame-reads f sent gen j b in (ap time_of read, ap control_of read)

  -- a frame of the generator begins at a, and r frames on the window's last: its end need not be the generator's
  last-from : (a r : ℕ) → a % size f ≡ 0 → a + size f * suc r ≤ length (elements f sent) + 1
      → ((i : ℕ) → i + alike_at_end f < size f → get_or window (lead f + size f * m + i) 0 ≡ get_or (elements f sent) (a + size f * r + i) 0)
      → (j : ℕ) × LastIs f m sent window t w j × (a + size f * suc r ≡ size f * suc j)
  last-from a r h b same =
      let q = a / size f in
      let p : a ≡ size f * (a / size f) = multiple (size f) a h in
      let d : suc (q + r) < suc (length sent) = lt_of_mul-lt-mul_left (size f) (omega (arith, length-elements f sent, size-large f)) in (
        q + r,
        last_is (q + r) (omega arith) (λ i k. let u : a + size f * r + i ≡ size f * (q + r) + i = omega arith in same i k ∙ ap (λ (z : ℕ). get_or (elements f sent) z 0) u),
        omega arith,
      )

-- ---- one left out

module _ (f : Format) (m : ℕ) (sent : List Sent) (gen : Generator f sent) (start d : ℕ) (window : List ℕ) (s : length window ≡ long f (suc m)) (lost : LostFrom f sent start d window) (t : Time) (w : ℕ) (c : Confirmed f (suc m) window t w) where
  -- what comes before the first frame's second symbol is there: nothing is lost but the last mark
  lost-late : lead f < d → LostAt f (suc m) sent start d window t w
  lost-late b =
      let n = size-large f in
      let l = lead-small f in
      let h = aligned f (suc m) sent gen window s t w c 0 (omega arith) start (λ i k. let u : size f * 0 + i ≡ i = omega arith in rw u (lost.before i (omega arith) (omega arith))) in
      let far = late h (dec_lt (d + lead f) (long f (suc m))) in
      let e = (alike-range f).2 in
      let x =
      last-from f (suc m) sent gen window s t w c (start + lead f) (suc m) h (omega (arith, lost.inside))
      (λ i k.
      let u : start + (lead f + size f * suc m + i) ≡ start + lead f + size f * suc m + i = omega arith in
      lost.before (lead f + size f * suc m + i) (omega arith) (omega arith) ∙ ap (λ (z : ℕ). get_or (elements f sent) z 0) u) in
      record { frame = x.0; is = x.1; place = inl (far, omega (arith, x.2)) }
    where
      -- else a mark would stand in the last frame where none can
      late : (start + lead f) % size f ≡ 0 → Dec (d + lead f < long f (suc m)) → long f (suc m) ≤ d + lead f
      late h (no z) = omega arith
      late h (yes z) =
          let n = size-large f in
          let l = lead-small f in
          let q = (start + lead f) / size f in
          let p : start + lead f ≡ size f * ((start + lead f) / size f) = multiple (size f) (start + lead f) h in
          let g = length-elements f sent in
          let y : q + suc (suc m) < suc (length sent) = lt_of_mul-lt-mul_left (size f) (omega (arith, lost.inside)) in
          let u : lead f + size f * suc m + (size f - 1 - lead f) ≡ size f * suc (suc m) - 1 = omega arith in
          let v : start + (size f * suc (suc m) - 1) + 1 ≡ size f * (q + suc (suc m)) - lead f = omega arith in
          let mark : get_or (elements f sent) (size f * (q + suc (suc m)) - lead f) 0 ≡ 2 = mark-before f sent gen (q + suc (suc m)) (omega arith) (omega arith) (omega (arith, lost.inside)) in
          let there : get_or window (size f * suc (suc m) - 1) 0 ≡ 2 = lost.after (size f * suc (suc m) - 1) (omega arith) (omega arith) ∙ ap (λ (z : ℕ). get_or (elements f sent) z 0) v ∙ mark in
          absurd
          (no-mark-early f (c.times (suc m)) (c.controls (suc m)) (last-valid f (suc m) sent gen window s t w c)
          (last_written f (suc m) sent gen window s t w c (size f - 1 - lead f) (omega arith) ∙ ap (λ (z : ℕ). get_or window z 0) u ∙ there))

  -- what is lost came before the first frame's second symbol: it is the very first
  lost-early : d ≤ lead f → LostAt f (suc m) sent start d window t w
  lost-early b =
      let n = size-large f in
      let l = lead-small f in
      let h =
      aligned f (suc m) sent gen window s t w c 1 (omega arith) (start + size f + 1)
      (λ i k. let u : start + (size f * 1 + i) + 1 ≡ start + size f + 1 + i = omega arith in lost.after (size f * 1 + i) (omega arith) (omega arith) ∙ ap (λ (z : ℕ). get_or (elements f sent) z 0) u) in
      let x =
      last-from f (suc m) sent gen window s t w c (start + size f + 1 + lead f) m h (omega (arith, lost.inside))
      (λ i k.
      let u : start + (lead f + size f * suc m + i) + 1 ≡ start + size f + 1 + lead f + size f * m + i = omega arith in
      lost.after (lead f + size f * suc m + i) (omega arith) (omega arith) ∙ ap (λ (z : ℕ). get_or (elements f sent) z 0) u) in
      record { frame = x.0; is = x.1; place = inr (first h (ℕ_discrete d 0), omega (arith, x.2)) }
    where
      -- else the window's first mark would stand two places before a frame
      first : (start + size f + 1 + lead f) % size f ≡ 0 → Dec (d ≡ 0) → d ≡ 0
      first h (yes z) = z
      first h (no z) =
          let l = lead-small f in
          let k : is_x f ≡ false = by-test (is_x f) (λ x. let n : ⊥ = omega (arith, lead-none f x) in absurd n) (λ n. n) in
          let u : start + size f + 1 + lead f ≡ start + 2 + size f * 1 = omega (arith, lead-one f k) in
          let v : (start + 2) % size f ≡ 0 = sym (add-mul-mod_self_left (start + 2) (size f) 1) ∙ ap (λ (i : ℕ). i % size f) (sym u) ∙ h in
          let e : size f * 0 ≡ 0 = omega arith in
          let mark : get_or window 0 0 ≡ 2 = rw e at (before_of f (suc m) window t w c k 0 (omega arith)) in
          absurd (no-mark-there f sent gen start k v (rw (add-zero start) at (sym (lost.before 0 (omega arith) (omega (arith, size-large f))) ∙ mark)))

  pub lost-at : LostAt f (suc m) sent start d window t w
  lost-at = go (dec_lt (lead f) d)
    where
      go : Dec (lead f < d) → LostAt f (suc m) sent start d window t w
      go (yes z) = lost-late z
      go (no z) = lost-early (omega arith)

-- ---- one put in

module _ (f : Format) (m : ℕ) (sent : List Sent) (gen : Generator f sent) (start d : ℕ) (window : List ℕ) (s : length window ≡ long f (suc m)) (put : PutInFrom f sent start d window) (t : Time) (w : ℕ) (c : Confirmed f (suc m) window t w) where
  put-in-late : lead f < d → PutInAt f (suc m) sent start d window t w
  put-in-late b =
      let n = size-large f in
      let l = lead-small f in
      let h = aligned f (suc m) sent gen window s t w c 0 (omega arith) start (λ i k. let u : size f * 0 + i ≡ i = omega arith in rw u (put.before i (omega arith) (omega arith))) in
      let far = late h (dec_lt (d + alike_at_end f) (long f (suc m))) in
      let x =
      last-from f (suc m) sent gen window s t w c (start + lead f) (suc m) h (omega (arith, put.inside))
      (λ i k.
      let u : start + (lead f + size f * suc m + i) ≡ start + lead f + size f * suc m + i = omega arith in
      put.before (lead f + size f * suc m + i) (omega arith) (omega arith) ∙ ap (λ (z : ℕ). get_or (elements f sent) z 0) u) in
      record { frame = x.0; is = x.1; place = inl (far, omega (arith, x.2)) }
    where
      -- else the end that all frames have would begin one symbol late
      late : (start + lead f) % size f ≡ 0 → Dec (d + alike_at_end f < long f (suc m)) → long f (suc m) ≤ d + alike_at_end f
      late h (no z) = omega arith
      late h (yes z) =
          let n = (size-range f).0 in
          let l = lead-small f in
          let e = (alike-range f).0 in
          let e4 = (alike-range f).1 in
          let q = (start + lead f) / size f in
          let p : start + lead f ≡ size f * ((start + lead f) / size f) = multiple (size f) (start + lead f) h in
          let g = length-elements f sent in
          let y : q + suc m < length sent = lt_of_mul-lt-mul_left (size f) (omega (arith, put.inside)) in
          let u : lead f + size f * suc m + (size f - alike_at_end f) ≡ long f (suc m) - alike_at_end f - 1 + 1 = omega arith in
          let v : start + (long f (suc m) - alike_at_end f - 1) ≡ size f * (q + suc m) + (size f - alike_at_end f - 1) = omega arith in
          let last = sent_at sent (q + suc m) in
          absurd
          (end-begins f (c.times (suc m)) (c.controls (suc m)) last.time last.control (last-valid f (suc m) sent gen window s t w c) (sent-valid f sent gen (q + suc m) y)
          (last_written f (suc m) sent gen window s t w c (size f - alike_at_end f) (omega arith)
          ∙ ap (λ (z : ℕ). get_or window z 0) u
          ∙ put.after (long f (suc m) - alike_at_end f - 1) (omega arith) (omega arith)
          ∙ ap (λ (z : ℕ). get_or (elements f sent) z 0) v
          ∙ element-at f sent (q + suc m) (size f - alike_at_end f - 1) y (omega arith)))

  put-in-early : d ≤ lead f → PutInAt f (suc m) sent start d window t w
  put-in-early b =
      let n = size-large f in
      let l = lead-small f in
      let h =
      aligned f (suc m) sent gen window s t w c 1 (omega arith) (start + (size f - 1))
      (λ i k.
      let u : start + (size f - 1 + i) ≡ start + (size f - 1) + i = omega arith in
      let v : size f * 1 + i ≡ size f - 1 + i + 1 = omega arith in
      ap (λ (z : ℕ). get_or window z 0) v ∙ put.after (size f - 1 + i) (omega arith) (omega arith) ∙ ap (λ (z : ℕ). get_or (elements f sent) z 0) u) in
      let x =
      last-from f (suc m) sent gen window s t w c (start + (size f - 1) + lead f) m h (omega (arith, put.inside))
      (λ i k.
      let u : start + (lead f + size f * suc m + i - 1) ≡ start + (size f - 1) + lead f + size f * m + i = omega arith in
      let v : lead f + size f * suc m + i ≡ lead f + size f * suc m + i - 1 + 1 = omega arith in
      ap (λ (z : ℕ). get_or window z 0) v ∙ put.after (lead f + size f * suc m + i - 1) (omega arith) (omega arith) ∙ ap (λ (z : ℕ). get_or (elements f sent) z 0) u) in
      record { frame = x.0; is = x.1; place = inr (b, omega (arith, x.2)) }

  pub put-in-at : PutInAt f (suc m) sent start d window t w
  put-in-at = go (dec_lt (lead f) d)
    where
      go : Dec (lead f < d) → PutInAt f (suc m) sent start d window t w
      go (yes z) = put-in-late z
      go (no z) = put-in-early (omega arith)
