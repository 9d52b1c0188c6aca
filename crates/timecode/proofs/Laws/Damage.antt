-- A window of its lead and m + 1 frames that is a generator's but at some places: while at most m are damaged it confirms no false time, and undamaged it confirms the last frame's.
use Rattle.timecode.specs.Answers.{accepted}
use Rattle.std.specs.Prelude.{◌≡◌, refl, true, false, List, map, ◌⊎◌, ℕ, zero, suc, ◌+◌, ◌*◌, ◌-◌, ◌/◌, ◌%◌, ◌<◌, ◌≤◌, length, get_or}
use Rattle.std.proofs.Common.{sym, ap, ◌∙◌, inl, inr, mul-le-mul_left, add-zero, arith, ext_get_or}
use Rattle.std.proofs.Math.Nat.{div-add-mod, lt_of_mul-lt-mul_left, add-mul-mod_self_left, le_of_mul-le-mul_left, div-eq_of_lt-le}
use Rattle.std.proofs.lemmas.List.{length-map}
use Rattle.timecode.specs.Formats.{is_x, member, size}
use Rattle.timecode.specs.Frames.{Follows, written, read_of, Sent, Generator, elements, sent_at, EndsFrame, Apart}
use Rattle.timecode.specs.Laws.Generators.{frame_of}
use Rattle.timecode.proofs.Laws.Generators.{length-elements, element-at, sent-valid, frame-reads, marks, x-marks, pair}
use Rattle.timecode.proofs.Laws.Marks.{size-positive, size-large, ends-marked, last-element}
use Rattle.timecode.proofs.Laws.Places.{member-map, missed}
use Rattle.timecode.proofs.Laws.Reading.{accepted-was-written}
use Rattle.timecode.proofs.Laws.Successors.{two-that-follow-are-apart}
use Rattle.timecode.proofs.Laws.Tests.{by-test}
use Rattle.timecode.specs.Laws.Windows.{long, Confirmed, time_of}
use Rattle.timecode.proofs.Laws.Windows.{lead-one, lead-none, opens-so, length-frame-in, at-frame, first_of, before_of}
use Rattle.timecode.proofs.Laws.Writing.{length-written}
use Rattle.timecode.specs.Stream.{lead, frame_in}
use Rattle.timecode.specs.declared.Format.{Format}
use Rattle.timecode.specs.declared.Time.{Time}
use Rattle.timecode.specs.Laws.Damage.{Near}

module _ (f : Format) (m : ℕ) (sent : List Sent) (gen : Generator f sent) (start : ℕ) (places window : List ℕ) (near : Near f m sent start places window) where
  -- one of m + 1 stretches of n places is untouched
  module _ (few : length places ≤ m) (t : Time) (w : ℕ) (c : Confirmed f m window t w) where
    spared : (j : ℕ) × (j ≤ m) × ((i : ℕ) → i < size f → member (size f * j + i) places ≡ false)
    spared =
        let x = missed (suc m) (map (λ p. p / size f) places) (omega (arith, length-map places (λ p. p / size f))) in
        let j = x.0 in (
          j,
          omega (arith, x.1),
          λ i h.
              let q : (size f * j + i) / size f ≡ j = div-eq_of_lt-le (size f) (omega arith) (omega arith) in
              member-map (λ p. p / size f) (size f * j + i) places (rw q x.2),
        )

    -- so the window begins with the lead of a frame,
    aligned-pair : is_x f ≡ false → (start + lead f) % size f ≡ 0
    aligned-pair n =
        let x = spared in
        let j = x.0 in
        let one = lead-one f n in
        let u0 : size f * j + 0 ≡ size f * j = omega arith in
        let u1 : size f * j + 1 ≡ lead f + size f * j = omega arith in
        let h0 : member (size f * j) places ≡ false = rw u0 at (x.2 0 (size-positive f)) in
        let h1 : member (lead f + size f * j) places ≡ false = rw u1 at (x.2 1 (size-large f)) in
        let y = mul-le-mul_left (size f) x.1 in
        let m0 = marks f sent gen (start + size f * j) (sym (near.same (size f * j) (omega (arith, size-positive f)) h0) ∙ before_of f m window t w c n j x.1) n in
        let m1 = marks f sent gen (start + (lead f + size f * j)) (sym (near.same (lead f + size f * j) (omega (arith, size-positive f)) h1) ∙ first_of f m window t w c j x.1) n in
        let u : start + (lead f + size f * j) ≡ start + size f * j + 1 = omega arith in
        let v : start + size f * j + 1 ≡ start + lead f + size f * j = omega arith in
        sym (add-mul-mod_self_left (start + lead f) (size f) j) ∙ ap (λ (k : ℕ). k % size f) (sym v) ∙ pair f n (start + size f * j) m0 (rw u at m1)

    -- and in X, where a frame's first mark is untouched, with a frame
    aligned-x : is_x f ≡ true → (start + lead f) % size f ≡ 0
    aligned-x n =
        let x = spared in
        let j = x.0 in
        let none = lead-none f n in
        let u : size f * j + 0 ≡ lead f + size f * j = omega arith in
        let h : member (lead f + size f * j) places ≡ false = rw u at (x.2 0 (size-positive f)) in
        let y = mul-le-mul_left (size f) x.1 in
        let m1 = x-marks f sent gen (start + (lead f + size f * j)) (sym (near.same (lead f + size f * j) (omega (arith, size-positive f)) h) ∙ first_of f m window t w c j x.1) n in
        let v : start + (lead f + size f * j) ≡ start + lead f + size f * j = omega arith in
        sym (add-mul-mod_self_left (start + lead f) (size f) j) ∙ ap (λ (k : ℕ). k % size f) (sym v) ∙ m1

    aligned : (start + lead f) % size f ≡ 0
    aligned = by-test (is_x f) aligned-x aligned-pair

  module _ (q : ℕ) (a : start + lead f ≡ size f * q) where
    pub frames-inside : q + m < length sent
    frames-inside = le_of_mul-le-mul_left {k = size f} (omega (arith, near.inside, length-elements f sent)) (size-positive f)

    -- an untouched element of frame j
    frame-near : (j i : ℕ) → j ≤ m → i < size f → member (lead f + size f * j + i) places ≡ false → get_or (frame_in f window j) i 0 ≡ get_or (frame_of f (sent_at sent (q + j))) i 0
    frame-near j i b h d =
        let u : start + (lead f + size f * j + i) ≡ size f * (q + j) + i = omega arith in
        at-frame f window j i h
        ∙ near.same (lead f + size f * j + i) (omega (arith, mul-le-mul_left (size f) b)) d
        ∙ ap (λ (x : ℕ). get_or (elements f sent) x 0) u
        ∙ element-at f sent (q + j) i (omega (arith, frames-inside)) h

    -- an untouched frame reads as it was sent
    untouched-reads : (j : ℕ) → j ≤ m → ((i : ℕ) → i < size f → member (lead f + size f * j + i) places ≡ false) → read_of f (frame_in f window j) ≡ accepted (sent_at sent (q + j)).time (sent_at sent (q + j)).control
    untouched-reads j b d = ap (read_of f) whole ∙ frame-reads f sent gen (q + j) (omega (arith, frames-inside))
      where
        n : length (frame_in f window j) ≡ size f
        n = length-frame-in f m window near.long_is j b

        whole : frame_in f window j ≡ frame_of f (sent_at sent (q + j))
        whole =
            ext_get_or 0 (frame_in f window j) (frame_of f (sent_at sent (q + j))) (n ∙ sym (length-written f (sent_at sent (q + j)).time (sent_at sent (q + j)).control))
            (λ i x. let h : i < size f = omega (arith, n) in frame-near j i b h (d i h))

    module _ (t : Time) (w : ℕ) (c : Confirmed f m window t w) where
      -- from a right time to the next
      right-next : length places < 7 → (j : ℕ) → suc j ≤ m → c.times j ≡ (sent_at sent (q + j)).time → c.times (suc j) ≡ (sent_at sent (q + suc j)).time
      right-next few j b r = pick (two-that-follow-are-apart f (c.times j) (c.times (suc j)) (sent_at sent (q + suc j)).time (c.follows j b) (rw r sent-follows))
        where
          sent-follows : Follows f (sent_at sent (q + j)).time (sent_at sent (q + suc j)).time
          sent-follows = let u : suc (q + j) ≡ q + suc j = omega arith in rw u at (gen.steps (q + j) (omega (arith, frames-inside)))

          same : (i : ℕ) → i < size f → member i (map (λ p. p - (lead f + size f * suc j)) places) ≡ false
              → get_or (written f (c.times (suc j)) (c.controls (suc j))) i 0 ≡ get_or (written f (sent_at sent (q + suc j)).time (sent_at sent (q + suc j)).control) i 0
          same i h d =
              let u : lead f + size f * suc j + i - (lead f + size f * suc j) ≡ i = omega arith in
              ap (λ (x : List ℕ). get_or x i 0) (accepted-was-written f (frame_in f window (suc j)) (c.times (suc j)) (c.controls (suc j)) (c.reads (suc j) b)).1
              ∙ frame-near (suc j) i b h (member-map (λ p. p - (lead f + size f * suc j)) (lead f + size f * suc j + i) places (rw u d))

          pick : (c.times (suc j) ≡ (sent_at sent (q + suc j)).time) ⊎ Apart f (c.times (suc j)) (sent_at sent (q + suc j)).time → c.times (suc j) ≡ (sent_at sent (q + suc j)).time
          pick (inl p) = p
          pick (inr p) =
              absurd
              (p (c.controls (suc j)) (sent_at sent (q + suc j)).control (map (λ p. p - (lead f + size f * suc j)) places) (omega (arith, length-map places (λ p. p - (lead f + size f * suc j)))) same)

      right-on : length places < 7 → (j d : ℕ) → j + d ≤ m → c.times j ≡ (sent_at sent (q + j)).time → c.times (j + d) ≡ (sent_at sent (q + (j + d))).time
      right-on few j zero b r = rw (add-zero j) r
      right-on few j (suc d) b r = let u : j + suc d ≡ suc (j + d) = omega arith in rw u (right-next few (j + d) (omega arith) (right-on few j d (omega arith) r))

      -- some frame is untouched, and the times behind it are right
      right-last : length places ≤ m → length places < 7 → c.times m ≡ (sent_at sent (q + m)).time
      right-last few less =
          let x = missed (suc m) (map (λ p. (p - lead f) / size f) places) (omega (arith, length-map places (λ p. (p - lead f) / size f))) in
          let j = x.0 in
          let b : j ≤ m = omega (arith, x.1) in
          let d : (i : ℕ) → i < size f → member (lead f + size f * j + i) places ≡ false =
          (λ i h.
          let y : (lead f + size f * j + i - lead f) / size f ≡ j = div-eq_of_lt-le (size f) (omega arith) (omega arith) in
          member-map (λ p. (p - lead f) / size f) (lead f + size f * j + i) places (rw y x.2)) in
          let right : c.times j ≡ (sent_at sent (q + j)).time = ap time_of (sym (c.reads j b) ∙ untouched-reads j b d) in
          let u : j + (m - j) ≡ m = omega arith in
          rw u at (right-on less j (m - j) (omega arith) right)

  pub no_false_time : length places ≤ m → length places < 7 → (t : Time) (w : ℕ) → Confirmed f m window t w → EndsFrame f sent (start + long f m) t
  no_false_time few less t w c =
      let q = (start + lead f) / size f in
      let a : start + lead f ≡ size f * q = omega (arith, div-add-mod (start + lead f) (size f), aligned few t w c) in
      record { frame = q + m; inside = frames-inside q a; whole = omega arith; time = sym c.last_time ∙ right-last q a t w c few less }

  pub intact : ((k : ℕ) → k < long f m → member k places ≡ false) → (q : ℕ) → start + lead f ≡ size f * q → Confirmed f m window (sent_at sent (q + m)).time (sent_at sent (q + m)).control
  intact clear q a =
      record {
        times = λ j. (sent_at sent (q + j)).time;
        controls = λ j. (sent_at sent (q + j)).control;
        begins = opens-so f window (mark-before q a);
        reads = λ j b. untouched-reads q a j b (λ i h. clear (lead f + size f * j + i) (omega (arith, mul-le-mul_left (size f) b)));
        follows = λ j b. let u : suc (q + j) ≡ q + suc j = omega arith in rw u at (gen.steps (q + j) (omega (arith, frames-inside q a)));
        last_time = refl;
        last_control = refl;
      }
    where
      mark-before : (q : ℕ) → start + lead f ≡ size f * q → is_x f ≡ false → get_or window 0 0 ≡ 2
      mark-before zero a n = let z : ⊥ = omega (arith, lead-one f n) in absurd z
      mark-before (suc q) a n =
          let one = lead-one f n in
          let u : start + 0 ≡ size f * q + (size f - 1) = omega (arith, size-positive f) in
          let b : suc q < length sent = lt_of_mul-lt-mul_left (size f) (omega (arith, near.inside, length-elements f sent, size-positive f)) in
          near.same 0 (omega arith) (clear 0 (omega arith))
          ∙ ap (λ (x : ℕ). get_or (elements f sent) x 0) u
          ∙ element-at f sent q (size f - 1) (omega arith) (omega (arith, size-positive f))
          ∙ last-element f (sent_at sent q).time (sent_at sent q).control (sent-valid f sent gen q (omega arith))
          ∙ ends-marked f n
