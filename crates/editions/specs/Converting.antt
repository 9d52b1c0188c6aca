-- What the converters write is what Write takes: the other edition is known, the time lies on it, and the control word fits.
use Rattle.timecode.specs.Answers.{done, accepted}
use Rattle.std.specs.Prelude.{◌≡◌, refl, true, List, [], ◌∷◌, ℕ, ◌*◌, ◌/◌, ◌^◌, ◌<◌, ◌≤◌, leb, length, Err}
use Rattle.std.proofs.Math.Path.{sym}
use Rattle.std.proofs.Common.{subst, ◌∙◌, arith, leb-true, le-leb}
use Rattle.timecode.specs.Editions.{with_year, without_year, time_in_year, nine_bits, is_earlier, check_forward, forward_checks}
use Rattle.timecode.specs.Formats.{A, B, member, row_of, size, carries_year, carries_control, last_year, days_in}
use Rattle.timecode.specs.Frames.{Valid, write_of, write_leaves, written}
use Rattle.timecode.proofs.Laws.Checks.{done-taken, all-passed}
use Rattle.timecode.specs.Laws.Editions.{Editions}
use Rattle.timecode.proofs.Laws.Editions.{editions, later-valid, earlier-valid, with-without}
use Rattle.timecode.proofs.Laws.Tests.{by-test, and_left}
use Rattle.timecode.proofs.Laws.Writing.{takes, leaves}
use Rattle.timecode.specs.declared.Format.{Format}
use Rattle.timecode.specs.declared.Time.{Time}
use Rattle.layout.specs.Letters.{in_row}

-- expressions 0 to 3
pub earlier-row : (e : ℕ) → member e (0 ∷ 1 ∷ 2 ∷ 3 ∷ []) ≡ leb e 3
earlier-row e = in_row 4 0 3 refl e ∙ rw (le-leb 0 e (omega arith))

pub earlier-below : (f : Format) → is_earlier f ≡ true → f.expression ≤ 3
unfolding is_earlier
earlier-below f h =
    let e = and_left (member f.expression (0 ∷ 1 ∷ 2 ∷ 3 ∷ [])) (member f.letter (A ∷ B ∷ [])) h in
    leb-true f.expression 3 (sym (earlier-row f.expression) ∙ e)

pub later-from : (f : Format) → carries_year f ≡ true → 4 ≤ f.expression
unfolding carries_year
later-from f h =
    let e = and_left (member f.expression (4 ∷ 5 ∷ 6 ∷ 7 ∷ [])) (member f.letter (A ∷ B ∷ [])) h in
    leb-true 4 f.expression (and_left (leb 4 f.expression) (leb f.expression 7) (sym (in_row 4 4 7 refl f.expression) ∙ e))

pub later-size : (f : Format) → size (with_year f) ≡ size f
unfolding size row_of
later-size f = refl

pub earlier-size : (f : Format) → size (without_year f) ≡ size f
unfolding size row_of
earlier-size f = refl

-- ---- forward

module _ (f : Format) (t : Time) (w year : ℕ) (lent : List ℕ) (k : is_earlier f ≡ true) (v : Valid f t w) (n : length lent ≡ size f) where
  later-taken : check_forward year (accepted t w) ≡ done → write_of (with_year f) (time_in_year t year) (w / nine_bits) lent ≡ done
  unfolding check_forward
  later-taken h =
      let passed = (all-passed Err (forward_checks year t w) done done done-taken h).0 in
      takes (with_year f) (time_in_year t year) (w / nine_bits) lent
      (later-valid f (editions f k) t w year v (leb-true year last_year (passed 0)) (leb-true t.day (days_in year) (passed 1))) (n ∙ sym (later-size f))

  pub forward-put : (g : Format) (u : Time) → g ≡ with_year f → u ≡ time_in_year t year → check_forward year (accepted t w) ≡ done
      → (write_of g u (w / nine_bits) lent ≡ done) × (write_leaves g u (w / nine_bits) lent ≡ written (with_year f) (time_in_year t year) (w / nine_bits))
  forward-put g u p q h = rw (p, q) (later-taken h, leaves (with_year f) (time_in_year t year) (w / nine_bits) lent (later-taken h))

-- ---- backward

module _ (f : Format) (t : Time) (w : ℕ) (y : carries_year f ≡ true) (v : Valid f t w) where
  abbrev both : Editions (without_year f)
  both = editions (without_year f) (with-without f y).0

  abbrev later : Valid (with_year (without_year f)) t w
  later = subst (λ (g : Format). Valid g t w) (sym (with-without f y).1) v

  pub earlier-room : w < 262144
  earlier-room =
      by-test (carries_control (without_year f))
      (λ h. let m : w < 2 ^ 18 = rw (both.later_bits, h) at later.room in m)
      (λ h. let m : w < 2 ^ 0 = rw (both.later_bits, h) at later.room in omega arith)

  pub backward-put : (lent : List ℕ) → length lent ≡ size f → (g : Format) (u : Time) → g ≡ without_year f → u ≡ time_in_year t 0
      → (write_of g u (w * nine_bits) lent ≡ done) × (write_leaves g u (w * nine_bits) lent ≡ written (without_year f) (time_in_year t 0) (w * nine_bits))
  backward-put lent n g u p q =
      let taken = takes (without_year f) (time_in_year t 0) (w * nine_bits) lent (earlier-valid (without_year f) both t w 0 later) (n ∙ sym (earlier-size f)) in
      rw (p, q) (taken, leaves (without_year f) (time_in_year t 0) (w * nine_bits) lent taken)
