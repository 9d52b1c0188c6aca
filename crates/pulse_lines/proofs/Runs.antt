-- One byte more in a run, at each turn of the loops that look for its end; and worked lines.
use Rattle.std.specs.Prelude.{◌≡◌, refl, Bool, true, false, List, [], ◌∷◌, ℕ, zero, suc, ◌+◌, ◌-◌, ◌<◌, ◌≤◌, get_or, length, drop}
use Rattle.std.proofs.Math.Path.{sym}
use Rattle.std.proofs.Math.Nat.{eq-or-lt_of_le}
use Rattle.std.proofs.Common.{inl, inr, ◌∙◌, ap, add-zero, arith, drop_of_length-le, drop-cons}
use Rattle.arguments.specs.Numbers.{digit_of, are_digit_bytes, value_from, limited, number_of}
use Rattle.pulse_lines.specs.PulseLines.{is_blank, is_digit, run_of, end_of, comma_end, separator_end, width_start, width_end, period_start, period_end, pulse_line_of}
use Rattle.pulse_lines.specs.declared.PulseLine.TheVariants.{Pulse, Empty, Other}

-- A run of n bytes that pass the test, and then none that does.
module _ (t : ℕ → Bool) (line : List ℕ) where
  run-length : (n from : ℕ) → from + n ≤ length line → ((k : ℕ) → from ≤ k → k < from + n → t (get_or line k 0) ≡ true) → (from + n < length line → t (get_or line (from + n) 0) ≡ false) → n ≡ run_of t (drop from line)
  unfolding run_of
  run-length zero from within passed stopped =
      elim (eq-or-lt_of_le within) [ inl e ↦ rw (drop_of_length-le line {i = from} (omega arith)) | inr h ↦ (let h' : from < length line = omega arith in let no : t (get_or line from 0) ≡ false = rw (add-zero from) at (stopped h) in rw (drop-cons line from 0 h', no)) ]
  run-length (suc n) from within passed stopped =
      let h : from < length line = omega arith in
      rw (drop-cons line from 0 h, passed from (omega arith) (omega arith))
      (ap suc (run-length n (suc from) (omega arith) (λ k a b. passed k (omega arith) (omega arith)) (λ g. rw (move from n) (stopped (omega arith)))))
    where
      move : (from n : ℕ) → suc from + n ≡ from + suc n
      move from n = omega arith

  pub run_ends : (from end : ℕ) → from ≤ end → end ≤ length line → ((k : ℕ) → from ≤ k → k < end → t (get_or line k 0) ≡ true) → (end < length line → t (get_or line end 0) ≡ false) → end ≡ end_of t line from
  unfolding end_of
  run_ends from end a b passed stopped =
      let whole : from + (end - from) ≡ end = omega arith in
      sym whole ∙ ap (λ (n : ℕ). from + n) (run-length (end - from) from (omega arith) (λ k p q. passed k p (omega arith)) (λ g. rw whole (stopped (omega arith))))

-- ---- worked lines

-- with a comma, CR at the end
pub line-comma : pulse_line_of (50 ∷ 48 ∷ 48 ∷ 44 ∷ 49 ∷ 48 ∷ 48 ∷ 48 ∷ 13 ∷ []) ≡ Pulse 200 1000
unfolding pulse_line_of width_start width_end period_start period_end separator_end comma_end end_of run_of is_blank is_digit number_of are_digit_bytes digit_of value_from limited
line-comma = refl

-- with blanks
pub line-blanks : pulse_line_of (32 ∷ 50 ∷ 48 ∷ 48 ∷ 9 ∷ 32 ∷ 49 ∷ 48 ∷ 48 ∷ 48 ∷ 32 ∷ []) ≡ Pulse 200 1000
unfolding pulse_line_of width_start width_end period_start period_end separator_end comma_end end_of run_of is_blank is_digit number_of are_digit_bytes digit_of value_from limited
line-blanks = refl

-- blanks alone
pub line-nothing : pulse_line_of (32 ∷ 9 ∷ 13 ∷ []) ≡ Empty
unfolding pulse_line_of width_start width_end period_start period_end separator_end comma_end end_of run_of is_blank is_digit number_of are_digit_bytes digit_of value_from limited
line-nothing = refl

-- one number
pub line-one : pulse_line_of (50 ∷ 48 ∷ 48 ∷ []) ≡ Other
unfolding pulse_line_of width_start width_end period_start period_end separator_end comma_end end_of run_of is_blank is_digit number_of are_digit_bytes digit_of value_from limited
line-one = refl

-- two commas
pub line-two-commas : pulse_line_of (50 ∷ 48 ∷ 48 ∷ 44 ∷ 44 ∷ 49 ∷ 48 ∷ 48 ∷ 48 ∷ []) ≡ Other
unfolding pulse_line_of width_start width_end period_start period_end separator_end comma_end end_of run_of is_blank is_digit number_of are_digit_bytes digit_of value_from limited
line-two-commas = refl

-- three numbers
pub line-three : pulse_line_of (49 ∷ 32 ∷ 50 ∷ 32 ∷ 51 ∷ []) ≡ Other
unfolding pulse_line_of width_start width_end period_start period_end separator_end comma_end end_of run_of is_blank is_digit number_of are_digit_bytes digit_of value_from limited
line-three = refl

-- 2^32
pub line-too-large : pulse_line_of (52 ∷ 50 ∷ 57 ∷ 52 ∷ 57 ∷ 54 ∷ 55 ∷ 50 ∷ 57 ∷ 54 ∷ 32 ∷ 49 ∷ []) ≡ Other
unfolding pulse_line_of width_start width_end period_start period_end separator_end comma_end end_of run_of is_blank is_digit number_of are_digit_bytes digit_of value_from limited
line-too-large = refl

-- 2^32 - 1
pub line-largest : pulse_line_of (52 ∷ 50 ∷ 57 ∷ 52 ∷ 57 ∷ 54 ∷ 55 ∷ 50 ∷ 57 ∷ 53 ∷ 44 ∷ 48 ∷ []) ≡ Pulse 4294967295 0
unfolding pulse_line_of width_start width_end period_start period_end separator_end comma_end end_of run_of is_blank is_digit number_of are_digit_bytes digit_of value_from limited
line-largest = refl
