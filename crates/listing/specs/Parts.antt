-- The bytes may come in parts: what each part makes of the progress, and the lines that it brings.
use Rattle.std.specs.Prelude.{◌≡◌, refl, List, ◌++◌, ℕ, zero, suc, ◌+◌, ◌-◌, ◌<◌, ◌≤◌, length, take, drop}
use Rattle.std.proofs.Common.{sym, ap, ◌∙◌, arith, take-add}
use Rattle.std.proofs.Math.Seq.{take-length}
use Rattle.characters.specs.ByteSymbols.{feeds_of}
use Rattle.progress.specs.Progress.{after_feeds, text_feeds}
use Rattle.hearing.specs.Bytes.{after_of, text_of, after-parts, text-parts}
use Rattle.hearing.specs.Hearing.{rest_of, rest_is}
use Rattle.progress.specs.declared.Progress.{Progress}

-- ---- the lines of the bytes taken stand in the first places

pub record ListedTo (from p : Progress) (bytes out : List ℕ) (taken filled : ℕ) : Type 0 where
  pub reached : p ≡ after_of from (take taken bytes)
  pub lines_are : take filled out ≡ text_of from (take taken bytes)

pub listed_start : (p : Progress) (bytes out : List ℕ) → ListedTo p p bytes out 0 0
unfolding feeds_of after_feeds text_feeds
listed_start p bytes out = record { reached = refl; lines_are = refl }

pub reached-start : (p : Progress) (bytes : List ℕ) → p ≡ after_of p (take 0 bytes)
unfolding feeds_of after_feeds
reached-start p bytes = refl

-- the next k bytes, and what they bring
module _ (from p q : Progress) (bytes : List ℕ) (taken k : ℕ) (before : p ≡ after_of from (take taken bytes)) where
  pub reached-next : q ≡ after_of p (take k (drop taken bytes)) → q ≡ after_of from (take (taken + k) bytes)
  reached-next reached =
      reached ∙ sym (rw (take-add taken k bytes) (after-parts from (take taken bytes) (take k (drop taken bytes)) ∙ ap (λ (s : Progress). after_of s (take k (drop taken bytes))) (sym before)))

  pub reached-turn : q ≡ after_of p (take k (rest_of bytes taken)) → q ≡ after_of from (take (taken + k) bytes)
  reached-turn reached = reached-next (reached ∙ ap (λ (xs : List ℕ). after_of p (take k xs)) (rest_is bytes taken))

pub listed-turn : (from p q : Progress) (bytes out out' : List ℕ) (taken filled end filled' : ℕ) → taken ≤ end → ListedTo from p bytes out taken filled → q ≡ after_of p (take (end - taken) (drop taken bytes)) → take filled' out' ≡ take filled out ++ text_of p (take (end - taken) (drop taken bytes)) → ListedTo from q bytes out' end filled'
listed-turn from p q bytes out out' taken filled end filled' h t reached put =
    let k = end - taken in
    let whole : taken + (end - taken) ≡ end = omega arith in
    record {
      reached = rw whole at (reached-next from p q bytes taken k t.reached reached);
      lines_are = rw (← whole) (sym (rw (take-add taken k bytes) (text-parts from (take taken bytes) (take k (drop taken bytes)) ∙ rw (put, t.lines_are, t.reached))));
    }

-- all of them
pub reached-all : (from p : Progress) (bytes : List ℕ) (taken : ℕ) → taken ≡ length bytes → p ≡ after_of from (take taken bytes) → p ≡ after_of from bytes
reached-all from p bytes taken all reached = reached ∙ ap (after_of from) (ap (λ (k : ℕ). take k bytes) all ∙ take-length bytes)

-- where something stands, something was taken
pub some-taken : (taken filled most : ℕ) → (taken ≡ 0 → filled ≡ 0) → most < filled → 1 ≤ taken
some-taken zero filled most h m = let n : ⊥ = omega (arith, h refl) in absurd n
some-taken (suc k) filled most h m = omega arith
