-- What is behind the bytes of a page that holds so many, in memory of a size.
use Rattle.std.proofs.Common.{arith, ◌≡◌, ℕ, ◌≤◌, ◌<◌, ◌+◌, ◌-◌, List, [], ◌∷◌, ◌++◌, length, take, sym, ap, ◌∙◌, take_all, min}
use Rattle.std.proofs.lemmas.List.{take-append-le, take_more_set, take_min, length-take-le, length-append}
use Rattle.std.proofs.Math.Seq.{take-append-add}
use Rattle.std.proofs.Math.ListN.{set}

module _ (bytes page : List ℕ) (filled : ℕ) (is : take filled bytes ≡ page) where
  -- as many bytes as there is room for
  pub put-behind : (text : List ℕ) (k : ℕ) → filled ≤ length bytes → k ≡ min (length bytes - filled) (length text) → take filled bytes ++ take k text ≡ take (length bytes) (page ++ text)
  put-behind text k h e =
      let front : length page ≡ filled = sym (ap length is) ∙ length-take-le filled bytes h in
      let whole : length bytes ≡ length page + (length bytes - filled) = omega arith in
      ap (λ (xs : List ℕ). xs ++ take k text) is
      ∙ ap (λ (ys : List ℕ). page ++ ys) (ap (λ (m : ℕ). take m text) e ∙ take_min (length bytes - filled) text)
      ∙ sym (ap (λ (m : ℕ). take m (page ++ text)) whole ∙ take-append-add page text (length bytes - filled))

  pub push-behind : (byte : ℕ) → filled < length bytes → take (filled + 1) (set bytes filled byte) ≡ take (length bytes) (page ++ byte ∷ [])
  push-behind byte h =
      let front : length page ≡ filled = sym (ap length is) ∙ length-take-le filled bytes (omega arith) in
      take_more_set bytes filled byte h ∙ ap (λ (xs : List ℕ). xs ++ byte ∷ []) is ∙ sym (take_all (length bytes) (page ++ byte ∷ []) (omega (arith, length-append page (byte ∷ []))))

  -- where there is no room
  pub full : (text : List ℕ) → filled ≡ length bytes → page ≡ take (length bytes) (page ++ text)
  full text e =
      let front : length page ≡ filled = sym (ap length is) ∙ length-take-le filled bytes (omega arith) in
      sym (take-append-le (length bytes) page text (omega arith) ∙ take_all (length bytes) page (omega arith))
