-- `known_size` meets its contract: each letter takes the expressions of its row, and any other letter none.
use mathlib.Core.Path.{◌≡◌, refl, sym, ◌∙◌}
use mathlib.Core.Bool.{cond, ◌&&◌}
use Prim.Native.Nat.{ℕ, ◌<◌, ◌≤◌}
use native.Mathlib.Omega.{arith}
use lib.Dec.{leb, ltb}
use borrow.Author.Tests.{ltb-true, ltb-false}
use Rattle.timecode.specs.Formats.{A, B, X, table, look_up}
use Rattle.timecode.proofs.Laws.Tests.{by-test}
use Rattle.reader_words.specs.Words.{byte_in}
use Rattle.word_feed.specs.InPlace.{known_size, other_size, letter-size, other-sizes}
use Rattle.word_feed.proofs.known_size.Goals as goal
use Rattle.word_feed.proofs.known_size.Goals.{in_default-via-then-letter-lt65, in_default-via-else-letter-lt65+else-letter-lt67}

a_or_b : (l e : ℕ) → 65 ≤ l → l < 67 → known_size l e ≡ cond (leb 0 e && leb e 7) 100 0
unfolding look_up table byte_in
a_or_b l e low high =
    by-test (ltb l 66)
    (λ y. let is : l ≡ 65 = omega (arith, ltb-true l 66 y) in rw is (letter-size A e 8 0 7 100 refl refl refl refl (omega arith) (omega arith)))
    (λ n. let is : l ≡ 66 = omega (arith, ltb-false l 66 n) in rw is (letter-size B e 8 0 7 100 refl refl refl refl (omega arith) (omega arith)))

other : (l e n m : ℕ) → (l ≡ 65 → ⊥) → (l ≡ 66 → ⊥) → (l ≡ 88 → ⊥) → n ≡ other_size l → m ≡ cond (leb 1 e && leb e 2) n 0 → m ≡ known_size l e
other l e n m a b x h g = rw (g, h) (sym (other-sizes l e a b x))

pub returns-in-88 : goal.returns-in-88
unfolding look_up table byte_in
returns-in-88 c = rw c.in-88.is (c.size_within.ensures ∙ sym (letter-size X c.args.expression 1 2 2 25 refl refl refl refl (omega arith) (omega arith)))

pub returns-in-65 : goal.returns-in-65
returns-in-65 c = c.size_within-in-65.ensures ∙ sym (a_or_b c.args.letter c.args.expression (omega arith) (omega arith))

pub returns-in_default : goal.returns-in_default
returns-in_default c =
    elim c.in_default.branch [
      | in_default-via-then-letter-lt65 w ↦ other c.args.letter c.args.expression _ _ (λ p. omega arith) (λ p. omega arith) (λ p. omega arith) c.other_size.ensures c.size_within-in_default.ensures
      | in_default-via-else-letter-lt65+else-letter-lt67 w ↦ other c.args.letter c.args.expression _ _ (λ p. omega arith) (λ p. omega arith) (λ p. omega arith) c.other_size.ensures c.size_within-in_default.ensures
    ]
