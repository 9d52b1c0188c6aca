-- A block by its reader's words: the reader that fits its widths comes back from them.
use Rattle.block.specs.declared.Taken.{Taken}
use Rattle.timecode.specs.declared.Refusal.{Refusal}
use Rattle.std.specs.Prelude.{◌≡◌, List, ℕ, take, Result}
use Rattle.std.proofs.Common.{ap, ap₂, ◌∙◌}
use Rattle.stream.specs.declared.Reader.{Reader}
use Rattle.block.specs.Blocks.{Lists, block_for, feed_block_of, lists_left}
use Rattle.block.proofs.Folds.{refused-block-leaves}
use Rattle.reader_words.specs.WordLaws.{Fits}
use Rattle.reader_words.proofs.WordLaws.{words_back, after-fits}
use Rattle.reader_words.specs.Words.{words_for, reader_in}
use Rattle.block_words.proofs.BlockFields.{left-block}
use Rattle.block_words.specs.BlockWords.{fed_block_with, feed_block_words, block_words_left}

module _ (r : Reader) (ss : List ℕ) (l : Lists) (fits : Fits r) where
  fits_after : Fits (feed_block_of r ss l).reader
  unfolding feed_block_of
  fits_after = after-fits r (take (block_for r ss l).taken ss) fits

  pub by-words : {answer : Result Taken Refusal} {left : List ℕ} {l₁ : Lists} → answer ≡ (feed_block_words (words_for r) ss l).answer → left ≡ block_words_left (feed_block_words (words_for r) ss l) (words_for r) → l₁ ≡ lists_left (block_for (reader_in (words_for r)) ss l) l
      → (fed_block_with (reader_in left) answer ≡ feed_block_of r ss l) × (l₁ ≡ lists_left (block_for r ss l) l)
  by-words {answer} {left} {l₁} a e q =
      let fed = feed_block_of r ss l in
      let same = words_back r fits in
      let answered : answer ≡ fed.answer = rw same at a in
      let words : left ≡ words_for fed.reader = rw same at e ∙ left-block r fed.reader fed.answer (λ x z. (refused-block-leaves r ss l x z).0) in
      let reader : reader_in left ≡ fed.reader = ap reader_in words ∙ words_back fed.reader fits_after in
      (ap₂ fed_block_with reader answered, rw same at q)
