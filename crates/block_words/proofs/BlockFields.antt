-- The struct's number and fields are those of the answer's result; a block refuses with no index, so the struct leaves out no value. The words after a block are its reader's.
use Rattle.block.specs.declared.Taken.{Taken}
use Rattle.std.specs.Prelude.{◌≡◌, refl, List, [], ◌∷◌, ℕ, pos, Result, Ok, Err}
use Rattle.std.proofs.Common.{sym, ap}
use Rattle.timecode.proofs.Laws.Tests.{by-test}
use Rattle.timecode.specs.Stream.{is_setting}
use Rattle.timecode.specs.declared.Refusal.{Refusal}
use Rattle.stream.specs.Feeding.{is_valid}
use Rattle.stream.specs.declared.Reader.{Reader}
use Rattle.block.specs.Blocks.{Lists, are_records, block_answer, block_result}
use Rattle.ffi.specs.Fields.{values_in}
use Rattle.ffi.proofs.Fields.{refusal-numbered}
use Rattle.ffi.specs.Indexes.{refused_values}
use Rattle.reader_words.proofs.WordLaws.{into-words}
use Rattle.reader_words.specs.Words.{words_for}
use Rattle.block_words.specs.BlockWords.{block_result_of, fed_block_with, block_words_left}

pub block-number : (a : Result Taken Refusal) → (block_result_of a).number ≡ (block_result a).number
block-number (Ok b) = refl
block-number (Err x) = refl

-- in the order of the result's values: the symbols taken, the reports put in, why it stopped
pub block-values : (a : Result Taken Refusal) → pos (block_result_of a).taken ∷ pos (block_result_of a).reports ∷ pos (block_result_of a).stop ∷ [] ≡ values_in (block_result a) (pos 0 ∷ pos 0 ∷ pos 0 ∷ [])
block-values (Ok b) = refl
block-values (Err x) = rw (refusal-numbered x)

pub block-no-index : (r : Reader) (ss : List ℕ) (l : Lists) → refused_values (block_result (block_answer r ss l)) ≡ []
unfolding block_answer
block-no-index r ss l = by-test (is_valid r) (λ v. rw v (by-test (is_setting r.setting) (λ k. rw k (by-test (are_records l) (λ y. rw y) (λ n. rw n))) (λ n. rw n))) (λ n. rw n)

-- the words after a block are those of the reader that it gives back, refused or not
pub left-block : (r next : Reader) (a : Result Taken Refusal) → ((x : Refusal) → a ≡ Err x → next ≡ r) → block_words_left (fed_block_with next a) (words_for r) ≡ words_for next
left-block r next (Ok b) h = into-words r next
left-block r next (Err x) h = rw (refusal-numbered x) (ap words_for (sym (h x refl)))
