-- `feed_block` meets its contract: the block of the reader's words, and the reader in the words after it.
use native.Mathlib.Omega.{arith}
use mathlib.Core.Path.{ap, ◌∙◌}
use Rattle.block.specs.Blocks.{lists}
use Rattle.block_words.specs.BlockWords.{fed_block_with}
use Rattle.reader_words.specs.WordLaws.{Fits}
use Rattle.stream.specs.declared.Reader.{Reader}
use Rattle.block_feed.specs.FeedBlocks.{by-words}
use Rattle.block_feed.proofs.feed_block.Goals as goal

joined : {A B C : Type 0} → record { value : A; reader_after : B; controls_after : C } → A × (B × C)
joined e = (e.value, (e.reader_after, e.controls_after))

both : {A B : Type 0} → A × B → record { value : A; controls_after : B }
both p = record { value = p.0; controls_after = p.1 }

pub returns : goal.returns
returns c =
    let fits : Fits c.args.reader = record { letter = omega (arith, c.well_formed); expression = omega (arith, c.well_formed); setting = omega (arith, c.well_formed); year = omega (arith, c.well_formed); day = omega (arith, c.well_formed); hundredths = omega (arith, c.well_formed) } in
    let given = rw c.words_for-words.ensures at (joined c.feed_block_in_words-answer.ensures) in
    let fed = by-words c.args.reader c.args.symbols.now (lists c.args.indexes.now c.args.years.now c.args.days.now c.args.hundredths.now c.args.controls.now) fits given.0 given.1.0 given.1.1 in
    both ((ap (λ (q : Reader). fed_block_with q c.feed_block_in_words-answer.result) c.reader_in.ensures ∙ fed.0, fed.1))
