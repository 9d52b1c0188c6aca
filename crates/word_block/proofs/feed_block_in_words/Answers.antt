-- `feed_block_in_words` meets its contract: 13, 26, 3, then the strides.
use mathlib.Core.Path.{sym, ◌∙◌}
use Rattle.block.specs.Blocks.{lists}
use Rattle.word_block.specs.BlockChecks.{fitted-ready, fitted-gives, not-placed, not_set, not-records}
use Rattle.word_block.proofs.feed_block_in_words.Goals as goal

joined : {A B C : Type 0} → record { value : A; reader_after : B; controls_after : C } → A × (B × C)
joined e = (e.value, (e.reader_after, e.controls_after))

both : {A B C : Type 0} → A × (B × C) → record { value : A; reader_after : B; controls_after : C }
both p = record { value = p.0; reader_after = p.1.0; controls_after = p.1.1 }

pub feed_strides-requires : goal.feed_strides-requires
feed_strides-requires c =
    let fitted = fitted-ready c.args.reader.now c.known_size-n.result c.is_placed.ensures.words_len c.known_size-n.ensures (sym c.is_placed.ensures.value ∙ c.if-is_placed.true) (sym c.is_set.ensures ∙ c.if-is_set.true) in
    rw c.fit_time.ensures (fitted.0, fitted.1, (sym c.are_equal.ensures ∙ c.if-are_equal.true))

pub returns-then-are_equal : goal.returns-then-are_equal
returns-then-are_equal c = both (fitted-gives c.args.reader.now c.known_size-n.result c.args.symbols.now (lists c.args.indexes.now c.args.years.now c.args.days.now c.args.hundredths.now c.args.controls.now) c.known_size-n.ensures (sym c.is_placed.ensures.value ∙ c.if-is_placed.true) (sym c.is_set.ensures ∙ c.if-is_set.true) (sym c.are_equal.ensures ∙ c.if-are_equal.true) c.is_placed.ensures.words_len (rw c.fit_time.ensures at (joined c.feed_strides.ensures)))

pub returns-then-is_set : goal.returns-then-is_set
returns-then-is_set c = both (not-records c.args.reader.now c.known_size-n.result c.args.symbols.now (lists c.args.indexes.now c.args.years.now c.args.days.now c.args.hundredths.now c.args.controls.now) c.known_size-n.ensures (sym c.is_placed.ensures.value ∙ c.if-is_placed.true) (sym c.is_set.ensures ∙ c.if-is_set.true) (sym c.are_equal.ensures ∙ c.if-are_equal.false))

pub returns-then-is_placed : goal.returns-then-is_placed
returns-then-is_placed c = both (not_set c.args.reader.now c.known_size-n.result c.args.symbols.now (lists c.args.indexes.now c.args.years.now c.args.days.now c.args.hundredths.now c.args.controls.now) c.known_size-n.ensures (sym c.is_placed.ensures.value ∙ c.if-is_placed.true) (sym c.is_set.ensures ∙ c.if-is_set.false))

pub returns : goal.returns
returns c = both (not-placed c.args.reader.now c.known_size-n.result c.args.symbols.now (lists c.args.indexes.now c.args.years.now c.args.days.now c.args.hundredths.now c.args.controls.now) c.known_size-n.ensures (sym c.is_placed.ensures.value ∙ c.if-is_placed.false))
