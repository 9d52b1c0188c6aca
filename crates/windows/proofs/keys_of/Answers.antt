-- `keys_of` meets its contract: 21, or the two keys.
use Rattle.windows.specs.Ways.{keys-taken, keys-backwards}
use Rattle.windows.proofs.keys_of.Goals as goal

pub returns-then-start-end : goal.returns-then-start-end
returns-then-start-end c = keys-taken c.args.count c.args.window _ _ (c.key_of-start.ensures.1, c.key_of-end.ensures.1) c.key_of-start.ensures.0 c.key_of-end.ensures.0 c.if-count-lt-MOST_WINDOWS.true c.if-start-end.true

pub returns-else-start-end : goal.returns-else-start-end
returns-else-start-end c = keys-backwards c.args.count c.args.window _ _ (c.key_of-start.ensures.1, c.key_of-end.ensures.1) c.key_of-start.ensures.0 c.key_of-end.ensures.0 c.if-start-end.false c.if-count-lt-MOST_WINDOWS.true
