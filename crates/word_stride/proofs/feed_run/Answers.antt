-- `feed_run` meets its contract: few symbols or many, as far as they are accepted.
use native.Mathlib.Omega.{arith}
use Rattle.openings.specs.Accepted.{accepted-within}
use Rattle.word_stride.proofs.feed_run.Goals as goal

pub overflow_sub-symbols : goal.overflow_sub-symbols
overflow_sub-symbols c = omega (arith, c.requires.4, accepted-within c.args.symbols.now)
