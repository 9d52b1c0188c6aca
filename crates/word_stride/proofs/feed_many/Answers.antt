-- `feed_many` meets its contract: the run in the register, packed again.
use Rattle.word_stride.specs.WordRuns.{RunsIn, ready-two, runs_none, runs-in}
use Prim.Native.Nat.{ℕ}
use mathlib.Core.Path.{subst}
use native.Mathlib.Omega.{arith}
use Rattle.openings.specs.Accepted.{accepted-within, accepted-at}
use Rattle.word_feed.specs.InPlace.{ready-place}
use Rattle.word_stride.proofs.feed_many.Goals as goal

pub returns-then-from-to : goal.returns-then-from-to
returns-then-from-to c = subst (λ (k : ℕ). RunsIn c.args.reader.now c.args.n c.args.symbols.now c.args.from k c.args.reader.now c.args.from) c.if-from-to.true (runs_none c.args.reader.now c.args.n c.args.symbols.now c.args.from c.requires.0 c.requires.1)

pub run_end-end-requires : goal.run_end-end-requires
run_end-end-requires c = (c.requires.2, (ready-place c.args.reader.now c.args.n c.requires.0).1, c.requires.4)

pub run_from-run-requires : goal.run_from-run-requires
run_from-run-requires c = (ready-two c.args.reader.now c.args.n c.requires.0, (ready-place c.args.reader.now c.args.n c.requires.0).1, c.requires.3, c.run_end-end.ensures.0, c.run_end-end.ensures.1, omega (arith, c.requires.5, accepted-within c.args.symbols.now), c.run_end-end.ensures.2, (λ h. let short = c.run_end-end.ensures.3 h in omega arith), c.requires.6, λ j b. accepted-at c.args.symbols.now j (omega (arith, c.requires.5)))

pub place_after_many-place-requires : goal.place_after_many-place-requires
place_after_many-place-requires c = (omega (arith, ready-place c.args.reader.now c.args.n c.requires.0), omega (arith, c.run_from-run.ensures.few), omega (arith, ready-two c.args.reader.now c.args.n c.requires.0))

pub returns : goal.returns
returns c = runs-in c.args.reader.now c.args.n c.args.symbols.now c.args.from c.run_end-end.result c.args.to c.requires.0 c.requires.1 (omega (arith, c.requires.5, accepted-within c.args.symbols.now)) (λ j b. accepted-at c.args.symbols.now j (omega (arith, c.requires.5))) c.run_from-run.result.received c.run_from-run.result.stop c.place_after_many-place.result c.run_end-end.ensures.3 (rw c.format_in-format.ensures at c.run_from-run.ensures) c.place_after_many-place.ensures _ c.put_register.ensures
