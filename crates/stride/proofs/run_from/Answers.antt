-- `run_from` meets its contract: up to the next opening, or to the last of some openings.
use Rattle.stride.specs.Strides.{runs-open, runs_to}
use mathlib.Core.Path.{ap, ◌∙◌}
use Prim.Native.Nat.{ℕ}
use Rattle.register.specs.Receiving.{begun_of}
use native.Mathlib.Omega.{arith}
use Rattle.stride.proofs.run_from.Goals as goal

pub returns-then-from-last : goal.returns-then-from-last
returns-then-from-last c = rw c.run_to.ensures.1 (runs-open c.args.format c.args.n c.args.first c.args.symbols.now c.args.next c.args.end c.args.to c.requires.0 c.requires.2 c.requires.3 c.requires.4 c.requires.5 c.requires.6 c.requires.7 c.requires.8 c.requires.9 c.last_opening-last.result c.run_to.result.received c.if-first-eq1.true (omega (arith, c.if-from-last.true)) (omega (arith, c.last_opening-last.ensures.1, c.openings_limit.ensures.1)) (omega (arith, c.last_opening-last.ensures.1, c.openings_limit.ensures.2, c.requires.2)) c.last_opening-last.ensures.2 (c.run_to.ensures.0 ∙ c.begun.ensures ∙ ap (λ (w : ℕ). begun_of w 1 0) c.push_many-newest.ensures))

pub returns : goal.returns
returns c = rw c.run_to-2.ensures.1 (runs_to c.args.format c.args.n c.args.first c.args.symbols.now c.args.next c.args.end c.args.to c.requires.0 c.requires.2 c.requires.3 c.requires.4 c.requires.5 c.requires.6 c.requires.7 c.requires.8 c.requires.9 c.next_opening-stop.result c.next_opening-stop.ensures.0 c.next_opening-stop.ensures.1 c.next_opening-stop.ensures.2 c.run_to-2.result.received (c.run_to-2.ensures.0 ∙ c.receive_run.ensures))
