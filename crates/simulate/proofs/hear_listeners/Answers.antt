-- `hear_listeners` meets its contract.
use Rattle.simulate.specs.Results.{run-result, made-fresh, made-never-refused}
use mathlib.Core.Path.{sym, ◌∙◌}
use Rattle.simulate.proofs.hear_listeners.Goals as goal

pub hear_run-all-requires : goal.hear_run-all-requires
hear_run-all-requires c = (made-fresh _ _ c.requires.0.is_known (sym c.fresh.ensures ∙ c.in_ok-reader.was), c.requires.0, c.requires.1)

pub returns : goal.returns
returns c = run-result _ _ _ _ _ _ _ _ c.requires.0 c.requires.1 _ c.hear_run-all.ensures _ c.counts_of.ensures

pub returns-in_err-reader : goal.returns-in_err-reader
returns-in_err-reader c = made-never-refused _ _ c.requires.0.is_known (sym c.fresh.ensures ∙ c.in_err-reader.was)
