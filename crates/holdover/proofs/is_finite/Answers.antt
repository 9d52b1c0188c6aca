-- `is_finite` meets its contract: a finite number lies between the infinities.
use mathlib.Core.Path.{◌≡◌, sym, ◌∙◌}
use mathlib.Core.Bool.{true, false}
use lib.Ieee.{inf, lt, div, neg, of_bits}
use Rattle.forecasts.specs.Exact.{finite-between}
use Rattle.holdover.proofs.is_finite.Goals as goal

pub returns-then-infinity-x : goal.returns-then-infinity-x
unfolding of_bits div neg
returns-then-infinity-x c =
    let x = c.args.x in
    let above : lt (inf true) x ≡ true = c.if-infinity-x.true in
    sym (finite-between x ∙ rw above)

pub returns-else-infinity-x : goal.returns-else-infinity-x
unfolding of_bits div neg
returns-else-infinity-x c =
    let x = c.args.x in
    let above : lt (inf true) x ≡ false = c.if-infinity-x.false in
    sym (finite-between x ∙ rw above)
