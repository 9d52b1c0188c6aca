-- `digits_of` meets its contract: what it makes of the time, its seconds and the control word are the digits.
use mathlib.Core.Bool.{cond}
use mathlib.Core.Path.{◌≡◌, ap, subst, ◌∙◌}
use Prim.Native.Nat.{◌*◌, ◌-◌, ◌/◌, ◌^◌}
use lib.Dec.{eqb}
use lib.ListN.{get_or}
use Rattle.layout.specs.Tables.{widths_of}
use Rattle.digits.specs.Splitting.{Widths, split_digits, split-digits, moved-fits}
use Rattle.digits.proofs.digits_of.Goals as goal

pub returns : goal.returns
unfolding split_digits
returns c =
    let a = c.args in
    let w = a.control in
    λ f x same valid.
    let width : c.width.result ≡ get_or (widths_of f) 13 0 = c.width.ensures.0 ∙ ap (λ ws. get_or ws 13 0) same in
    rw (c.from-year.ensures, c.from-day.ensures, c.from-c.ensures, c.from-added.ensures)
    (split-digits f a.time w c.carried-straight.result _ x valid
    (c.carried-straight.ensures ∙ rw c.from-c.ensures (ap (λ ws. cond (eqb (get_or ws 11 0) 0) 0 (a.time.hundredths / 100)) same))
    (moved-fits f w c.width.result (subst Widths same c.requires) valid.room c.width.ensures.1 ∙ ap (λ n. w * 2 ^ (9 - n)) width))
