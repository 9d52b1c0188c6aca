-- `control_fits` meets its contract: nothing is left of the word above the bits that are carried.
use mathlib.Core.Path.{◌≡◌, refl, sym, ap, ◌∙◌}
use Prim.Native.Nat.{ℕ, ◌+◌, ◌^◌}
use lib.Dec.{ltb}
use Rattle.digits.specs.Splitting.{fits-shift, total-control}
use Rattle.timecode.specs.Frames.{control_fits, total_width}
use Rattle.timecode.specs.Layout.{control}
use Rattle.digits.proofs.control_fits.Goals as goal

pub returns : goal.returns
unfolding control_fits
returns c =
    λ f same.
    let w = c.args.control in
    let bits : total_width (control f) ≡ c.width.result + c.width-2.result + c.width-3.result + c.width-4.result + c.width-5.result =
    total-control f ∙ rw (← same, c.width.ensures.0, c.width-2.ensures.0, c.width-3.ensures.0, c.width-4.ensures.0, c.width-5.ensures.0) refl in
    fits-shift w (c.width.result + c.width-2.result + c.width-3.result + c.width-4.result + c.width-5.result) ∙ ap (λ (n : ℕ). ltb w (2 ^ n)) (sym bits)
