-- `put_clock` meets its contract: four pairs, one behind another.
use native.Mathlib.Omega.{arith}
use Prim.Native.Nat.{◌%◌}
use mathlib.Core.List.{[], ◌∷◌}
use lib.ListN.{take}
use Rattle.lines.specs.Filling.{onto-together}
use Rattle.timecode.specs.Layout.{second, minute, hour}
use Rattle.lines.specs.Text.{pair_of, clock_of}
use Rattle.lines.proofs.Line.put_clock.Goals as goal

pub returns : goal.returns
unfolding clock_of
returns c =
    let t = c.args.hundredths in
    let h = c.put_pair.ensures in
    let m = c.put_pair-2.ensures in
    let s = c.put_pair-3.ensures in
    let u = c.put_pair-4.ensures in
    (omega (arith, h.0, m.0, s.0, u.0), rw (u.1, s.1, m.1, h.1) (onto-together (take c.args.self.now.filled c.args.self.now.bytes) (pair_of (hour t) 58 ∷ pair_of (minute t) 58 ∷ pair_of (second t) 46 ∷ pair_of (t % 100) 32 ∷ [])))
