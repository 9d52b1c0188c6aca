-- `placed` meets its contract: nine bits lose none.
use native.Mathlib.Omega.{arith}
use Prim.Native.Nat.{◌+◌, ◌-◌, ◌%◌}
use lib.Pow.{pow_mono, shl_exact, shl_lt}
use Rattle.elements.proofs.placed.Goals as goal

pub returns : goal.returns
returns c =
    let x = c.args.digit % 512 in
    let k = c.args.start - c.args.from in
    let exact = shl_exact {a = x} 9 k 64 (omega arith) (omega (arith, c.requires)) in
    (exact, rw exact (omega (arith, shl_lt {a = x} 9 k (omega arith), pow_mono {i = 9 + k} {j = 59} (omega (arith, c.requires)))))
