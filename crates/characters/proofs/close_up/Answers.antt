-- `close_up` meets its contract: of the first i those kept stand in the first places.
use native.Mathlib.Omega.{arith}
use Prim.Native.Nat.{◌≤◌}
use mathlib.Core.Path.{refl}
use Rattle.characters.proofs.Decoding.{closed-start, closed-turn, symbols-few}
use Rattle.characters.proofs.close_up.Goals as goal

pub loop-i-init : goal.loop-i-init
loop-i-init c = closed-start _

pub overflow_add-count : goal.overflow_add-count
overflow_add-count c = let few : c.symbols_in-count.result ≤ 1 = rw c.symbols_in-count.ensures (symbols-few _) in omega (arith, c.loop-i.invariant.few, c.loop-i-test.true, c.requires, c.well_formed)

pub loop-i-preserved : goal.loop-i-preserved
loop-i-preserved c = closed-turn _ _ _ _ _ _ (omega (arith, c.loop-i-test.true, c.requires)) refl c.symbols_in-count.ensures c.loop-i.invariant
