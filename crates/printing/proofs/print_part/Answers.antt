use Rattle.std.proofs.Common.{arith, refl, inr, ap, length, ◌≡◌, ◌+◌, ◌-◌}
use Rattle.hearing.specs.Hearing.{rest_of, length_rest}
use Rattle.listing.specs.Parts.{reached-start, reached-turn}
use Rattle.printing.specs.Printing.{stopped}
use Rattle.printing.proofs.print_part.Goals as goal

pub loop-taken-init : goal.loop-taken-init
loop-taken-init c = (omega arith, reached-start c.args.progress c.args.bytes.now)

pub loop-taken-preserved : goal.loop-taken-preserved
loop-taken-preserved c =
    let part : length (rest_of c.args.bytes.now c.loop-taken.taken) ≡ length c.args.bytes.now - c.loop-taken.taken = length_rest c.args.bytes.now c.loop-taken.taken in (
      omega (arith, c.list-listed.ensures.3),
      reached-turn c.args.progress c.loop-taken.current _ c.args.bytes.now c.loop-taken.taken c.list-listed.result.taken c.loop-taken.invariant.1 c.list-listed.ensures.1,
    )

pub returns-then-not-write_first : goal.returns-then-not-write_first
returns-then-not-write_first c =
    let part : length (rest_of c.args.bytes.now c.loop-taken.taken) ≡ length c.args.bytes.now - c.loop-taken.taken = length_rest c.args.bytes.now c.loop-taken.taken in
    rw c.stop.ensures (
      inr (
        c.loop-taken.taken + c.list-listed.result.taken,
        omega (arith, c.list-listed.ensures.3),
        ap stopped (reached-turn c.args.progress c.loop-taken.current _ c.args.bytes.now c.loop-taken.taken c.list-listed.result.taken c.loop-taken.invariant.1 c.list-listed.ensures.1),
      ),
      refl,
    )
