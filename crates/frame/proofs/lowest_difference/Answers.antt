-- The lowest index so far, or else the elements from index on decide.
use Rattle.std.proofs.Common.{◌≡◌, sym, ap, ◌∙◌, ℕ, ◌+◌, ◌<◌, cond, ltb, get_or, drop, arith, min}
use Rattle.std.proofs.lemmas.Bool.Decides.{nat_tests}
use Rattle.frame.specs.Offences.{lowest_from, lowest_or, lowered, lowest-turn, lowered-below, lowest-end}
use Rattle.frame.proofs.lowest_difference.Goals as goal

least : (a b : ℕ) → min a b ≡ cond (ltb a b) a b
least a b = grind (arith, nat_tests)

pub loop-index-preserved : goal.loop-index-preserved
loop-index-preserved c =
    let loop = c.loop-index in
    let again = c.args.again.now in
    let frame = c.args.frame.now in
    let i = loop.index in
    let short : i < 255 = omega arith in
    let next : c.min-lowest.result ≡ lowered loop.lowest (get_or again i 0) (get_or frame i 0) i = c.min-lowest.ensures ∙ rw c.place.ensures (least _ _) in
    let below = lowered-below (get_or again i 0) (get_or frame i 0) i loop.lowest short loop.invariant.1 loop.invariant.2 in (
      loop.invariant.0 ∙ lowest-turn again frame i loop.lowest (omega arith) (omega arith) short loop.invariant.1 loop.invariant.2 ∙ sym (ap (λ (low : ℕ). lowest_or low (lowest_from (i + 1) (drop (i + 1) again) (drop (i + 1) frame))) next),
      rw next below.0,
      rw next below.1,
    )

pub returns : goal.returns
returns c =
    let loop = c.loop-index in
    (sym (loop.invariant.0 ∙ lowest-end c.args.again.now c.args.frame.now loop.index loop.lowest (omega arith)), λ h. let found = loop.invariant.1 (omega (arith, h)) in omega arith)
