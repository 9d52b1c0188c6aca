-- `are_digits` meets its contract: the digits from the index on decide.
use native.Mathlib.Omega.{arith}
use mathlib.Core.Path.{◌≡◌, sym, ◌∙◌}
use Prim.Native.Nat.{◌<◌, ◌≤◌}
use borrow.Author.Tests.{le-leb, lt-leb}
use lib.ListN.{length, take, get_or}
use Rattle.std.proofs.lemmas.List.{get_or-take, length-take-le}
use Rattle.digits.specs.Meaning.{digits-turn, digits-end}
use Rattle.digits.proofs.are_digits.Goals as goal

pub returns-then-digit-gt9 : goal.returns-then-digit-gt9
returns-then-digit-gt9 c =
    let i = c.loop-digit.digit-index in
    let ds = c.args.digits.now in
    let n : length (take 11 ds) ≡ 11 = length-take-le 11 ds (omega arith) in
    let lt : i < 11 = omega arith in
    let over : 9 < get_or ds i 0 = rw (get_or-take 11 ds i 0 lt) at c.if-digit-gt9.true in
    sym (c.loop-digit.invariant ∙ digits-turn ds i lt ∙ rw (lt-leb _ _ over))

pub loop-digit-preserved : goal.loop-digit-preserved
loop-digit-preserved c =
    let i = c.loop-digit.digit-index in
    let ds = c.args.digits.now in
    let n : length (take 11 ds) ≡ 11 = length-take-le 11 ds (omega arith) in
    let lt : i < 11 = omega arith in
    let within : get_or ds i 0 ≤ 9 = rw (get_or-take 11 ds i 0 lt) at c.if-digit-gt9.false in
    c.loop-digit.invariant ∙ digits-turn ds i lt ∙ rw (le-leb _ _ within)

pub returns : goal.returns
returns c =
    let i = c.loop-digit.digit-index in
    let ds = c.args.digits.now in
    let n : length (take 11 ds) ≡ 11 = length-take-le 11 ds (omega arith) in
    sym (c.loop-digit.invariant ∙ digits-end ds i (omega arith))
