-- `put_ten` meets its contract: eight bits one by one, the ninth, and the marks at the places that the table gives.
use mathlib.Core.Path.{◌≡◌, ap, ap₂, ◌∙◌}
use Prim.Native.Nat.{◌+◌, ◌*◌, ◌/◌, ◌%◌, ◌^◌}
use native.Mathlib.Omega.{arith}
use lib.ListN.{get_or, set}
use Rattle.elements.specs.Stores.{bits_stored, bits-stored-none, bits-stored-step}
use Rattle.elements.specs.Tens.{mark-place, first-ten, later-ten}
use Rattle.elements.proofs.put_ten.Goals as goal

pub loop-j-init : goal.loop-j-init
loop-j-init c = bits-stored-none c.args.frame.now (10 * c.args.k) c.args.x

pub loop-j-preserved : goal.loop-j-preserved
loop-j-preserved c =
    let a = c.args in
    let j = c.loop-j.j in
    ap (λ v. set c.loop-j.frame (10 * a.k + j) v) c.element.ensures ∙ ap (λ l. set l (10 * a.k + j) (a.x / 2 ^ j % 2)) c.loop-j.invariant ∙ bits-stored-step a.frame.now (10 * a.k) j a.x

pub returns-then-k-eq0 : goal.returns-then-k-eq0
returns-then-k-eq0 c =
    let a = c.args in
    let place : c.from.result ≡ 10 * a.k + 9 = c.from.ensures ∙ ap (λ ps. get_or ps (a.k + 1) 0) c.requires.1 ∙ mark-place a.k (omega arith) in
    let first : c.from-then-k-eq0.result ≡ 0 = c.from-then-k-eq0.ensures ∙ ap₂ (λ ps k. get_or ps k 0) c.requires.1 c.if-k-eq0.true in
    let all : c.loop-j.j ≡ 8 = omega arith in
    let eight : c.loop-j.frame ≡ bits_stored a.frame.now (10 * a.k) 8 a.x = rw all at c.loop-j.invariant in
    ap₂ (λ p q. set (set (set c.loop-j.frame (10 * a.k + 8) (a.x / 256 % 2)) p 2) q 2) place first
    ∙ ap (λ l. set (set (set l (10 * a.k + 8) (a.x / 256 % 2)) (10 * a.k + 9) 2) 0 2) eight ∙ first-ten a.frame.now a.k a.x c.if-k-eq0.true

pub returns-else-k-eq0 : goal.returns-else-k-eq0
returns-else-k-eq0 c =
    let a = c.args in
    let place : c.from.result ≡ 10 * a.k + 9 = c.from.ensures ∙ ap (λ ps. get_or ps (a.k + 1) 0) c.requires.1 ∙ mark-place a.k (omega arith) in
    let all : c.loop-j.j ≡ 8 = omega arith in
    let eight : c.loop-j.frame ≡ bits_stored a.frame.now (10 * a.k) 8 a.x = rw all at c.loop-j.invariant in
    ap (λ p. set (set c.loop-j.frame (10 * a.k + 8) (a.x / 256 % 2)) p 2) place
    ∙ ap (λ l. set (set l (10 * a.k + 8) (a.x / 256 % 2)) (10 * a.k + 9) 2) eight ∙ later-ten a.frame.now a.k a.x c.if-k-eq0.false
