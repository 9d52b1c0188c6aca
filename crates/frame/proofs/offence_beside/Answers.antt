-- `offence_beside` meets its contract: in a frame of 100 and in one of 60 the digits are written again for as many elements.
use native.Mathlib.Omega.{arith}
use mathlib.Core.Path.{refl, sym, ap, ◌∙◌}
use mathlib.Core.List.{List}
use Prim.Native.Nat.{ℕ}
use lib.ListN.{length, take}
use lib.Seq.{length-take-le, take_all}
use Rattle.elements.specs.RunBits.{put_in}
use Rattle.elements.specs.Tens.{not-100, tens}
use Rattle.frame.specs.Exits.{put-60, put-100, beside-asked}
use Rattle.frame.specs.Offences.{offence_in}
use Rattle.frame.proofs.offence_beside.Goals as goal

pub offence_in-requires : goal.offence_in-requires
offence_in-requires c =
    let start = c in
    let digits = start.args.digits.now in
    let time = c.time_bits in
    let middle = c.middle_bits in
    let put = c.put_tens-then-frame-eq100.ensures ∙ ap (λ ss. tens ss 6 10 c.tail_bits.result) c.put_tens.ensures ∙ put-100 _ digits time.result middle.result start.requires.2 time.ensures.0 middle.ensures.0 c.tail_bits.result refl (c.tail_bits.ensures refl) in
    beside-asked 100 digits _ start.args.frame.now put c.if-frame-eq100.true (omega arith)

pub returns-then-frame-eq100 : goal.returns-then-frame-eq100
returns-then-frame-eq100 c =
    let start = c in
    let digits = start.args.digits.now in
    let time = c.time_bits in
    let middle = c.middle_bits in
    let put = c.put_tens-then-frame-eq100.ensures ∙ ap (λ ss. tens ss 6 10 c.tail_bits.result) c.put_tens.ensures ∙ put-100 _ digits time.result middle.result start.requires.2 time.ensures.0 middle.ensures.0 c.tail_bits.result refl (c.tail_bits.ensures refl) in
    c.offence_in.ensures ∙ ap (λ (ss : List ℕ). offence_in ss start.args.frame.now) (put ∙ ap (λ (n : ℕ). put_in n digits) (sym c.if-frame-eq100.true))

pub offence_in-requires-2 : goal.offence_in-requires-2
offence_in-requires-2 c =
    let start = c in
    let digits = start.args.digits.now in
    let time = c.time_bits in
    let middle = c.middle_bits in
    let put = c.put_tens-2.ensures ∙ put-60 _ digits time.result middle.result start.requires.2 time.ensures.0 middle.ensures.0 refl in
    let long = not-100 _ start.requires.3 c.if-frame-eq100.false in
    beside-asked 60 digits _ (take 60 start.args.frame.now) put (length-take-le 60 start.args.frame.now (omega arith)) (omega arith)

pub returns : goal.returns
returns c =
    let start = c in
    let frame = start.args.frame.now in
    let digits = start.args.digits.now in
    let time = c.time_bits in
    let middle = c.middle_bits in
    let put = c.put_tens-2.ensures ∙ put-60 _ digits time.result middle.result start.requires.2 time.ensures.0 middle.ensures.0 refl in
    let long = not-100 _ start.requires.3 c.if-frame-eq100.false in
    c.offence_in-2.ensures ∙ ap (λ (ss : List ℕ). offence_in ss (take 60 frame)) (put ∙ ap (λ (n : ℕ). put_in n digits) (sym long)) ∙ ap (λ (ss : List ℕ). offence_in (put_in (length frame) digits) ss) (take_all 60 frame (omega arith))
