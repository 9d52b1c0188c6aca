-- `put_frame` meets its contract: the digits of the time fit their runs, and the elements are theirs.
use borrow.Author.Rules.{rules}
use mathlib.Core.Path.{◌≡◌, sym, ap, ap₂, ◌∙◌}
use lib.ListN.{length}
use Rattle.timecode.proofs.Laws.Table.{size-range}
use Rattle.layout.specs.Runs.{code-small, code-written}
use Rattle.elements.specs.RunBits.{put_in, put_right}
use Rattle.elements.specs.Tens.{not-100, tens, length-tens}
use Rattle.frame.specs.Exits.{row-widths, put-60, put-100}
use Rattle.frame.proofs.put_frame.Goals as goal

pub digits_of-digits-requires : goal.digits_of-digits-requires
digits_of-digits-requires c = rw c.widths_of-widths.ensures (row-widths c.args.row.runs)

pub returns-then-frame-eq100 : goal.returns-then-frame-eq100
returns-then-frame-eq100 c =
    let start = c in
    let digits = c.digits_of-digits in
    let time = c.time_bits in
    let middle = c.middle_bits in
    let long : length digits.result ≡ 20 = search rules in
    let put = c.put_tens.ensures in
    let n = sym (ap length put ∙ length-tens _ _ _ _) ∙ c.if-frame-eq100.true in
    λ f o x valid m.
    let same = digits.ensures f x (c.widths_of-widths.ensures ∙ o.widths_are) valid in
    let small = code-small f start.args.time start.args.control valid in
    c.put_tens-then-frame-eq100.ensures
    ∙ ap (λ ss. tens ss 6 10 c.tail_bits-tail.result) put
    ∙ put-100 start.args.frame.now digits.result time.result middle.result long time.ensures.0 middle.ensures.0 c.tail_bits-tail.result n (c.tail_bits-tail.ensures n)
    ∙ ap₂ (λ k xs. put_in k xs) (sym n ∙ m) same
    ∙ put_right f valid.format x _ small _ (size-range f).1
    ∙ code-written f start.args.time start.args.control

pub returns-else-frame-eq100 : goal.returns-else-frame-eq100
returns-else-frame-eq100 c =
    let start = c in
    let digits = c.digits_of-digits in
    let time = c.time_bits in
    let middle = c.middle_bits in
    let long : length digits.result ≡ 20 = search rules in
    let put = c.put_tens.ensures in
    let n = not-100 (length start.args.frame.now) start.requires.1 (λ q. c.if-frame-eq100.false (ap length put ∙ length-tens _ _ _ _ ∙ q)) in
    λ f o x valid m.
    let same = digits.ensures f x (c.widths_of-widths.ensures ∙ o.widths_are) valid in
    let small = code-small f start.args.time start.args.control valid in
    put
    ∙ put-60 start.args.frame.now digits.result time.result middle.result long time.ensures.0 middle.ensures.0 n
    ∙ ap₂ (λ k xs. put_in k xs) (sym n ∙ m) same
    ∙ put_right f valid.format x _ small _ (size-range f).1
    ∙ code-written f start.args.time start.args.control
