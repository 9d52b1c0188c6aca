-- The number that the first j elements say.
use Rattle.std.proofs.Common.{◌≡◌, ℕ, ◌+◌, ◌*◌, sym, ap, ◌∙◌, arith}
use Rattle.tape.specs.Readings.{digit_of, digit-more, digit-none, digit-grows, digit-bound}
use Rattle.tape.specs.InWord.{elements_in, element-at}
use Rattle.tape.proofs.digit_in.Goals as goal

pub loop-j-init : goal.loop-j-init
loop-j-init c = (sym (digit-none (elements_in c.args.word) c.args.start), omega arith)

pub loop-j-preserved : goal.loop-j-preserved
loop-j-preserved c = (rw (c.from.ensures, c.element_in.ensures, c.loop-j.invariant.0) (sym (digit-more (elements_in c.args.word) c.args.start c.loop-j.j ∙ ap (λ (s : ℕ). s + 2 * digit_of (elements_in c.args.word) c.args.start c.loop-j.j) (element-at c.args.word (c.args.start + c.loop-j.j) (omega arith)))), digit-grows _ _ _ c.loop-j.invariant.1 (omega arith))

pub returns : goal.returns
returns c =
    let all : c.loop-j.j ≡ c.args.width = omega arith in
    (rw all at c.loop-j.invariant.0, digit-bound _ _ c.loop-j.invariant.1 (omega arith))
