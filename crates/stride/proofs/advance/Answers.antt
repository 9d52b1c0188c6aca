-- `advance` meets its contract.
use Rattle.stride.specs.Strides.{first-low, advance-way, frame-way}
use Rattle.register.specs.Contents.{receive-most}
use Rattle.stream.proofs.Feeding.{valid-place}
use native.Mathlib.Omega.{arith}
use Rattle.stride.proofs.advance.Goals as goal

pub stride_limit-end-requires : goal.stride_limit-end-requires
stride_limit-end-requires c = (rw c.receive-first.ensures (receive-most _ _ _ _ (omega (arith, c.frame_size-n.ensures.1))), c.frame_size-n.ensures.2, omega (arith, c.requires.2))

pub run_from-others-requires : goal.run_from-others-requires
run_from-others-requires c = (omega (arith, c.frame_size-n.ensures.1), c.frame_size-n.ensures.2, omega arith, c.stride_limit-end.ensures.0, c.stride_limit-end.ensures.1, c.requires.3, c.stride_limit-end.ensures.2, c.stride_limit-end.ensures.3, rw c.receive-first.ensures (first-low c.args.reader.format c.frame_size-n.result c.args.reader.received c.args.symbols.now c.args.from (c.requires.4 c.args.from c.requires.2)), c.requires.4)

pub place_after_many-place-requires : goal.place_after_many-place-requires
place_after_many-place-requires c = (omega (arith, valid-place c.args.reader c.requires.0, c.frame_size-n.ensures.0, c.frame_size-n.ensures.2), omega (arith, c.run_from-others.ensures.few, c.run_from-others.ensures.start), omega (arith, c.frame_size-n.ensures.1))

pub when_whole_here-whole-requires : goal.when_whole_here-whole-requires
when_whole_here-whole-requires c = (rw c.with_register-after.ensures c.frame_size-n.ensures.0, c.frame_size-n.ensures.2, omega (arith, c.run_from-others.ensures.start), omega (arith, c.run_from-others.ensures.within, c.requires.3), frame-way c.args.reader c.args.symbols.now c.args.from c.stride_limit-end.result c.args.to c.frame_size-n.result c.receive-first.result c.run_from-others.result.received c.run_from-others.result.stop c.place_after_many-place.result c.with_register-after.result (c.requires.0, c.requires.1) c.requires.3 c.requires.4 c.frame_size-n.ensures.0 c.receive-first.ensures c.run_from-others.ensures c.place_after_many-place.ensures c.with_register-after.ensures)

pub returns : goal.returns
returns c = advance-way c.args.reader c.args.symbols.now c.args.from c.stride_limit-end.result c.args.to c.frame_size-n.result c.receive-first.result c.run_from-others.result.received c.run_from-others.result.stop c.place_after_many-place.result c.with_register-after.result (c.requires.0, c.requires.1) c.requires.3 c.requires.4 c.frame_size-n.ensures.0 c.receive-first.ensures c.run_from-others.ensures c.place_after_many-place.ensures c.with_register-after.ensures c.when_whole_here-whole.result c.when_whole_here-whole.ensures
