-- `feed_few` meets its contract: one symbol after another is received, and the words are stored at the end.
use mathlib.Core.Path.{◌≡◌, refl}
use native.Mathlib.Omega.{arith}
use Prim.Native.Nat.{◌-◌}
use lib.ListN.{get_or}
use Rattle.openings.specs.Accepted.{accepted-within}
use Rattle.word_feed.specs.InPlace.{format_in, register_in, ready-place}
use Rattle.word_stride.specs.FewSymbols.{few-start, few-next, few-in, large}
use Rattle.word_stride.specs.WordRuns.{runs_none, runs-until}
use Rattle.word_stride.proofs.feed_few.Goals as goal

pub returns-then-from-symbols : goal.returns-then-from-symbols
returns-then-from-symbols c = runs-until c.requires.3 (runs_none c.args.reader.now c.args.n c.args.symbols.now c.args.from c.requires.0 c.requires.1)

pub few_end-end-requires : goal.few_end-end-requires
few_end-end-requires c =
    let start = c in
    (start.requires.2, (ready-place start.args.reader.now start.args.n start.requires.0).1, omega (arith, start.requires.3, accepted-within start.args.symbols.now))

pub loop-i-init : goal.loop-i-init
loop-i-init c =
    let start = c in
    let words = start.args.reader.now in
    let end = c.few_end-end in
    (refl, few-start (format_in (get_or words 0 0) (get_or words 1 0)) start.args.n (register_in words) start.args.symbols.now start.args.from end.result (large words start.args.n start.args.symbols.now start.args.from end.result start.requires.0 start.requires.1 (omega (arith, end.ensures.1, start.requires.4)) end.ensures.1 end.ensures.3) (omega (arith, end.ensures.1, start.requires.4)) end.ensures.1 end.ensures.0 start.requires.3 end.ensures.2 end.ensures.3)

pub put_few-requires : goal.put_few-requires
put_few-requires c =
    let start = c in
    let words = start.args.reader.now in
    let reached = c.loop-i in
    let end = c.few_end-end in
    rw reached.invariant.0 (start.requires.0.inside, (ready-place words start.args.n start.requires.0).1, omega (arith, reached.invariant.1.within, end.ensures.1, start.requires.4))

pub returns-then-symbol-gt-SPOILED : goal.returns-then-symbol-gt-SPOILED
returns-then-symbol-gt-SPOILED c =
    let start = c in
    let words = start.args.reader.now in
    let reached = c.loop-i in
    let end = c.few_end-end in
    few-in words start.args.n start.args.symbols.now start.args.from end.result start.requires.0 start.requires.1 (omega (arith, end.ensures.1, start.requires.4)) end.ensures.1 end.ensures.3 reached.invariant.1 _ (rw reached.invariant.0 at c.put_few.ensures)

pub count_with-count-requires : goal.count_with-count-requires
count_with-count-requires c =
    let start = c in
    let words = start.args.reader.now in
    let reached = c.loop-i in
    let end = c.few_end-end in
    omega (arith, reached.invariant.1.frame_left, (ready-place words start.args.n start.requires.0).1)

pub loop-i-preserved : goal.loop-i-preserved
loop-i-preserved c =
    let start = c in
    let words = start.args.reader.now in
    let reached = c.loop-i in
    let end = c.few_end-end in
    let f = format_in (get_or words 0 0) (get_or words 1 0) in
    (reached.invariant.0, few-next f start.args.n (register_in words) start.args.symbols.now start.args.from end.result (large words start.args.n start.args.symbols.now start.args.from end.result start.requires.0 start.requires.1 (omega (arith, end.ensures.1, start.requires.4)) end.ensures.1 end.ensures.3) (omega (arith, end.ensures.1, start.requires.4)) end.ensures.1 reached.invariant.1 c.loop-i-test.true (omega (arith, c.if-symbol-gt-SPOILED.false)) c.format_in-format.ensures c.opens_frame-opens.ensures c.count_with-count.ensures c.begun_with-begun.ensures c.push-newest.ensures)

pub put_few-requires-2 : goal.put_few-requires-2
put_few-requires-2 c =
    let start = c in
    let words = start.args.reader.now in
    let reached = c.loop-i in
    let end = c.few_end-end in
    rw reached.invariant.0 (start.requires.0.inside, (ready-place words start.args.n start.requires.0).1, omega (arith, end.ensures.1, start.requires.4))

pub returns : goal.returns
returns c =
    let start = c in
    let words = start.args.reader.now in
    let reached = c.loop-i in
    let end = c.few_end-end in
    let all : reached.i ≡ end.result = omega arith in
    few-in words start.args.n start.args.symbols.now start.args.from end.result start.requires.0 start.requires.1 (omega (arith, end.ensures.1, start.requires.4)) end.ensures.1 end.ensures.3 (rw all at reached.invariant.1) _ (rw reached.invariant.0 at c.put_few-2.ensures)
