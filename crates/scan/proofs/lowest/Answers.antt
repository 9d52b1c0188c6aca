-- `lowest` meets its contract: the places from the one reached on decide.
use native.Mathlib.Omega.{arith}
use mathlib.Core.Path.{sym, ◌∙◌}
use Prim.Native.Nat.{◌+◌}
use Rattle.scan.specs.Places.{part-at, refused-here, found_here, passed_over, skipped-to, none_left}
use Rattle.scan.proofs.lowest.Goals as goal

pub returns-then-recording-n : goal.returns-then-recording-n
returns-then-recording-n c = sym (none_left c.args.format c.args.recording.now c.args.first (omega (arith, c.frame_size-n.ensures.0)))

pub loop-place-preserved-in_default : goal.loop-place-preserved-in_default
loop-place-preserved-in_default c =
    let start = c in
    let n = c.frame_size-n in
    let reached = c.loop-place in
    let next = c.next_opening-place in
    let answer-is = sym (part-at start.args.format start.args.recording.now reached.place n.result n.ensures.0) ∙ sym c.read.ensures ∙ c.in_default.is in
    (omega (arith, next.ensures.0), reached.invariant.1 ∙ refused-here start.args.format start.args.recording.now reached.place (omega (arith, n.ensures.0)) _ answer-is ∙ skipped-to start.args.format start.args.recording.now (reached.place + 1) next.result next.ensures.0 (omega (arith, n.ensures.0, next.ensures.1)) next.ensures.2)

pub returns-then-may_begin : goal.returns-then-may_begin
returns-then-may_begin c =
    let start = c in
    let n = c.frame_size-n in
    let reached = c.loop-place in
    let answer-is = sym (part-at start.args.format start.args.recording.now reached.place n.result n.ensures.0) ∙ sym c.read.ensures ∙ c.in-Ok.is in
    let meet = c.may_begin.ensures.0 c.if-may_begin.true in
    sym (reached.invariant.1 ∙ found_here start.args.format start.args.recording.now reached.place (omega (arith, n.ensures.0)) _ c.marks_before-marks.ensures.0 meet _ _ answer-is)

pub loop-place-preserved : goal.loop-place-preserved
loop-place-preserved c =
    let start = c in
    let n = c.frame_size-n in
    let reached = c.loop-place in
    let next = c.next_opening-place-in-loop-place in
    (omega (arith, next.ensures.0), reached.invariant.1 ∙ passed_over start.args.format start.args.recording.now reached.place (omega (arith, n.ensures.0)) _ _ _ c.marks_before-marks.ensures.0 c.never_spoiled-whole.ensures.0 c.may_begin.ensures.1 c.if-may_begin.false ∙ skipped-to start.args.format start.args.recording.now (reached.place + 1) next.result next.ensures.0 (omega (arith, n.ensures.0, next.ensures.1)) next.ensures.2)

pub returns : goal.returns
returns c =
    let start = c in
    sym (c.loop-place.invariant.1 ∙ none_left start.args.format start.args.recording.now c.loop-place.place (omega (arith, c.frame_size-n.ensures.0)))
