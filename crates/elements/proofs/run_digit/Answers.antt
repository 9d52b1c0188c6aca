-- `run_digit` meets its contract: 0, or the digit at a run that lies in the frame.
use mathlib.Core.Path.{◌≡◌, sym, ap, ap₂, ◌∙◌}
use Prim.Native.Nat.{◌+◌}
use lib.ListN.{get_or}
use Rattle.timecode.specs.Layout.{value}
use Rattle.layout.specs.Tables.{run_starts, run_widths}
use Rattle.elements.specs.RunLoops.{run_digit, carried-width, no_digit}
use Rattle.elements.proofs.run_digit.Goals as goal

pub returns-then-not-is_carried : goal.returns-then-not-is_carried
returns-then-not-is_carried c =
    let start = c in
    no_digit start.args.runs start.args.frame.now start.args.run start.requires.2 (sym c.is_carried.ensures ∙ c.if-not-is_carried.true)

pub digit_at-requires : goal.digit_at-requires
digit_at-requires c =
    let start = c in
    let runs = start.args.runs in
    let run = start.args.run in
    let inside = start.requires.1 in
    let carried = sym c.is_carried.ensures ∙ c.if-not-is_carried.false in
    let width : get_or (run_widths runs) run 0 ≡ c.from-2.result = carried-width runs run start.requires.2 carried ∙ sym (c.from-2.ensures ∙ ap (λ ws. get_or ws run 0) c.full_widths-widths.ensures) in
    let at : get_or run_starts run 0 ≡ c.from.result = sym (c.from.ensures ∙ ap (λ ss. get_or ss run 0) start.requires.0) in
    (rw (← width) (inside.narrow run), λ k h. rw (← at) (inside.inside run k start.requires.2 (rw (← width) at h)))

pub returns : goal.returns
unfolding run_digit
returns c =
    let start = c in
    let runs = start.args.runs in
    let run = start.args.run in
    let carried = sym c.is_carried.ensures ∙ c.if-not-is_carried.false in
    let width = c.from-2.ensures ∙ ap (λ ws. get_or ws run 0) c.full_widths-widths.ensures ∙ sym (carried-width runs run start.requires.2 carried) in
    let at = c.from.ensures ∙ ap (λ ss. get_or ss run 0) start.requires.0 in
    c.digit_at.ensures ∙ ap₂ (λ w s. value w (λ b. get_or start.args.frame.now (s + b) 0)) width at
