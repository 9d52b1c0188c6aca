-- `read_tape` meets its contract: every element fits, or a symbol is above 3, or the lowest index that offends decides.
use Rattle.std.specs.Prelude.{Err}
use native.Mathlib.Omega.{arith}
use mathlib.Core.Path.{sym, ap, ◌∙◌}
use Rattle.timecode.specs.declared.Refusal.{Refusal}
use Rattle.tape.specs.Readings.{reads_so}
use Rattle.tape.specs.Offences.{some-offends, reads_all, reads-offence}
use Rattle.tape.proofs.read_tape.Goals as goal

pub returns-then-all_fit : goal.returns-then-all_fit
returns-then-all_fit c =
    let start = c in
    λ f x k. c.meaning.ensures ∙ sym (reads_all f start.args.frame.now x k start.requires (sym c.all_fit.ensures ∙ c.if-all_fit.true))

pub returns-then-not-are_symbols : goal.returns-then-not-are_symbols
returns-then-not-are_symbols c =
    let start = c in
    let symbols = c.are_symbols in
    λ f x k. sym (reads_so f start.args.frame.now x k start.requires ∙ rw (← symbols.ensures, c.if-not-are_symbols.true))

pub bounds-frame-index : goal.bounds-frame-index
bounds-frame-index c =
    let lowest = c.lowest_offending-index in
    let some = some-offends c.args.frame.now lowest.result lowest.ensures (sym c.all_fit.ensures ∙ c.if-all_fit.false) in
    omega (arith, (lowest.ensures.offends some).0)

pub returns : goal.returns
returns c =
    let start = c in
    let frame = start.args.frame.now in
    let symbols = c.are_symbols in
    let lowest = c.lowest_offending-index in
    let some = some-offends frame lowest.result lowest.ensures (sym c.all_fit.ensures ∙ c.if-all_fit.false) in
    λ f x k.
    ap (λ (r : Refusal). Err r) c.offence_at.ensures
    ∙ sym (reads-offence f frame x k start.requires lowest.result lowest.ensures some (sym symbols.ensures ∙ c.if-not-are_symbols.false))
