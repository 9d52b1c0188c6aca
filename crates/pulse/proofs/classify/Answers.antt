-- `classify` meets its contract: refusal by refusal.
use mathlib.Core.Path.{sym, ap, ◌∙◌}
use Rattle.std.specs.Prelude.{ℕ, Result, Ok}
use Rattle.timecode.specs.declared.Refusal.{Refusal}
use lib.IntN.{ℤ}
use Rattle.timecode.specs.declared.Pulse.{Pulse}
use Rattle.timecode.specs.Calls.{classify_of}
use Rattle.pulse.specs.Pulses.{pulse-classed, pulse-deviation, deviation-back}
use Rattle.pulse.proofs.classify.Goals as goal

abbrev classified : ℕ → ℤ → Result Pulse Refusal
classified symbol deviation = Ok (record { symbol = symbol; deviation = deviation })

pub deviation_of-requires : goal.deviation_of-requires
deviation_of-requires c = pulse-classed c.args.settings c.args.interval c.args.width c.args.period _ (sym c.are_settings.ensures ∙ c.if-are_settings.true) c.symbol_of-symbol.ensures (sym c.is_interval.ensures ∙ c.if-is_interval.true)

pub returns-then-are_settings : goal.returns-then-are_settings
unfolding classify_of
returns-then-are_settings c =
    let start = c.args in
    let settings = sym c.are_settings.ensures ∙ c.if-are_settings.true in
    let deviation = c.deviation_of.ensures ∙ pulse-deviation start.settings start.interval start.width start.period _ settings c.symbol_of-symbol.ensures in
    rw (← c.is_interval.ensures, c.if-is_interval.true, ← c.are_settings.ensures, c.if-are_settings.true, ← c.symbol_of-symbol.ensures)
    (ap (classified c.symbol_of-symbol.result) (deviation-back start.settings start.interval start.width start.period (sym c.is_interval.ensures ∙ c.if-is_interval.true) settings _ deviation ∙ deviation))

pub returns-then-is_interval : goal.returns-then-is_interval
unfolding classify_of
returns-then-is_interval c = rw (← c.is_interval.ensures, c.if-is_interval.true, ← c.are_settings.ensures, c.if-are_settings.false)

pub returns : goal.returns
unfolding classify_of
returns c = rw (← c.is_interval.ensures, c.if-is_interval.false)
